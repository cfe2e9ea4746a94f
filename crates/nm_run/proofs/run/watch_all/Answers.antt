use Rattle.std.proofs.Common.{◌≡◌, length, rules, subst, sym}
use Rattle.nm_run.specs.Watching.{IsOwnAt, names_of}
use Rattle.nm_run.proofs.Watching.{owns_more}
use Rattle.nm_run.proofs.run.watch_all.Goals as goal

pub loop-number-preserved : goal.loop-number-preserved
loop-number-preserved g c =
    let names = names_of c.args.threaded.now in
    let watched = c.loop-number.watched.items in
    let here : length watched ≡ c.loop-number.number = search rules in
    let at : IsOwnAt names (length watched) c.own_at-own.result = subst (λ n. IsOwnAt names n c.own_at-own.result) (sym here) (search rules) in
    record {
      within = search rules;
      count = search rules;
      owns = owns_more (λ w. w.own) names watched c.push.new.self.items c.in_ok-new.field-0 c.in_ok-push.ensures.items
          (subst (IsOwnAt names (length watched)) (sym c.in_ok-new.ensures) at) c.loop-number.invariant.owns;
    }
