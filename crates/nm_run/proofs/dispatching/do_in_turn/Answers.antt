use Rattle.std.proofs.Common.{◌≡◌, ◌+◌, ◌<◌, ◌≤◌, length, get_or, sym, ◌∙◌, ap, subst, rules, arith}
use Rattle.std.proofs.Math.Seq.{map-set_same}
use Rattle.std.proofs.lemmas.List.{length-set}
use Rattle.nm_run.specs.Watching.{AreOwns, names_of, owns_of}
use Rattle.nm_run.proofs.Watching.{all_at, own_there}
use Rattle.nm_run.proofs.dispatching.do_in_turn.Goals as goal
use Rattle.nm_run.proofs.dispatching.do_in_turn.Goals.{in-Some+in_ok-noted, in_default}

pub run-run-requires : goal.run-run-requires
run-run-requires g c =
    let names = names_of c.args.threaded.now in
    let watched = c.loop-number.dispatcher.watched.items in
    let n = c.job-job.result.now.book in
    let w = c.in-Some.watched.now in
    let low : n < length watched = search rules in
    let there : w ≡ get_or watched n w = search rules in
    own_there names watched n w (subst (AreOwns names) (sym c.loop-number.invariant.owns) c.requires.owns) low there
    ∙ ap (λ j. j.book) c.job-job.ensures

pub note-requires : goal.note-requires
note-requires g c =
    let names = names_of c.args.threaded.now in
    let watched = c.loop-number.dispatcher.watched.items in
    let n = c.job-job.result.now.book in
    let w = c.in-Some.watched.now in
    let low : n < length watched = search rules in
    let there : w ≡ get_or watched n w = search rules in
    ap (λ o. o.index) c.run-run.ensures.own
    ∙ own_there names watched n w (subst (AreOwns names) (sym c.loop-number.invariant.owns) c.requires.owns) low there

pub loop-number-preserved : goal.loop-number-preserved
loop-number-preserved g c =
    let watched = c.loop-number.dispatcher.watched.items in
    let n = c.job-job.result.now.book in
    let was = c.loop-number.invariant in
    let within : c.loop-number.number + 1 ≤ length c.args.jobs.now = search rules in
    elim c.match-get_mut.branch [
      | in-Some+in_ok-noted w ↦
          let own = w.in-Some.watched.now in
          let there : own ≡ get_or watched n own = search rules in
          let same = w.in_ok-noted.ensures.own ∙ w.run-run.ensures.own ∙ ap (λ x. x.own) there in
          record {
            within = within;
            count = ap (λ d. d.count) w.done-is ∙ w.and-done.ensures.count ∙ ap (λ n. n + 1) was.count;
            many = ap (λ d. length d.watched.items) w.dispatcher-is ∙ length-set watched n w.note.new.watched ∙ was.many;
            seat = ap (λ d. d.seat) w.dispatcher-is ∙ was.seat;
            owns = ap (λ d. owns_of d.watched.items) w.dispatcher-is ∙ map-set_same (λ x. x.own) watched n w.note.new.watched own same ∙ was.owns;
          }
      | in_default w ↦
          let named = all_at (λ j. j.book < length c.args.dispatcher.now.watched.items) c.args.jobs.now c.loop-number.number c.at-placed.result.job.now c.requires.named c.at-placed.ensures.job in
          let none : length watched ≤ n = search rules in
          let same = ap (λ j. j.book) c.job-job.ensures in
          absurd (omega (arith, named, none, same, was.many))
    ]
