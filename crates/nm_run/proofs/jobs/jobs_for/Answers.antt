use Rattle.std.proofs.Common.{◌≡◌, ◌<◌, ◌≤◌, ℕ, All, length, get_or, rules, sym, subst, ◌∙◌, ap, arith}
use Rattle.std.specs.Prelude.{slice_get}
use Rattle.std.proofs.Math.Seq.{map-set_same}
use Rattle.std.proofs.lemmas.List.Elements.{All-push}
use Rattle.nm_run.specs.Watching.{AreOwns, WasLookedAt, names_of, owns_of}
use Rattle.nm_run.specs.declared.stations.Own.{Own}
use Rattle.nm_run.proofs.Watching.{all_by_place, get_is_within, one_more_by_place, own_there}
use Rattle.std.proofs.lemmas.List.{length-set}
use Rattle.nm_run.proofs.jobs.jobs_for.Goals as goal
use Rattle.nm_run.proofs.jobs.jobs_for.Goals.{in-Some-wants+in_ok-push, in_default-wants, else-loop-number-test, then-loop-number-test+in_default}

pub loop-number-preserved : goal.loop-number-preserved
loop-number-preserved g c =
    let watched = c.loop-number.watched.items in
    let books = c.args.threaded.now.books.now in
    let n = c.loop-number.number in
    let w = c.in-Some.one.now in
    let there : w ≡ get_or watched n w = search rules in
    let low : n < length books = search rules in
    let long : n < length watched = search rules in
    let names = names_of c.args.threaded.now in
    let owns = subst (AreOwns names) (sym c.loop-number.invariant.owns) c.requires.owns in
    let here = ap (λ (o : Own). o.index) c.wants.ensures.own ∙ own_there names watched n w owns long there in
    record {
      seat = c.wants.ensures.seat;
      named = elim c.match-wants.branch [
        | in-Some-wants+in_ok-push w ↦
            subst (λ v. All (λ j. j.book < length books) v.items) (sym w.jobs-is)
            (subst (All (λ j. j.book < length books)) (sym w.in_ok-push.ensures.items)
            (All-push (λ j. j.book < length books) c.loop-number.jobs.items w.job.result c.loop-number.invariant.named (subst (λ (i : ℕ). i < length books) (sym (w.job.ensures.0 ∙ here)) low)))
        | in_default-wants w ↦ subst (λ v. All (λ j. j.book < length books) v.items) (sym w.jobs-is) c.loop-number.invariant.named
      ];
      watched =
          let more : length watched ≡ length c.args.watched.now.items = c.loop-number.invariant.long in
          elim c.match-wants.branch [
            | in-Some-wants+in_ok-push w ↦
                subst (λ v. All (λ j. j.book < length c.args.watched.now.items) v.items) (sym w.jobs-is)
                (subst (All (λ j. j.book < length c.args.watched.now.items)) (sym w.in_ok-push.ensures.items)
                (All-push (λ j. j.book < length c.args.watched.now.items) c.loop-number.jobs.items w.job.result c.loop-number.invariant.watched
                (let book = w.job.ensures.0 ∙ here in omega (arith, book, more, long))))
            | in_default-wants w ↦ subst (λ v. All (λ j. j.book < length c.args.watched.now.items) v.items) (sym w.jobs-is) c.loop-number.invariant.watched
          ];
      owns =
          let kept = map-set_same (λ x. x.own) watched n c.wants.new.self w (c.wants.ensures.own ∙ ap (λ x. x.own) there) ∙ c.loop-number.invariant.owns in
          elim c.match-wants.branch [
            | in-Some-wants+in_ok-push w ↦ ap (λ v. owns_of v.items) w.watched-is ∙ kept
            | in_default-wants w ↦ ap (λ v. owns_of v.items) w.watched-is ∙ kept
          ];
      long = elim c.match-wants.branch [
        | in-Some-wants+in_ok-push w ↦ ap (λ v. length v.items) w.watched-is ∙ length-set watched n c.wants.new.self ∙ c.loop-number.invariant.long
        | in_default-wants w ↦ ap (λ v. length v.items) w.watched-is ∙ length-set watched n c.wants.new.self ∙ c.loop-number.invariant.long
      ];
      looked =
          let more = one_more_by_place WasLookedAt watched n c.wants.new.self c.loop-number.invariant.looked c.wants.ensures.looked in
          elim c.match-wants.branch [
            | in-Some-wants+in_ok-push w ↦ λ k a low is. more k a low (ap (λ v. slice_get v.items k) (sym w.watched-is) ∙ is)
            | in_default-wants w ↦ λ k a low is. more k a low (ap (λ v. slice_get v.items k) (sym w.watched-is) ∙ is)
          ];
    }

pub returns-clause-looked : goal.returns-clause-looked
returns-clause-looked g c = λ few.
    let watched = c.loop-number.watched.items in
    let n = c.loop-number.number in
    let all = λ (past : length watched ≤ n). all_by_place WasLookedAt watched
    (λ k a is. c.loop-number.invariant.looked k a (omega (arith, past, get_is_within watched k a is)) is) in
    elim c.loop-number-test.branch [
      | else-loop-number-test w ↦
          let end : length c.args.threaded.now.books.now ≤ n = search rules in
          subst (λ v. All WasLookedAt v.items) (sym w.watched-is) (all (omega (arith, few, c.loop-number.invariant.long, end)))
      | then-loop-number-test+in_default w ↦
          let none : length watched ≤ n = search rules in
          subst (λ v. All WasLookedAt v.items) (sym w.watched-is) (all none)
    ]
