use Rattle.std.proofs.Common.{rules, ◌≡◌, ℕ, ◌+◌, ◌<◌, ◌≤◌, List, [], ◌∷◌, ◌++◌, length, map, sym, ap, ◌∙◌, subst, arith}
use Rattle.std.specs.Prelude.{slice_index}
use Rattle.std.proofs.lemmas.List.{length-map}
use Rattle.nm_book.specs.declared.running.Ran.{Ran}
use Rattle.nm_shared.specs.Known.{ran}
use Rattle.nm_shared.specs.Pool.{AreAnswers, IsRunAnswer}
use Rattle.nm_shared.proofs.Pools.{all_more, answer_within, map_both, take_book, within_more}
use Rattle.nm_shared.proofs.workers.report.report_of.Goals as goal

pub loop-place-preserved : goal.loop-place-preserved
loop-place-preserved g c =
    let i = c.loop-place.invariant in
    let d = c.in_ok-done.done in
    let rs = c.loop-place.answers.items in
    let ps = c.loop-place.passes.items in
    let k : d.place ≡ c.loop-place.place = c.in_ok-done.ensures.place in
    let len : length g.J.Jobs.books ≡ length c.args.jobs.now = ap length c.requires.books ∙ length-map c.args.jobs.now (λ j. j.book) in
    let answers : c.push.new.self.items ≡ rs ++ d.answer ∷ [] = c.in_ok-push.ensures.items in
    let alen : length rs ≡ c.loop-place.place = sym c.loop-place.answers.ok.0 ∙ i.answers in
    let at : length rs ≡ d.place = alen ∙ sym k in
    let within : ran d.answer ≤ slice_index g.J.Jobs.limits c.loop-place.place
    = subst (λ p. ran d.answer ≤ slice_index g.J.Jobs.limits p) k (answer_within _ d.answer d.runs) in
    record {
      slots = i.slots;
      answers = search rules;
      books = ap (map (λ p. p.book)) c.in_ok-push-2.ensures.items ∙ take_book (λ p. p.book) ps g.J.Jobs.books c.loop-place.place _ i.books (omega arith) (d.book_is ∙ ap (λ p. slice_index g.J.Jobs.books p) k);
      counted = ap (map (λ p. g.C.Counts.events_of p.pass.share)) c.in_ok-push-2.ensures.items ∙ map_both (λ p. g.C.Counts.events_of p.pass.share) ran ps rs _ d.answer i.counted d.counted ∙ ap (map ran) (sym answers);
      within = subst (λ (l : List Ran). (j : ℕ) → j < c.loop-place.place + 1 → slice_index (map ran l) j ≤ slice_index g.J.Jobs.limits j) (sym answers) (within_more ran rs g.J.Jobs.limits c.loop-place.place d.answer alen i.within within);
      runs = subst (AreAnswers g.J.Jobs.limits) (sym answers)
          (all_more (λ n a. IsRunAnswer (slice_index g.J.Jobs.limits n) a) rs d.answer i.runs
          (subst (λ n. IsRunAnswer (slice_index g.J.Jobs.limits n) d.answer) (sym at) d.runs));
    }

pub returns-clause-within : goal.returns-clause-within
returns-clause-within g c = (search rules, λ k lt. c.loop-place.invariant.within k (omega arith))
