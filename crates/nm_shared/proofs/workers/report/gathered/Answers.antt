use Rattle.std.proofs.Common.{◌≡◌, ◌∷◌, length, ap, subst, sym, ◌∙◌, rules}
use Rattle.std.specs.Vec.Iter.{into_iter_items}
use Rattle.nm_shared.specs.Pool.{HadMemory, done_by, put_in_places}
use Rattle.nm_shared.proofs.Pools.{done_none, had_memory_more, had_memory_none, put_behind}
use Rattle.nm_shared.proofs.workers.report.gathered.Goals as goal

pub loop-result-preserved : goal.loop-result-preserved
unfolding done_by
loop-result-preserved g c =
    let slots = c.loop-result.slots.items in
    let done = c.in_ok-result.field-0.items in
    let rest = into_iter_items c.next.new.self in
    record {
      length = search rules;
      put =
          ap (λ s. put_in_places (λ d. d.place) s (done_by rest)) c.put_all.ensures.put
          ∙ put_behind (λ d. d.place) slots done (done_by rest)
          ∙ sym (ap (λ l. put_in_places (λ d. d.place) slots (done_by l)) (c.in-Some.ensures.steps.0 ∙ ap (λ r. r ∷ rest) c.in_ok-result.was))
          ∙ c.loop-result.invariant.put;
      memory = λ h. c.loop-result.invariant.memory
          (subst HadMemory (sym (c.in-Some.ensures.steps.0 ∙ ap (λ r. r ∷ rest) c.in_ok-result.was)) (had_memory_more c.in_ok-result.field-0 rest h));
    }

pub returns-clause-put : goal.returns-clause-put
unfolding put_in_places
returns-clause-put g c =
    let left = into_iter_items c.loop-result.result-iterator in
    let none : length left ≡ 0 = let h = c.in-None.ensures.steps.0 in search rules in
    let slots = c.loop-result.slots.items in
    let all = sym (ap (put_in_places (λ d. d.place) slots) (done_none left none)) ∙ c.loop-result.invariant.put in
    c.put_all-2.ensures.put ∙ ap (λ s. put_in_places (λ d. d.place) s c.args.fed.items) all
    ∙ put_behind (λ d. d.place) c.args.slots.items (done_by c.args.results.items) c.args.fed.items

pub returns-clause-memory : goal.returns-clause-memory
returns-clause-memory g c =
    let left = into_iter_items c.loop-result.result-iterator in
    let none : length left ≡ 0 = let h = c.in-None.ensures.steps.0 in search rules in
    c.loop-result.invariant.memory (had_memory_none left none)
