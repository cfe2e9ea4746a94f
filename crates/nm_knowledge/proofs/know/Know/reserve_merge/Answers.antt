use Rattle.std.proofs.Common.{◌≡◌, List, ℕ, None, max, sym, ◌∙◌, subst, arith, rules}
use Rattle.std.proofs.lemmas.Grind.{common_steps}
use Rattle.nm_model.specs.Knowledge.{Know, IsKnow}
use Rattle.nm_model.specs.Join.{join_fault}
use Rattle.nm_knowledge.specs.Octets.{same_octets}
use Rattle.nm_knowledge.proofs.Differences.{joins_own, joins_others}
use Rattle.nm_knowledge.proofs.know.Know.reserve_merge.Goals as goal
use Rattle.nm_knowledge.proofs.know.Know.reserve_merge.Goals.{After-max-clock}

-- what both know, and the later of their clocks
abbrev own : After-max-clock → Know (List ℕ)
own c = record { list = c.self.inside.messages; clock = c.self.inside.clock }

abbrev others : After-max-clock → Know (List ℕ)
others c = record { list = c.other.inside.messages; clock = c.other.inside.clock }

later : (c : After-max-clock) → c.max-clock.result ≡ max (own c).clock (others c).clock
later c = grind (arith, common_steps, c.max-clock.ensures)

pub returns-then-len-clause-joins : goal.returns-then-len-clause-joins
returns-then-len-clause-joins c =
    let s = (goal.at.returns-then-len-clause-joins c).After-max-clock in
    let faultless : join_fault same_octets (own s) (others s) ≡ None = rw (← c.self.view_is, ← c.other.view_is) at c.requires in
    rw (← c.self.view_is, ← c.other.view_is) ((λ i. record { list = (own s).list; clock = later s i }) ∙ sym (joins_own (own s) (others s) faultless (omega arith)))

pub returns-clause-joins : goal.returns-clause-joins
returns-clause-joins c =
    let s = (goal.at.returns-clause-joins c).After-max-clock in
    let copied : c.in_ok-messages.messages ≡ (others s).list = search rules in
    rw (← c.self.view_is, ← c.other.view_is) ((λ i. record { list = copied i; clock = later s i }) ∙ sym (joins_others (own s) (others s) (omega arith)))

pub returns-clause-fits : goal.returns-clause-fits
returns-clause-fits c =
    let s = (goal.at.returns-clause-fits c).After-max-clock in
    let copied : c.in_ok-messages.messages ≡ (others s).list = search rules in
    let joined = subst (λ (k : Know (List ℕ)). IsKnow k) (joins_others (own s) (others s) (omega arith)) (c.join_laws.ensures.keeps (own s) (others s) c.self.invariant.0 c.other.invariant.0) in
    record {
      known = subst (λ (k : Know (List ℕ)). IsKnow k) (λ i. record { list = sym copied i; clock = sym (later s) i }) joined;
      most = rw copied c.other.invariant.1;
    }
