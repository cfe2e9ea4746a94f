use Rattle.std.proofs.Common.{◌≡◌, ◌≤◌, ◌==◌, List, ℕ, [], ◌∷◌, ◌++◌, true, false, ltb, length, ap, sym, ◌∙◌, subst, length-append, arith, rules}
use Rattle.std.proofs.lemmas.Bool.Decides.{nat_tests}
use Rattle.nm_model.specs.Accept.{New, accept_data}
use Rattle.nm_model.specs.Knowledge.{IsKnow, Know}
use Rattle.nm_knowledge.specs.Octets.{same_octets}
use Rattle.nm_knowledge.proofs.Nexts.{data_is_new, new_is_next}
use Rattle.nm_knowledge.proofs.know.Know.add.Goals as goal

pub invariant_of-self-2 : goal.invariant_of-self-2
invariant_of-self-2 c =
    let before : Know (List ℕ) = record { list = c.self.inside.messages; clock = c.self.inside.clock } in
    let message : ℕ × List ℕ = (c.args.time, c.args.packet.now) in
    let asked = subst (λ (a : Know (List ℕ)). (accept_data same_octets a c.args.number message).answer ≡ New) (sym c.self.view_is) c.requires in
    let next = new_is_next same_octets before c.args.number message asked in
    let counted : c.args.number ≡ length c.self.inside.messages = let h = next.0 in grind (arith, nat_tests, h) in
    let later : c.self.inside.clock ≤ c.args.time = let h = next.1 in grind (arith, nat_tests, h) in
    let new = data_is_new before c.args.number counted same_octets message later next.2 in
    let items : c.push.new.self ≡ c.self.inside.messages ++ message ∷ [] = search rules in
    let kept = c.accept_laws.ensures.data_keeps same_octets before c.args.number message c.self.invariant.0 in
    let count = ap length items ∙ length-append c.self.inside.messages (message ∷ []) in
    (rw items (subst (λ z. IsKnow z) (ap (λ r. r.after) new) kept), omega (arith, count))
