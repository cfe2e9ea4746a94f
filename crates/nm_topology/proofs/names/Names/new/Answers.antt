use Rattle.std.proofs.lemmas.List.{length-map}
use Rattle.std.proofs.Common.{length, ℕ, Bool, cond, List, map, Bor, Result, Ok, Err, sym, ap, ◌∙◌}
use Rattle.std.specs.Str.{bytes_eq}
use Rattle.nm_topology.specs.declared.fault.Refusal.{Refusal}
use Rattle.nm_topology.specs.declared.fault.Refusal.TheVariants.{DoubleName}
use Rattle.nm_topology.proofs.Doubles.{has_double-map}
use Rattle.nm_topology.proofs.names.Names.new.Goals as goal

abbrev texts : List (Bor (List ℕ)) → List (List ℕ)
texts names = map (λ k. k.now) names

abbrev answer : List (List ℕ) → Bool → Result (List (List ℕ)) Refusal
answer names double = cond double (Err DoubleName) (Ok names)

pub returns-in-Some : goal.returns-in-Some
returns-in-Some c =
    let same = has_double-map bytes_eq (λ (k : Bor (List ℕ)). k.now) c.args.names.now in
    let h = rw c.in-Some.is at c.in_ok-set.ensures in
    record {
      len = length-map c.in-Some.set.keys (λ (k : Bor (List ℕ)). k.now) ∙ ap length h.1;
      value = ap (answer (texts c.args.names.now)) (same ∙ h.0) ∙ ap (λ names. Ok (texts names)) (sym h.1);
    }

pub returns-in-None : goal.returns-in-None
returns-in-None c =
    let same = has_double-map bytes_eq (λ (k : Bor (List ℕ)). k.now) c.args.names.now in
    let h = rw c.in-None.is at c.in_ok-set.ensures in
    record { len = tt; value = ap (answer (texts c.args.names.now)) (same ∙ h) }
