-- What the sister knows, merged.
use Rattle.std.proofs.Common.{◌≡◌, ◌∙◌, ℕ, ◌<◌, List, get_or, position, Option, Some, sym, ap, arith}
use Rattle.std.proofs.lemmas.Bool.Decides.{nat_tests}
use Rattle.std.proofs.lemmas.List.Quantifiers.{position-Some}
use Rattle.nm_frames.specs.declared.replica_name.ReplicaName.{ReplicaName}
use Rattle.nm_replica.specs.Sisters.{MergesSister, has_pass, is_sister_of}
use Rattle.nm_replica.specs.declared.sisters.Merged.{Merged}

-- what the replica of a book that stands there as the sister's knows was merged into the own one
pub merges_sister : {X : Type 0} (name : X → ReplicaName) (own : ReplicaName) (books : List X) (passes n : ℕ) (book : X) (m : Merged) (found : Option ℕ)
    → found ≡ position (λ b. is_sister_of own (name b)) books → found ≡ Some n → n < passes → m.into ≡ own → m.from ≡ name (get_or books n book)
    → MergesSister own (position (λ b. is_sister_of own (name b)) books) passes (Some m)
merges_sister name own books passes n book m found same is low into from =
    let place = sym same ∙ is in
    record {
      whether = sym (ap (λ o. has_pass o passes) place ∙ grind (arith, nat_tests, low));
      into = into;
      from =
          let one = (position-Some (λ b. is_sister_of own (name b)) books n book place).1 in
          ap (is_sister_of own) from ∙ one;
    }
