-- The first member of an array that is refused.
use Rattle.std.proofs.Common.{◌≡◌, ℕ, zero, suc, ◌+◌, true, ◌&&◌, [], ◌∷◌, Option, Some, None}
use Rattle.std.proofs.Common.{Result, Ok, Err, refl, sym, ap, ◌∙◌, arith}
use Rattle.std.specs.Prelude.{if◌then◌else◌, nat_le}
use Rattle.toml.specs.Data.{Data, Items, array, get_item, item, no_items}
use Rattle.nm_topology.specs.declared.fault.Refusal.{Refusal}
use Rattle.nm_topology.specs.declared.fault.Refusal.TheVariants.{Kind, TooMany}
use Rattle.nm_topology.specs.Fault.{◌>>=◌}
use Rattle.nm_topology.specs.Parse.Arrays.{all_fit, array_of, count, each, is_table}
use Rattle.nm_topology.specs.Parse.Fields.{optional}
use Rattle.nm_check.specs.declared.first.MemberFault.{MemberFault}
use Rattle.nm_check.specs.First.{AreRead, first_from, or_later}
use Rattle.nm_check.specs.Reading.{outcome}
use Rattle.nm_check.proofs.Steps.{both, outcome-bind}

-- what is refused of the members of an array
abbrev pub refused_member : Option MemberFault → Result Unit Refusal
refused_member None = Ok tt
refused_member (Some f) = Err f.refusal

pub each-first : {X : Type 0} (reads : Data → Result X Refusal) (n : ℕ) (ds : Items) → outcome (each reads ds) ≡ refused_member (first_from (λ d. outcome (reads d)) n ds)
each-first reads n no_items = refl
each-first {X} reads n (item d ds) = go (each-first reads (n + 1) ds) (reads d)
  where
    go : outcome (each reads ds) ≡ refused_member (first_from (λ e. outcome (reads e)) (n + 1) ds) → (r : Result X Refusal) → outcome (r >>= λ x. each reads ds >>= λ xs. Ok (x ∷ xs)) ≡ refused_member (or_later n (outcome r) (first_from (λ e. outcome (reads e)) (n + 1) ds))
    go rest (Ok x) = outcome-bind (each reads ds) (λ xs. x ∷ xs) ∙ rest
    go rest (Err r) = refl

-- an array of tables that are not too many
pub array-first : {X : Type 0} (reads : Data → Result X Refusal) (limit : ℕ) (ds : Items) → (all_fit is_table ds && nat_le (count ds) limit) ≡ true → outcome (optional [] (array_of is_table limit reads) (Some (array ds))) ≡ refused_member (first_from (λ d. outcome (reads d)) 0 ds)
array-first reads limit ds e =
    let h = both (all_fit is_table ds) (nat_le (count ds) limit) e in
    ap (λ b. outcome (if b then (if nat_le (count ds) limit then each reads ds else Err TooMany) else Err Kind)) h.0
    ∙ ap (λ b. outcome (if b then each reads ds else Err TooMany)) h.1
    ∙ each-first reads 0 ds

-- the first is a member that is refused so, and those before it are read
pub record IsFirstAt (read : Data → Result Unit Refusal) (ds : Items) (j : ℕ) (r : Refusal) : Type 0 where
  pub member : Data
  pub there : get_item j ds ≡ Some member
  pub refused : read member ≡ Err r
  pub before : AreRead read ds j

pub first-is : (read : Data → Result Unit Refusal) (n : ℕ) (ds : Items) (f : MemberFault) → first_from read n ds ≡ Some f → (j : ℕ) × (f.number ≡ n + j) × IsFirstAt read ds j f.refusal
first-is read n no_items f e = cc
first-is read n (item d ds) f e = go (λ g. first-is read (n + 1) ds f g) (read d) refl e
  where
    later : (j : ℕ) → read d ≡ Ok tt → AreRead read ds j → AreRead read (item d ds) (suc j)
    later j h before zero e' below there = let same : ◌≡◌ {A = Data} d e' = cc in ap read (sym same) ∙ h
    later j h before (suc k) e' below there = before k e' (omega arith) there

    go : (first_from read (n + 1) ds ≡ Some f → (j : ℕ) × (f.number ≡ n + 1 + j) × IsFirstAt read ds j f.refusal) → (r : Result Unit Refusal) → read d ≡ r → or_later n r (first_from read (n + 1) ds) ≡ Some f → (j : ℕ) × (f.number ≡ n + j) × IsFirstAt read (item d ds) j f.refusal
    go further (Ok u) h g =
        let rest = further g in
        (suc rest.0, (let p = rest.1 in omega arith), record { member = rest.2.member; there = rest.2.there; refused = rest.2.refused; before = later rest.0 h rest.2.before })
    go further (Err r) h g =
        let same : ◌≡◌ {A = MemberFault} (record { number = n; refusal = r }) f = cc in (
          0,
          ap (λ m. m.number) (sym same) ∙ (omega arith),
          record {
            member = d;
            there = refl;
            refused = h ∙ ap (λ m. Err m.refusal) same;
            before = λ k e' below there. absurd (let no : ⊥ = omega arith in no);
          },
        )
