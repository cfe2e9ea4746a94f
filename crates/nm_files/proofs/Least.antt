-- Files that are read for the least interface whose file differs.
use Rattle.std.proofs.Common.{Contains, IfSome, ◌≡◌, ◌==◌, ◌⊎◌, inl, inr, ℕ, zero, suc, ◌+◌, ◌<◌, ◌≤◌, Bool, true, false, List, [], ◌∷◌, ◌++◌, get_or, take, map, OnOk, Option, Some, None, is_some, Result, Ok, Err, refl, sym, ◌∙◌, ap, subst, arith}
use Rattle.std.proofs.lemmas.Bool.{true≢false}
use Rattle.std.proofs.lemmas.Bool.Decides.{nat_tests}
use Rattle.std.proofs.lemmas.List.{append_assoc, take-map}
use Rattle.std.proofs.lemmas.List.Elements.{Contains-append_left, Contains-append_right}
use Rattle.nm_base.specs.declared.fault.Fault.{Fault}
use Rattle.nm_base.specs.declared.fault.Fault.TheVariants.{Memory, Refused}
use Rattle.nm_base.specs.declared.record.Record.{Record}
use Rattle.nm_pcap.specs.declared.form.Form.TheVariants.{Octets}
use Rattle.nm_pcap.specs.Format.{file_header, record_octets}
use Rattle.nm_files.specs.Checked.{DiffersIn, GoesOn, HaveRead, IsLonger, IsUnlike, is_looked_at, looked_at}
use Rattle.nm_files.specs.Least.{AreOpenBelow, AreReadBelow, DiffersWithin, HasRecord, IsFinished, IsOfHeaderOr}
use Rattle.nm_files.specs.TraceFile.{octets_after, written_at}
use Rattle.nm_files.specs.declared.checked_file.CheckCause.{CheckCause}
use Rattle.nm_files.specs.declared.checked_file.CheckCause.TheVariants.{Differs, Failed}
use Rattle.nm_files.specs.declared.checked_file.CheckedFile.{CheckedFile}
use Rattle.nm_files.specs.declared.checked_file.ReadFailed.{ReadFailed}
use Rattle.nm_files.specs.declared.least_checked.Difference.{Difference}
use Rattle.nm_files.specs.declared.least_checked.LeastChecked.{LeastChecked}
use Rattle.nm_files.proofs.Checked.{octets_there, unlike_after, unlike_more, within_first}
use Rattle.nm_files.proofs.Records.{written_at-append}

-- what stands in a trace file after more records
octets_more : (n : ℕ) (records more : List (Record (List ℕ))) → octets_after n records ++ written_at Octets n more ≡ octets_after n (records ++ more)
octets_more n records more =
    append_assoc file_header (written_at Octets n records) (written_at Octets n more)
    ∙ ap (λ l. file_header ++ l) (sym (written_at-append Octets n records more))

-- which of the first files are looked at
looked_first : {B : Type 0} (k : ℕ) (files : List (Option (CheckedFile B))) → looked_at (take k files) ≡ take k (looked_at files)
looked_first k files = sym (take-map (λ file. is_some file) k files)

first_of_first : {X : Type 0} (k m : ℕ) (xs : List X) → k ≤ m → take k (take m xs) ≡ take k xs
first_of_first zero m xs low = refl
first_of_first (suc k) zero xs low = absurd (omega (arith, low))
first_of_first (suc k) (suc m) [] low = refl
first_of_first (suc k) (suc m) (x ∷ xs) low = ap (λ l. x ∷ l) (first_of_first k m xs (omega (arith, low)))

-- one that is looked at among the first is one of all
pub looked_in_first : (k : ℕ) (bs : List Bool) (n : ℕ) → get_or (take k bs) n false ≡ true → (n < k) × (get_or bs n false ≡ true)
looked_in_first zero bs n seen = absurd (true≢false (sym seen))
looked_in_first (suc k) [] n seen = absurd (true≢false (sym seen))
looked_in_first (suc k) (b ∷ bs) zero seen = (omega arith, seen)
looked_in_first (suc k) (b ∷ bs) (suc n) seen = let there = looked_in_first k bs n seen in let low = there.0 in (omega (arith, low), there.1)

-- no file is its own among those below it
not_first : (k : ℕ) (bs : List Bool) → get_or (take k bs) k false ≡ true → ⊥
not_first k bs seen = let low = (looked_in_first k bs k seen).0 in omega (arith, low)

-- the first files were read as all were
first_read : {B : Type 0} (texts : ℕ → Option (List ℕ)) (left : B → Option (List ℕ)) (records : List (Record (List ℕ))) (k : ℕ) (files : List (Option (CheckedFile B)))
    → HaveRead texts left records files → HaveRead texts left records (take k files)
first_read texts left records k files read = record { each = λ n file at. read.each n file (within_first k files n (Some file) at).1 }

-- a fault that is a difference was kept, and the files behind it closed
abbrev Kept : {B : Type 0} → Fault CheckCause → List (Option (CheckedFile B)) → LeastChecked B → Type 0
Kept fault old new = (own octet : ℕ) × (fault ≡ Refused (Differs own octet)) × (new.files.files.items ≡ take own old) × (new.differs ≡ Some (record { iface = own; octet = octet }))

module _ {B : Type 0} (begun : LeastChecked B) where
  -- nothing was closed
  pub all_open : (P Q : Difference → Type 0) (old new : List (Option (CheckedFile B))) (was now : Option Difference) → now ≡ was → looked_at new ≡ looked_at old
      → ((d : Difference) → P d → Q d) → AreOpenBelow begun P old was → AreOpenBelow begun Q new now
  all_open P Q old new was now same looked more opened = subst (AreOpenBelow begun Q new) (sym same) (pick was opened)
    where
      pick : (was : Option Difference) → AreOpenBelow begun P old was → AreOpenBelow begun Q new was
      pick None (none, all) = (none, looked ∙ all)
      pick (Some d) (is, below) = (more d is, looked ∙ below)

  -- the file of a lesser interface differs
  pub less_open : (P Q : Difference → Type 0) (old new : List (Option (CheckedFile B))) (was : Option Difference) (own octet : ℕ) → is_looked_at old own ≡ true
      → looked_at new ≡ take own (looked_at old) → (is_looked_at begun.files.files.items own ≡ true → Q (record { iface = own; octet = octet }))
      → AreOpenBelow begun P old was → AreOpenBelow begun Q new (Some (record { iface = own; octet = octet }))
  less_open P Q old new None own octet seen looked differs (none, all) = (differs (ap (λ l. get_or l own false) (sym all) ∙ seen), looked ∙ ap (take own) all)
  less_open P Q old new (Some d) own octet seen looked differs (is, below) =
      let all = looked_at begun.files.files.items in
      let there = looked_in_first d.iface all own (ap (λ l. get_or l own false) (sym below) ∙ seen) in
      let low = there.0 in
      (differs there.1, looked ∙ ap (take own) below ∙ first_of_first own d.iface all (omega (arith, low)))

  -- what differs among some records does among them and more
  still_found : (records more : List (Record (List ℕ))) (d : Difference) → IsOfHeaderOr begun records d → IsOfHeaderOr begun (records ++ more) d
  still_found records more d (inl header) = inl header
  still_found records more d (inr (seen, (r, has, is))) = inr (seen, (r, Contains-append_left records more r has, is))

module _ (texts : ℕ → Option (List ℕ)) where
  still_differs : (records more : List (Record (List ℕ))) (own octet : ℕ) → DiffersIn texts own [] (octets_after own records) octet → DiffersIn texts own [] (octets_after own (records ++ more)) octet
  still_differs records more own octet h =
      subst (λ l. DiffersIn texts own [] l octet) (octets_more own records more)
      (unlike_more texts own [] (octets_after own records) (written_at Octets own more) (Refused (Differs own octet)) (refl, h)).1

  now_differs : (before : List (Record (List ℕ))) (r : Record (List ℕ)) (octet : ℕ) → DiffersIn texts r.iface (octets_after r.iface before) (record_octets r) octet
      → DiffersIn texts r.iface [] (octets_after r.iface (before ++ r ∷ [])) octet
  now_differs before r octet h =
      subst (λ l. DiffersIn texts r.iface [] l octet) (octets_there r.iface before r (itself r.iface))
      (unlike_after texts r.iface [] (octets_after r.iface before) (record_octets r) (Refused (Differs r.iface octet)) (refl, h)).1
    where
      itself : (n : ℕ) → (n == n) ≡ true
      itself n = grind (arith, nat_tests)

  module _ {B : Type 0} (left : B → Option (List ℕ)) (begun : LeastChecked B) where
    -- the files were read on over a record
    pub record_read : (before : List (Record (List ℕ))) (r : Record (List ℕ)) (old new : LeastChecked B) → AreReadBelow texts left begun before old
        → HaveRead texts left (before ++ r ∷ []) new.files.files.items → looked_at new.files.files.items ≡ looked_at old.files.files.items → new.differs ≡ old.differs
        → AreReadBelow texts left begun (before ++ r ∷ []) new
    record_read before r old new was read looked same = record {
      read = read;
      least = all_open begun (DiffersWithin texts begun before) (DiffersWithin texts begun (before ++ r ∷ [])) old.files.files.items new.files.files.items old.differs new.differs same looked
          (λ d is. (still_found begun before (r ∷ []) d is.0, still_differs before (r ∷ []) d.iface d.octet is.1)) was.least;
    }

    -- or the file of its interface differs
    pub record_differs : (before : List (Record (List ℕ))) (r : Record (List ℕ)) (old new : LeastChecked B) (mid : List (Option (CheckedFile B))) (fault : Fault CheckCause)
        → AreReadBelow texts left begun before old → looked_at mid ≡ looked_at old.files.files.items → is_looked_at old.files.files.items r.iface ≡ true
        → HaveRead texts left (before ++ r ∷ []) (take r.iface mid) → IsUnlike texts r.iface (octets_after r.iface before) (record_octets r) fault → Kept fault mid new
        → AreReadBelow texts left begun (before ++ r ∷ []) new
    record_differs before r old new mid fault was same seen lesser unlike (own, octet, is, items, differs) =
        let at = subst (IsUnlike texts r.iface (octets_after r.iface before) (record_octets r)) is unlike in
        let files : new.files.files.items ≡ take r.iface mid = items ∙ ap (λ k. take k mid) at.0 in
        let here : new.differs ≡ Some (record { iface = r.iface; octet = octet }) = differs ∙ ap (λ k. Some (record { iface = k; octet = octet })) at.0 in
        record {
          read = subst (HaveRead texts left (before ++ r ∷ [])) (sym files) lesser;
          least = subst (AreOpenBelow begun (DiffersWithin texts begun (before ++ r ∷ [])) new.files.files.items) (sym here)
              (less_open begun (DiffersWithin texts begun before) (DiffersWithin texts begun (before ++ r ∷ [])) old.files.files.items new.files.files.items old.differs r.iface octet seen (ap looked_at files ∙ looked_first r.iface mid ∙ ap (take r.iface) same)
              (λ opened. (inr (opened, (r, Contains-append_right before (r ∷ []) r (first_in r), refl)), now_differs before r octet at.1)) was.least);
        }
      where
        first_in : (r : Record (List ℕ)) → Contains (r ∷ []) r
        first_in r = (0, omega arith, refl)

  module _ {B : Type 0} (left : B → Option (List ℕ)) (records : List (Record (List ℕ))) (n : ℕ) where
    -- nothing comes behind what was read of a file
    pub file_ends : (old new : LeastChecked B) → HaveRead texts left records new.files.files.items → looked_at new.files.files.items ≡ looked_at old.files.files.items → new.differs ≡ old.differs
        → (is_looked_at old.files.files.items n ≡ true → IfSome (texts n) (λ text. text ≡ octets_after n records)) → IsFinished texts left records n old new
    file_ends old new read looked same whole = record {
      read = read;
      whole = λ seen. whole (ap (λ l. get_or l n false) (sym looked) ∙ seen);
      least = inl (same, looked);
    }

    -- or something does
    pub file_goes_on : (old new : LeastChecked B) (mid : List (Option (CheckedFile B))) (fault : Fault CheckCause) → HaveRead texts left records mid → looked_at mid ≡ looked_at old.files.files.items
        → is_looked_at old.files.files.items n ≡ true → IsLonger texts n (octets_after n records) fault → Kept fault mid new → IsFinished texts left records n old new
    file_goes_on old new mid fault read same seen longer (own, octet, is, items, differs) =
        let at = subst (IsLonger texts n (octets_after n records)) is longer in
        let files : new.files.files.items ≡ take n mid = items ∙ ap (λ k. take k mid) at.0 in
        let looked : looked_at new.files.files.items ≡ take n (looked_at old.files.files.items) = ap looked_at files ∙ looked_first n mid ∙ ap (take n) same in
        record {
          read = subst (HaveRead texts left records) (sym files) (first_read texts left records n mid read);
          whole = λ opened. absurd (not_first n (looked_at old.files.files.items) (ap (λ l. get_or l n false) (sym looked) ∙ opened));
          least = inr (octet, differs ∙ ap (λ k. Some (record { iface = k; octet = octet })) at.0, looked, seen, at.1);
        }
