-- The trace files of a run, taken from its replicas and closed.
use Rattle.std.proofs.Common.{◌≡◌, ◌⊎◌, inl, inr, ℕ, ◌<◌, ◌≤◌, Bool, true, false, All, List, [], ◌∷◌, ◌++◌, length, get_or, slice_get, Option, Some, None, is_some, refl, sym, ◌∙◌, ap, subst, arith, ⊎_elim}
use Rattle.std.proofs.lemmas.Bool.{cases_lt}
use Rattle.std.proofs.lemmas.List.{get_or_past}
use Rattle.std.proofs.lemmas.List.Elements.{All-from_get_or, All-get_or}
use Rattle.std.proofs.lemmas.Option.{get_or_from_slice_get, slice_get-get_or, slice_get_within}
use Rattle.nm_base.specs.Sink.{SinkSeen}
use Rattle.nm_pcap.specs.Writer.{Writer}
use Rattle.nm_topology.specs.PartValues.{IfaceValue}
use Rattle.nm_files.specs.Files.{AreCounted, HoldsFile, HoldsFiles, HoldsOctets, IsCounted}
use Rattle.nm_files.specs.Outputs.{Files}
use Rattle.nm_files.proofs.Folders.{element}
use Rattle.nm_shared.proofs.Pools.{all_more}
use Rattle.nm_run.specs.Files.{AreAsMany, AreSoMany, HoldsSome}
use Rattle.nm_run.specs.declared.report.IfaceTotals.{IfaceTotals}

-- of files that are counted each is, if it is there
pub one_counted : {S : Type 0} (seen : S → SinkSeen) (made : Option Files) (files : List (Option (Writer S))) (n : ℕ) → AreCounted seen made files
    → IsCounted seen made (get_or files n None)
one_counted seen made files n are =
    ⊎_elim (λ low. All-get_or (IsCounted seen made) files n None low are) (λ past. subst (IsCounted seen made) (sym (get_or_past files n None past)) tt)
    (cases_lt n (length files))

module _ {S : Type 0} (seen : S → SinkSeen) (made : Option Files) where
  -- a file that is counted holds some octets
  pub holds_some : (file : Option (Writer S)) (own : Writer S) → file ≡ Some own → IsCounted seen made file → HoldsSome seen made (Some own)
  holds_some file own is counted = subst (IsCounted seen made) is counted

  -- which files hold
  octets_at : (files : List (Option (Writer S))) → All (HoldsSome seen made) files → (n : ℕ) → (n < length files) ⊎ (length files ≤ n) → List ℕ
  octets_at files all n (inl low) = (all n None low).0
  octets_at files all n (inr past) = []

  pub octets_held : (files : List (Option (Writer S))) → All (HoldsSome seen made) files → ℕ → List ℕ
  octets_held files all n = octets_at files all n (cases_lt n (length files))

  are_held : (files : List (Option (Writer S))) (all : All (HoldsSome seen made) files) (n : ℕ) → n < length files → HoldsFile seen made true (octets_held files all n) (get_or files n None)
  unfolding octets_at octets_held
  are_held files all n low = pick (cases_lt n (length files))
    where
      pick : (place : (n < length files) ⊎ (length files ≤ n)) → HoldsFile seen made true (octets_at files all n place) (get_or files n None)
      pick (inl there) = (all n None there).1
      pick (inr past) = absurd (omega (arith, low, past))

  pub all_held : (ifaces : List IfaceValue) (files : List (Option (Writer S))) (all : All (HoldsSome seen made) files) → HoldsFiles seen made (λ n iface. true) ifaces (octets_held files all) files
  all_held ifaces files all = record { each = λ n iface low at. are_held files all n low }

  there : (octets : List ℕ) (o : Option (Writer S)) → HoldsFile seen made true octets o → (file : Writer S) × (o ≡ Some file) × HoldsOctets seen made octets file
  there octets None h = absurd h
  there octets (Some file) h = (file, refl, h)

  -- they are as many as were counted
  pub so_many : (totals : List IfaceTotals) (files : List (Option (Writer S))) (all : All (HoldsSome seen made) files) → length totals ≡ length files
      → AreAsMany totals files → AreSoMany totals (octets_held files all)
  so_many totals files all long counts n own at =
      let low : n < length files = omega (arith, slice_get_within totals n own at, long) in
      let h = there (octets_held files all n) (get_or files n None) (are_held files all n low) in
      sym h.2.counted ∙ counts n h.0 own (slice_get-get_or files n None low ∙ ap (λ o. Some o) h.1) at

-- of no files it is so
pub no_files : {S : Type 0} (totals : List IfaceTotals) (files : List (Option (Writer S))) → files ≡ [] → AreAsMany totals files
no_files {S} totals files none = subst (AreAsMany totals) (sym none) (λ n file own at. absurd (no file at))
  where
    no : (file : Writer S) → None ≡ Some (Some file) → ⊥
    no file e = cc

-- as many octets were written to one file more
pub one_as_many : {S : Type 0} (totals : List IfaceTotals) (files new : List (Option (Writer S))) (file : Writer S) (n : ℕ) (own : IfaceTotals) → length files ≡ n → new ≡ files ++ Some file ∷ []
    → slice_get totals n ≡ Some own → file.written ≡ own.octets → AreAsMany totals files → AreAsMany totals new
one_as_many {S} totals files new file n own count last at written before =
    subst (AreAsMany totals) (sym last)
    (λ m other its is. all_more (λ k o. (f : Writer S) (t : IfaceTotals) → o ≡ Some f → slice_get totals k ≡ Some t → f.written ≡ t.octets) files (Some file) (λ k o here f t same. before k f t (here ∙ ap (λ x. Some x) same))
    (λ f t same its. let e : file ≡ f = cc in let s : own ≡ t = (let h : Some own ≡ Some t = sym at ∙ ap (slice_get totals) (sym count) ∙ its in cc) in ap (λ w. w.written) (sym e) ∙ written ∙ ap (λ t. t.octets) s) m (Some other) is other its refl)

-- a file is there exactly where it is chosen
pub is_there : {S : Type 0} (seen : S → SinkSeen) (made : Option Files) (b : Bool) (octets : List ℕ) (o : Option (Writer S)) → HoldsFile seen made b octets o → is_some o ≡ b
is_there seen made false octets o none = ap is_some none
is_there seen made true octets None h = absurd h
is_there seen made true octets (Some file) h = refl

-- and counted
pub is_counted : {S : Type 0} (seen : S → SinkSeen) (made : Option Files) (b : Bool) (octets : List ℕ) (o : Option (Writer S)) → HoldsFile seen made b octets o → IsCounted seen made o
is_counted seen made false octets o none = subst (IsCounted seen made) (sym none) tt
is_counted seen made true octets None h = absurd h
is_counted seen made true octets (Some file) h = (octets, h)

-- the files of a folder are there where they are chosen, and counted
module _ {S : Type 0} (seen : S → SinkSeen) (made : Option Files) (chooses : ℕ → IfaceValue → Bool) (ifaces : List IfaceValue) (octets : ℕ → List ℕ) (files : List (Option (Writer S)))
    (held : HoldsFiles seen made chooses ifaces octets files) (long : length files ≡ length ifaces) where
  pub are_there : (n : ℕ) (file : Option (Writer S)) (chosen : Bool) → ((iface : IfaceValue) → slice_get ifaces n ≡ Some iface → chooses n iface ≡ chosen) → slice_get files n ≡ Some file → is_some file ≡ chosen
  are_there n file chosen is at =
      let low = slice_get_within files n file at in
      let iface = element ifaces n (omega (arith, low, long)) in
      ap is_some (sym (get_or_from_slice_get files n file None at)) ∙ is_there seen made (chooses n iface.0) (octets n) (get_or files n None) (held.each n iface.0 low iface.1) ∙ is iface.0 iface.1

  pub are_counted : AreCounted seen made files
  are_counted = All-from_get_or (IsCounted seen made) files None (λ n low.
      let iface = element ifaces n (omega (arith, low, long)) in
      is_counted seen made (chooses n iface.0) (octets n) (get_or files n None) (held.each n iface.0 low iface.1))
