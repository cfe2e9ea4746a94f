-- Trace files of a folder, from their making to their names.
use Rattle.std.proofs.Common.{◌≡◌, ◌⊎◌, inl, inr, ℕ, zero, suc, ◌+◌, ◌<◌, ◌==◌, Bool, true, false, cond, List, [], ◌∷◌, ◌++◌, get_or, length, length-append, map, Option, Some, None, option_map, slice_get, sym, ◌∙◌, ap, subst, refl, arith}
use Rattle.std.specs.Io.KnownBytes.{Appends}
use Rattle.std.specs.Option.{option_to_list}
use Rattle.std.proofs.Math.ListN.{get_or-append}
use Rattle.std.proofs.Math.Seq.{get_or-append_seam}
use Rattle.std.proofs.lemmas.Bool.Decides.{nat_tests}
use Rattle.std.proofs.lemmas.Option.{slice_get-get_or}
use Rattle.nm_base.specs.Sink.{SinkSeen}
use Rattle.nm_base.specs.Count.{saturated}
use Rattle.nm_base.specs.declared.fault.Fault.{Fault}
use Rattle.nm_base.specs.declared.fault.Fault.TheVariants.{Memory, Refused}
use Rattle.nm_base.specs.declared.record.Record.{Record}
use Rattle.nm_pcap.specs.declared.form.Form.TheVariants.{Octets}
use Rattle.nm_pcap.specs.Format.{file_header}
use Rattle.nm_pcap.specs.Writer.{Writer}
use Rattle.nm_topology.specs.PartValues.{IfaceValue}
use Rattle.nm_files.specs.Files.{FileTook, FilesTook, HoldsFile, HoldsFiles, IsBegun, HoldsOctets}
use Rattle.nm_files.specs.Folder.{HasOpened, IsClosedAs, IsOneOf, chosen_file}
use Rattle.nm_files.specs.Names.{file_name}
use Rattle.nm_files.specs.Outputs.{AreWhole, Files, IsEmpty}
use Rattle.nm_files.specs.TraceFile.{octets_after, written_at}
use Rattle.nm_files.specs.declared.closed_files.ClosedFile.{ClosedFile}
use Rattle.nm_files.specs.declared.trace_files.FileFault.{FileFault}
use Rattle.nm_files.proofs.Made.{appended}

-- an element below the end is there
pub element : {X : Type 0} (xs : List X) (n : ℕ) → n < length xs → (x : X) × (slice_get xs n ≡ Some x)
element [] n low = absurd (omega (arith, low))
element (x ∷ xs) zero low = (x, refl)
element (x ∷ xs) (suc n) low = element xs n (omega (arith, low))

module _ {S : Type 0} (seen : S → SinkSeen) (made : Option Files) where
  -- a file that was begun over an empty sink has its header alone
  pub begun_holds : (sink : S) (file : Writer S) → IsEmpty made (seen sink).taken → IsBegun seen sink file → HoldsOctets seen made file_header file
  begun_holds sink file empty begun = record {
    form = begun.form;
    taken = λ first told. appended (seen sink).taken (seen file.sink).taken file_header [] begun.header (empty first told);
    counted = begun.counted;
  }

  module _ (chooses : ℕ → IfaceValue → Bool) (ifaces : List IfaceValue) where
    -- of no interface a file was begun so far
    pub none_holds : (octets : ℕ → List ℕ) (files : List (Option (Writer S))) → files ≡ [] → HoldsFiles seen made chooses ifaces octets files
    none_holds octets files none = record {
      each = λ n iface low at. let e = ap length none in absurd (omega (arith, low, e));
    }

    -- octets that are said otherwise
    pub same_octets : (octets others : ℕ → List ℕ) (files : List (Option (Writer S))) → ((n : ℕ) → octets n ≡ others n) → HoldsFiles seen made chooses ifaces octets files
        → HoldsFiles seen made chooses ifaces others files
    same_octets octets others files same held = record {
      each = λ n iface low at. subst (λ l. HoldsFile seen made (chooses n iface) l (get_or files n None)) (same n) (held.each n iface low at);
    }

    -- one more file was begun
    pub one_holds : (files new : List (Option (Writer S))) (n : ℕ) (iface : IfaceValue) → length files ≡ n → slice_get ifaces n ≡ Some iface
        → HoldsFiles seen made chooses ifaces (λ k. file_header) files → HasOpened seen made (chooses n iface) files new → HoldsFiles seen made chooses ifaces (λ k. file_header) new
    one_holds files new n iface count is held opened = record {
      each = λ m other low at. pick m other (subst (λ l. m < length l) opened.1 low) at (m == n) refl;
    }
      where
        file : Option (Writer S)
        file = opened.0

        same : (other : IfaceValue) → Some other ≡ Some iface → other ≡ iface
        same other e = cc

        pick : (m : ℕ) (other : IfaceValue) → m < length (files ++ file ∷ []) → slice_get ifaces m ≡ Some other → (b : Bool) → (m == n) ≡ b
            → HoldsFile seen made (chooses m other) file_header (get_or new m None)
        pick m other low at true here =
            let e : m ≡ n = grind (arith, nat_tests, here) in
            let is_other : other ≡ iface = same other (sym at ∙ ap (slice_get ifaces) e ∙ is) in
            let last : get_or new m None ≡ file = ap (λ l. get_or l m None) opened.1 ∙ ap (λ k. get_or (files ++ file ∷ []) k None) (e ∙ sym count) ∙ get_or-append_seam files file [] None in
            subst (HoldsFile seen made (chooses m other) file_header) (sym last)
            (subst (λ k. HoldsFile seen made (chooses k other) file_header file) (sym e) (subst (λ i. HoldsFile seen made (chooses n i) file_header file) (sym is_other) opened.2))
        pick m other low at false here =
            let long = length-append files (file ∷ []) in
            let less : m < length files = grind (arith, nat_tests, here, low, long, count) in
            subst (HoldsFile seen made (chooses m other) file_header) (sym (ap (λ l. get_or l m None) opened.1 ∙ get_or-append files (file ∷ []) None m less))
            (held.each m other less at)

    -- the files took records
    pub more_hold : (records : List (Record (List ℕ))) (old new : List (Option (Writer S)))
        → HoldsFiles seen made chooses ifaces (λ k. file_header) old → FilesTook seen records old new → HoldsFiles seen made chooses ifaces (λ k. octets_after k records) new
    more_hold records old new held took = record {
      each = λ n iface low at.
          let count = took.count in
          let was : n < length old = omega (arith, low, count) in
          wrote n (chooses n iface) (get_or old n None) (get_or new n None) (held.each n iface was at)
          (took.each n (get_or old n None) (get_or new n None) (slice_get-get_or old n None was) (slice_get-get_or new n None low));
    }
      where
        some_is_none : (o : Writer S) → Some o ≡ None → ⊥
        some_is_none o e = cc

        wrote : (n : ℕ) (b : Bool) (o p : Option (Writer S)) → HoldsFile seen made b file_header o → FileTook seen records n o p → HoldsFile seen made b (octets_after n records) p
        wrote n false None None h w = refl
        wrote n false None (Some p) h w = absurd w
        wrote n false (Some o) p h w = absurd (some_is_none o h)
        wrote n true None p h w = absurd h
        wrote n true (Some o) None h w = absurd w
        wrote n true (Some o) (Some p) h w =
            let form = h.form in
            let count = subst (λ f. p.written ≡ saturated (length file_header + length (written_at f n records))) form (w.counted (length file_header) h.counted) in
            let long = length-append file_header (written_at Octets n records) in
            record {
              form = w.same_form ∙ form;
              taken = λ first is. appended (seen o.sink).taken (seen p.sink).taken (written_at Octets n records) file_header
                  (subst (λ f. Appends (seen o.sink).taken (seen p.sink).taken (written_at f n records)) form w.whole) (h.taken first is);
              counted = omega (arith, count, long);
            }

closed_as : (made : Option Files) (b : Bool) (file : List ℕ × List ℕ) (o : Option (Option (List ℕ × List ℕ))) → IsClosedAs made b file o
    → (first : Files) → made ≡ Some first → option_to_list o ≡ map (λ f. Some f) (cond b (file ∷ []) [])
closed_as made false file o none first is = ap option_to_list none
closed_as made true file None h first is = absurd h
closed_as made true file (Some c) whole first is = ap (λ z. z ∷ []) (whole first is)

mapped : {X Y : Type 0} (f : X → Y) (o : Option X) → map f (option_to_list o) ≡ option_to_list (option_map f o)
mapped f None = refl
mapped f (Some x) = refl

-- one more file was closed, or none
pub one_closed : {C : Type 0} (closed : C → Option (List ℕ × List ℕ)) (made : Option Files) (chooses : ℕ → IfaceValue → Bool) (folder : List ℕ) (octets : ℕ → List ℕ) (n : ℕ) (iface : IfaceValue) (o : Option C)
    → IsClosedAs made (chooses n iface) (file_name folder iface, octets n) (option_map closed o) → AreWhole made (map closed (option_to_list o)) (chosen_file chooses folder octets (n, iface))
one_closed closed made chooses folder octets n iface o closed_one first told =
    mapped closed o ∙ closed_as made (chooses n iface) (file_name folder iface, octets n) (option_map closed o) closed_one first told

-- one of some files failed, which is told with its interface and its octets
pub one_of : {C : Type 0} (before rest : List (ClosedFile C)) (one : ClosedFile C) (fault : Fault FileFault)
    → (fault ≡ Refused (record { iface = one.iface; written = one.written })) ⊎ (fault ≡ Memory) → IsOneOf (map (λ c. (c.iface, c.written)) (before ++ one ∷ rest)) fault
one_of before rest one fault (inr memory) = subst (IsOneOf (map (λ c. (c.iface, c.written)) (before ++ one ∷ rest))) (sym memory) tt
one_of before rest one fault (inl is) = subst (IsOneOf (map (λ c. (c.iface, c.written)) (before ++ one ∷ rest))) (sym is) (among before)
  where
    among : (before : List (ClosedFile _)) → IsOneOf (map (λ c. (c.iface, c.written)) (before ++ one ∷ rest)) (Refused (record { iface = one.iface; written = one.written }))
    among [] = inl refl
    among (b ∷ before) = inr (among before)
