-- Trace files that are there, read beside those of a network.
use Rattle.std.proofs.Common.{◌≡◌, ◌⊎◌, inl, inr, ℕ, zero, suc, ◌+◌, ◌<◌, ◌≤◌, ◌==◌, Bool, true, false, ◌&&◌, cond, IfSome, List, [], ◌∷◌, ◌++◌, codes, drop, filter, get_or, length, map, slice_get, take, Option, Some, None, Ok, refl, sym, ◌∙◌, ap, ap₂, subst, arith}
use Rattle.std.specs.Io.{StartsWith}
use Rattle.std.specs.Str.{bytes_eq}
use Rattle.std.proofs.lemmas.Bool.{true≢false}
use Rattle.std.proofs.lemmas.Bool.Decides.{nat_tests}
use Rattle.std.proofs.lemmas.List.{length-map, append_assoc, length-take-le, map-append, take-append-drop, take_more}
use Rattle.std.proofs.lemmas.Option.{get_or_from_slice_get, slice_get_within}
use Rattle.arrayvec.specs.ArrayString.{ArrayString}
use Rattle.nm_base.specs.Count.{saturated}
use Rattle.nm_base.specs.declared.fault.Fault.{Fault}
use Rattle.nm_base.specs.declared.fault.Fault.TheVariants.{Refused, Memory as NoMemory}
use Rattle.nm_base.specs.declared.record.Record.{Record}
use Rattle.nm_model.specs.Lists.{keep_where}
use Rattle.nm_pcap.specs.declared.form.Form.TheVariants.{Octets}
use Rattle.nm_pcap.specs.Format.{file_header, pcap, record_octets}
use Rattle.nm_topology.specs.PartValues.{IfaceValue}
use Rattle.nm_topology.specs.Topology.{topology_of}
use Rattle.nm_topology.specs.TopologyValue.{TopologyValue}
use Rattle.nm_sim.specs.Totals.{totals_of}
use Rattle.nm_sim.specs.Trace.{IsTraceBefore}
use Rattle.nm_command.specs.declared.status.Status.{Status}
use Rattle.nm_command.specs.declared.status.Status.TheVariants.{Memory}
use Rattle.nm_command.specs.declared.status.Status.TheVariants as status
use Rattle.nm_files.specs.Checked.{DiffersAt, DiffersIn, DiffersInOne, GoesOn, HaveRead, IsUnlike, difference, is_looked_at, looked_at}
use Rattle.nm_files.specs.Names.{file_name}
use Rattle.nm_files.specs.TraceFile.{octets_after, trace_file, written_at}
use Rattle.nm_files.specs.declared.checked_file.CheckCause.{CheckCause}
use Rattle.nm_files.specs.declared.checked_file.CheckCause.TheVariants.{Differs, Failed}
use Rattle.nm_files.specs.declared.checked_file.CheckedFile.{CheckedFile}
use Rattle.nm_files.proofs.Checked.{begins, unlike_more}
use Rattle.nm_files.proofs.Records.{one_more, whole_file, written_at-append, written_there}
use Rattle.nm_offline.specs.All.{AllAsked, is_asked_for}
use Rattle.nm_offline.specs.Input.{InputsSeen}
use Rattle.nm_offline.specs.Lines.{iface_line}
use Rattle.nm_offline.specs.Verify.{AreNames, DiffersFirst, DiffersInHeader, FileDiffers, IsNotVerified, IsStatusOf, IsWanted, OfEach, texts_of, wanted_line}
use Rattle.nm_files.proofs.Folders.{element}

-- the name of a trace file is not that of standard input
never : (b : Bool) → (b && false) ≡ false
never true = refl
never false = refl

pub not_standard : (folder : List ℕ) (iface : IfaceValue) → bytes_eq (file_name folder iface) (codes "-") ≡ false
not_standard [] iface = refl
not_standard (x ∷ []) iface = never (x == 45)
not_standard (x ∷ y ∷ folder) iface = never (x == 45)

-- what a function gives of the elements of a list
pub given_at : {X : Type 0} (f : X → Bool) (xs : List X) (n : ℕ) (x : X) → slice_get xs n ≡ Some x → get_or (map f xs) n false ≡ f x
given_at f [] n x is = absurd (no x is)
  where
    no : {X : Type 0} (x : X) → None ≡ Some x → ⊥
    no x e = cc
given_at f (y ∷ xs) zero x is = let h : y ≡ x = (let e : Some y ≡ Some x = is in cc) in ap f h
given_at f (y ∷ xs) (suc n) x is = given_at f xs n x is

pub given_by : {X : Type 0} (f : X → Bool) (xs : List X) (n : ℕ) → get_or (map f xs) n false ≡ true → (x : X) × (slice_get xs n ≡ Some x) × (f x ≡ true)
given_by f [] n given = absurd (true≢false (sym given))
given_by f (x ∷ xs) zero given = (x, refl, given)
given_by f (x ∷ xs) (suc n) given = given_by f xs n given

in_first : {X : Type 0} (xs : List X) (m n : ℕ) (x : X) → n < m → slice_get xs n ≡ Some x → slice_get (take m xs) n ≡ Some x
in_first xs zero n x low is = absurd (omega (arith, low))
in_first [] (suc m) n x low is = is
in_first (y ∷ xs) (suc m) zero x low is = is
in_first (y ∷ xs) (suc m) (suc n) x low is = in_first xs m n x (omega (arith, low)) is

kept_as : {X : Type 0} (p : X → Bool) (xs : List X) → keep_where p xs ≡ filter p xs
kept_as p [] = refl
kept_as p (x ∷ xs) = ap (λ l. cond (p x) (x ∷ l) l) (kept_as p xs)

-- how many files there are
pub looked_count : {B : Type 0} (files : List (Option (CheckedFile B))) (names : List (List ℕ)) (ifaces : List IfaceValue) (m : ℕ) → looked_at files ≡ map (is_asked_for names) (take m ifaces)
    → m ≤ length ifaces → length files ≡ m
looked_count files names ifaces m looked within =
    sym (length-map files _) ∙ ap length looked ∙ length-map (take m ifaces) (is_asked_for names) ∙ length-take-le m ifaces within

-- what an interface's file was counted to have is its totals
pub are_totals : {B : Type 0} (texts : ℕ → Option (List ℕ)) (left : B → Option (List ℕ)) (records : List (Record (List ℕ))) (files : List (Option (CheckedFile B))) (n : ℕ) (file : CheckedFile B)
    → HaveRead texts left records files → slice_get files n ≡ Some (Some file) → (file.records, file.same) ≡ totals_of n records
are_totals texts left records files n file read at =
    let was = read.each n file at in
    let same = kept_as (λ r. r.iface == n) records in
    ap₂ (λ (a b : ℕ). (a, b)) (was.1 ∙ ap (λ l. saturated (length l)) (sym same)) (was.0.same ∙ ap (λ l. saturated (length (pcap l))) (sym same))

module _ {B : Type 0} (t : TopologyValue) (names : List (List ℕ)) (texts : ℕ → Option (List ℕ)) (left : B → Option (List ℕ)) where
  -- the file of an interface that is wanted is looked at
  pub is_looked : (files : List (Option (CheckedFile B))) (m : ℕ) → looked_at files ≡ map (is_asked_for names) (take m t.ifaces) → (n : ℕ) (iface : IfaceValue) → n < m
      → slice_get t.ifaces n ≡ Some iface → is_asked_for names iface ≡ true → is_looked_at files n ≡ true
  is_looked files m looked n iface low is asked =
      ap (λ l. get_or l n false) looked ∙ given_at (is_asked_for names) (take m t.ifaces) n iface (in_first t.ifaces m n iface low is) ∙ asked

  pub header_first : (files : List (Option (CheckedFile B))) (m own octet : ℕ) (iface : IfaceValue) → own ≡ m → slice_get t.ifaces m ≡ Some iface → looked_at files ≡ map (is_asked_for names) (take m t.ifaces)
      → HaveRead texts left [] files → is_asked_for names iface ≡ true → DiffersIn texts m [] file_header octet → IsWanted t names texts own × DiffersInHeader t names texts own octet
  header_first files m own octet iface is there looked read asked differs = (
    (iface, ap (slice_get t.ifaces) is ∙ there, asked),
    (
      λ n other low at wanted. begins texts left [] files n read (is_looked files m looked n other (omega (arith, low, is)) at wanted),
      subst (λ k. DiffersIn texts k [] file_header octet) (sym is) differs,
    ),
  )

  module _ (records : List (Record (List ℕ))) (files : List (Option (CheckedFile B))) (looked : looked_at files ≡ map (is_asked_for names) t.ifaces) where
    -- the interface of a file that is looked at is there
    pub is_wanted : (n : ℕ) → is_looked_at files n ≡ true → IsWanted t names texts n
    is_wanted n seen = given_by (is_asked_for names) t.ifaces n (ap (λ l. get_or l n false) (sym looked) ∙ seen)

    all_looked : (n : ℕ) (iface : IfaceValue) → slice_get t.ifaces n ≡ Some iface → is_asked_for names iface ≡ true → is_looked_at files n ≡ true
    all_looked n iface is asked = ap (λ l. get_or l n false) looked ∙ given_at (is_asked_for names) t.ifaces n iface is ∙ asked

    pub record_first : (own octet : ℕ) → DiffersInOne texts left [] records files (Refused (Differs own octet)) → IsWanted t names texts own × DiffersFirst t names texts records own octet
    record_first own octet d = (
      is_wanted own (ap (is_looked_at files) d.unlike.0 ∙ d.looked),
      inr (inl (
        d.number,
        d.missed,
        d.place,
        sym d.unlike.0,
        (λ n iface at asked. begins texts left (take d.number records) d.files n d.read (ap (λ l. get_or l n false) d.same ∙ all_looked n iface at asked)),
        subst (λ k. DiffersIn texts k (octets_after k (take d.number records)) (record_octets d.missed) octet) (sym d.unlike.0) d.unlike.1,
      )),
    )

    pub behind_first : (own octet : ℕ) → HaveRead texts left records files → is_looked_at files own ≡ true
        → ((n : ℕ) → n < own → is_looked_at files n ≡ true → IfSome (texts n) (λ text. text ≡ octets_after n records)) → GoesOn texts own (octets_after own records) octet
        → IsWanted t names texts own × DiffersFirst t names texts records own octet
    behind_first own octet read seen whole on = (
      is_wanted own seen,
      inr (inr (
        (λ n iface at asked. begins texts left records files n read (all_looked n iface at asked)),
        (λ n iface low at asked. subst (λ l. IfSome (texts n) (λ text. text ≡ l)) (whole_file n records) (whole n low (all_looked n iface at asked))),
        subst (λ l. GoesOn texts own l octet) (whole_file own records) on,
      )),
    )

    pub all_whole : ((n : ℕ) → n < length t.ifaces → is_looked_at files n ≡ true → IfSome (texts n) (λ text. text ≡ octets_after n records))
        → OfEach t names texts (λ n text. text ≡ trace_file Octets n records)
    all_whole whole = λ n iface at asked. subst (λ l. IfSome (texts n) (λ text. text ≡ l)) (whole_file n records) (whole n (slice_get_within t.ifaces n iface at) (all_looked n iface at asked))

    -- the line of an interface whose file is looked at, and of another
    pub line_of : (n : ℕ) (iface : IfaceValue) (file : CheckedFile B) → HaveRead texts left records files → slice_get t.ifaces n ≡ Some iface → slice_get files n ≡ Some (Some file)
        → is_looked_at files n ≡ true → iface_line iface (file.records, file.same) ≡ wanted_line names records (n, iface)
    line_of n iface file read at there seen =
        let asked : is_asked_for names iface ≡ true = sym (given_at (is_asked_for names) t.ifaces n iface at) ∙ ap (λ l. get_or l n false) (sym looked) ∙ seen in
        ap (iface_line iface) (are_totals texts left records files n file read there) ∙ ap (λ b. cond b (iface_line iface (totals_of n records)) []) (sym asked)

    pub no_line : (n : ℕ) (iface : IfaceValue) → slice_get t.ifaces n ≡ Some iface → is_looked_at files n ≡ false → wanted_line names records (n, iface) ≡ []
    no_line n iface at no_one =
        let asked : is_asked_for names iface ≡ false = sym (given_at (is_asked_for names) t.ifaces n iface at) ∙ ap (λ l. get_or l n false) (sym looked) ∙ no_one in
        ap (λ b. cond b (iface_line iface (totals_of n records)) []) asked

-- an interface of a number is one
pub same_iface : (t : TopologyValue) (n : ℕ) (one other : IfaceValue) → slice_get t.ifaces n ≡ Some one → slice_get t.ifaces n ≡ Some other → one ≡ other
same_iface t n one other is at = let e : Some one ≡ Some other = sym is ∙ at in inner one other e
  where
    inner : (x y : IfaceValue) → Some x ≡ Some y → x ≡ y
    inner x y e = cc

pub unlike_header : (t : TopologyValue) (chosen : IfaceValue → Bool) (texts : ℕ → Option (List ℕ)) (n : ℕ) (one : IfaceValue) (fault : Fault CheckCause) (iface octet : ℕ) → slice_get t.ifaces n ≡ Some one
    → chosen one ≡ true → fault ≡ Refused (Differs iface octet) → IsUnlike texts n [] file_header fault
    → (iface ≡ n) × ((x : IfaceValue) → slice_get t.ifaces n ≡ Some x → chosen x ≡ true) × DiffersIn texts n [] file_header octet
unlike_header t chosen texts n one fault iface octet there asked is unlike =
    let at = subst (IsUnlike texts n [] file_header) is unlike in
    (at.0, (λ x found. ap chosen (sym (same_iface t n one x there found)) ∙ asked), at.1)

-- of no files nothing was read
pub none_read : {B : Type 0} (texts : ℕ → Option (List ℕ)) (left : B → Option (List ℕ)) → HaveRead texts left [] []
none_read {B} texts left = record { each = λ n file at. absurd (no file at) }
  where
    no : (file : CheckedFile B) → None ≡ Some (Some file) → ⊥
    no file e = cc

-- one interface more
pub more_looked : {B : Type 0} (names : List (List ℕ)) (ifaces : List IfaceValue) (n : ℕ) (iface : IfaceValue) (old new : List (Option (CheckedFile B))) → slice_get ifaces n ≡ Some iface
    → looked_at old ≡ map (is_asked_for names) (take n ifaces) → looked_at new ≡ looked_at old ++ is_asked_for names iface ∷ [] → looked_at new ≡ map (is_asked_for names) (take (n + 1) ifaces)
more_looked names ifaces n iface old new is so_far more =
    more ∙ ap (λ l. l ++ is_asked_for names iface ∷ []) so_far
    ∙ sym (map-append (is_asked_for names) (take n ifaces) (iface ∷ []))
    ∙ ap (map (is_asked_for names)) (sym (take_more ifaces n iface (slice_get_within ifaces n iface is) ∙ ap (λ x. take n ifaces ++ x ∷ []) (get_or_from_slice_get ifaces n iface iface is)))

-- a fault that names an octet, and one that does not
pub differs_is : (fault : Fault CheckCause) (place : ℕ × ℕ) → difference fault ≡ Some place → fault ≡ Refused (Differs place.0 place.1)
differs_is NoMemory place is = absurd (no place is)
  where
    no : (q : ℕ × ℕ) → None ≡ Some q → ⊥
    no q e = cc
differs_is (Refused Failed) place is = absurd (no place is)
  where
    no : (q : ℕ × ℕ) → None ≡ Some q → ⊥
    no q e = cc
differs_is (Refused (Differs own octet)) place is = ap (λ (q : ℕ × ℕ). Refused (Differs q.0 q.1)) (inner (own, octet) place is)
  where
    inner : (x y : ℕ × ℕ) → Some x ≡ Some y → x ≡ y
    inner x y e = cc

-- the interface that is named is the one of the number
pub differs_named : (ifaces : List IfaceValue) (own octet : ℕ) (s : Status) → own < length ifaces
    → ((x : IfaceValue) → slice_get ifaces own ≡ Some x → (s ≡ Memory) ⊎ ((name : ArrayString) × (s ≡ status.Differs name octet) × (name.bytes ≡ x.name)))
    → (s ≡ Memory) ⊎ ((name : ArrayString) × (s ≡ status.Differs name octet) × ((iface : IfaceValue) → slice_get ifaces own ≡ Some iface → name.bytes ≡ iface.name))
differs_named ifaces own octet s low says = let there = element ifaces own low in pick there.0 there.1 (says there.0 there.1)
  where
    inner : (x y : IfaceValue) → Some x ≡ Some y → x ≡ y
    inner x y e = cc

    pick : (x : IfaceValue) → slice_get ifaces own ≡ Some x → (s ≡ Memory) ⊎ ((name : ArrayString) × (s ≡ status.Differs name octet) × (name.bytes ≡ x.name))
        → (s ≡ Memory) ⊎ ((name : ArrayString) × (s ≡ status.Differs name octet) × ((iface : IfaceValue) → slice_get ifaces own ≡ Some iface → name.bytes ≡ iface.name))
    pick x at (inl memory) = inl memory
    pick x at (inr (name, says_so, called)) = inr (name, says_so, λ iface found. called ∙ ap (λ i. i.name) (inner x iface (sym at ∙ found)))

module _ (before after : InputsSeen) (ifaces : List IfaceValue) where
  pub status_differs : (fault : Fault CheckCause) (place : ℕ × ℕ) (s : Status) → difference fault ≡ Some place → place.0 < length ifaces
      → ((x : IfaceValue) → slice_get ifaces place.0 ≡ Some x → (s ≡ Memory) ⊎ ((name : ArrayString) × (s ≡ status.Differs name place.1) × (name.bytes ≡ x.name))) → IsStatusOf before after ifaces fault s
  status_differs fault place s is low says = subst (λ f. IsStatusOf before after ifaces f s) (sym (differs_is fault place is)) (differs_named ifaces place.0 place.1 s low says)

-- A file that differs in a piece of what it is to have, or behind it, differs there from what it is to have.
module _ (t : TopologyValue) (names : List (List ℕ)) (texts : ℕ → Option (List ℕ)) (own octet : ℕ) where
  pub differs_in_piece : (file before next more : List ℕ) → before ++ (next ++ more) ≡ file → DiffersIn texts own before next octet → FileDiffers t names texts own file octet
  differs_in_piece file before next more is d = told (texts own) (unlike_more texts own before next more (Refused (Differs own octet)) (refl, d)).1
    where
      told : (text : Option (List ℕ)) → IfSome text (λ l. (k : ℕ) × (k < length (next ++ more)) × (octet ≡ saturated (length before + k)) × DiffersAt l (before ++ (next ++ more)) (length before + k))
          → IfSome text (λ l. (k : ℕ) × (octet ≡ saturated k) × DiffersAt l file k)
      told None none = tt
      told (Some l) (k, low, count, at) = (length before + k, count, subst (λ o. DiffersAt l o (length before + k)) is at)

  differs_behind : (file : List ℕ) → GoesOn texts own file octet → FileDiffers t names texts own file octet
  differs_behind file on = told (texts own) on
    where
      told : (text : Option (List ℕ)) → IfSome text (λ l. (octet ≡ saturated (length file)) × StartsWith l file × DiffersAt l file (length file)) → IfSome text (λ l. (k : ℕ) × (octet ≡ saturated k) × DiffersAt l file k)
      told None none = tt
      told (Some l) (count, front, at) = (length file, count, at)

  -- what stands before a record of the file, the record, and what comes behind it
  pieces : (records : List (Record (List ℕ))) (k : ℕ) (r : Record (List ℕ)) → slice_get records k ≡ Some r → r.iface ≡ own
      → octets_after own (take k records) ++ (record_octets r ++ written_at Octets own (drop (k + 1) records)) ≡ trace_file Octets own records
  pieces records k r is at =
      let here : (r.iface == own) ≡ true = grind (arith, nat_tests, at) in
      let before = written_at Octets own (take k records) in
      let more = written_at Octets own (drop (k + 1) records) in
      let to_here : written_at Octets own (take (k + 1) records) ≡ before ++ record_octets r =
      ap (written_at Octets own) (one_more records k (k + 1) r is refl) ∙ written_at-append Octets own (take k records) (r ∷ []) ∙ ap (λ l. before ++ l) (written_there Octets own r here) in
      let all : written_at Octets own records ≡ (before ++ record_octets r) ++ more =
      ap (written_at Octets own) (sym (take-append-drop (k + 1) records)) ∙ written_at-append Octets own (take (k + 1) records) (drop (k + 1) records) ∙ ap (λ l. l ++ more) to_here in
      append_assoc file_header before (record_octets r ++ more) ∙ ap (λ l. file_header ++ l) (sym (append_assoc before (record_octets r) more) ∙ sym all) ∙ whole_file own records

  pub file_differs : (records : List (Record (List ℕ))) → DiffersFirst t names texts records own octet → FileDiffers t names texts own (trace_file Octets own records) octet
  file_differs records (inl header) = differs_in_piece (trace_file Octets own records) [] file_header (written_at Octets own records) (whole_file own records) header.1
  file_differs records (inr (inl (k, r, is, at, others, d))) =
      differs_in_piece (trace_file Octets own records) (octets_after own (take k records)) (record_octets r) (written_at Octets own (drop (k + 1) records)) (pieces records k r is at) d
  file_differs records (inr (inr behind)) = differs_behind (trace_file Octets own records) behind.2

-- why nothing is verified
pub not_verified : (before after : InputsSeen) (asked : AllAsked) (text : List ℕ) (t : TopologyValue) (records : List (Record (List ℕ))) (fault : Fault CheckCause) (s : Status)
    → topology_of text ≡ Ok t → AreNames asked.names t → IsTraceBefore t t.stop records
    → ((own octet : ℕ) → fault ≡ Refused (Differs own octet) → IsWanted t asked.names (texts_of before asked.folder t) own × DiffersFirst t asked.names (texts_of before asked.folder t) records own octet)
    → IsStatusOf before after t.ifaces fault s → IsNotVerified before after asked text s
not_verified before after asked text t records NoMemory s read named trace first is = subst (IsNotVerified before after asked text) (sym is) (inr refl)
not_verified before after asked text t records (Refused Failed) s read named trace first is = subst (IsNotVerified before after asked text) (sym is.0) (inl (refl, is.1))
not_verified before after asked text t records (Refused (Differs own octet)) s read named trace first is = pick is (first own octet refl)
  where
    pick : (s ≡ Memory) ⊎ ((name : ArrayString) × (s ≡ status.Differs name octet) × ((iface : IfaceValue) → slice_get t.ifaces own ≡ Some iface → name.bytes ≡ iface.name))
        → IsWanted t asked.names (texts_of before asked.folder t) own × DiffersFirst t asked.names (texts_of before asked.folder t) records own octet → IsNotVerified before after asked text s
    pick (inl memory) differs = subst (IsNotVerified before after asked text) (sym memory) (inr refl)
    pick (inr (name, says, called)) ((iface, at, wanted), differs) = subst (IsNotVerified before after asked text) (sym says) (record {
      network = t;
      read = read;
      named = named;
      records = records;
      trace = trace;
      own = own;
      iface = iface;
      there = at;
      wanted = wanted;
      called = called iface at;
      differs = file_differs t asked.names (texts_of before asked.folder t) own octet records differs;
      first = differs;
    })
