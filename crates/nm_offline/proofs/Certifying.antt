-- Files that replicas left, found in folders and certified.
use Rattle.std.proofs.Common.{◌≡◌, ◌⊎◌, inl, inr, ℕ, zero, suc, ◌+◌, ◌<◌, ◌≤◌, ◌==◌, ◌++◌, ◌∷◌, Bool, true, false, ◌&&◌, IfOk, IfSome, OnOk, List, [], codes, length, length-append, map, get_or, slice_get, Option, Some, None, is_some, option_map, Result, Ok, Err, refl, sym, ◌∙◌, ap, subst, arith}
use Rattle.std.specs.Str.{bytes_eq}
use Rattle.std.proofs.lemmas.Bool.{true≢false}
use Rattle.std.proofs.lemmas.Option.{IfSome_then, none-some, same_Some, slice_get-get_or, slice_get-map, slice_get_within, get_or_from_slice_get}
use Rattle.std.proofs.lemmas.List.{length-map}
use Rattle.arrayvec.specs.ArrayString.{ArrayString}
use Rattle.nm_base.specs.declared.fault.Fault.{Fault}
use Rattle.nm_base.specs.declared.fault.Fault.TheVariants.{Refused, Memory as NoMemory}
use Rattle.nm_base.specs.declared.limits.TheConstants.{MAX_REPLICA}
use Rattle.nm_base.specs.declared.record.Record.{Record}
use Rattle.nm_model.specs.Partition.{receiver_of}
use Rattle.nm_model.proofs.ListLemmas.{below_or_at}
use Rattle.nm_pcap.specs.declared.form.Form.TheVariants.{Octets}
use Rattle.nm_pcap.specs.Format.{file_header}
use Rattle.nm_topology.specs.PartValues.{IfaceValue}
use Rattle.nm_topology.specs.Topology.{topology_of}
use Rattle.nm_topology.specs.TopologyValue.{TopologyValue}
use Rattle.nm_sim.specs.Network.{net_of}
use Rattle.nm_sim.specs.Trace.{IsTraceBefore}
use Rattle.nm_files.specs.Checked.{DiffersIn, HaveRead, is_looked_at, looked_at}
use Rattle.nm_files.specs.Least.{AreBegun, IsLesser, found_difference}
use Rattle.nm_files.specs.Names.{file_name}
use Rattle.nm_files.specs.declared.checked_file.CheckedFile.{CheckedFile}
use Rattle.std.proofs.Math.ListN.{get_or-append}
use Rattle.std.proofs.Math.Seq.{get_or-append_seam}
use Rattle.std.proofs.lemmas.Bool.Decides.{nat_tests}
use Rattle.nm_files.specs.TraceFile.{trace_file}
use Rattle.nm_files.specs.declared.checked_file.CheckCause.{CheckCause}
use Rattle.nm_files.specs.declared.checked_file.CheckCause.TheVariants as check
use Rattle.nm_files.specs.declared.checked_file.ReadFailed.{ReadFailed}
use Rattle.nm_files.specs.declared.least_checked.Difference.{Difference}
use Rattle.nm_files.specs.declared.least_checked.LeastChecked.{LeastChecked}
use Rattle.nm_files.proofs.Checked.{in_front, next_behind}
use Rattle.nm_files.proofs.Folders.{element}
use Rattle.nm_book.specs.Book.{BookValue}
use Rattle.nm_rounds.specs.Certify.{AreCertified}
use Rattle.nm_known.specs.Keeping.{known_name}
use Rattle.nm_known.specs.Known.{ExplainsText, IsNoFile, IsOfOther, known_octets}
use Rattle.nm_known.specs.declared.known_fault.KnownCause.{KnownCause}
use Rattle.nm_known.specs.declared.known_fault.KnownCause.TheVariants as known
use Rattle.nm_certify.proofs.Certified.{mapped_at}
use Rattle.nm_certify.specs.Certify.{AreBooksOf, AreTraceFiles, ExplainsFault, HaveTexts, HeadersAreOwn, IsAmong, IsBookOf, IsTraceFile, fresh_book}
use Rattle.nm_certify.specs.Checking.{unread}
use Rattle.nm_certify.specs.declared.fault.CertifyCause.{CertifyCause}
use Rattle.nm_certify.specs.declared.fault.CertifyCause.TheVariants as cause
use Rattle.nm_certify.specs.declared.part_files.PartFiles.{PartFiles}
use Rattle.nm_command.specs.declared.status.Status.{Status}
use Rattle.nm_command.specs.declared.status.Status.TheVariants as status
use Rattle.nm_offline.specs.Certify.{AreFilesCertified, AreNotCertified, ArePlaces, AreTheirBooks, AreTheirTraces, CertifyAsked, ExplainsFiles, HasNoFile, HaveNoFile, IsFilePlace, IsNotCertified, IsStatusOfFiles, FilePlace, known_text, refused_number, trace_text, trace_texts}
use Rattle.nm_offline.specs.Finding.{AllFound, AreCertifiedBooks, AreOpened, AreOwnTexts, AreTracesOf, IsFound, IsLeastIn, IsNotFound, IsOpened, NoneIsFound, found_place}
use Rattle.nm_offline.specs.Input.{InputsSeen}
use Rattle.nm_sim.specs.Totals.{totals_of}
use Rattle.nm_offline.specs.Lines.{AreOfPartitions, AreTotals, iface_lines}
use Rattle.nm_offline.specs.declared.finding.Found.{Found}
use Rattle.nm_offline.proofs.InterfaceLines.{HaveTheirRecords, certified_totals}

-- the name of a file of what is known is not that of standard input
never : (b : Bool) → (b && false) ≡ false
never true = refl
never false = refl

pub known_not_standard : (folder : List ℕ) (partition replica : ℕ) → bytes_eq (known_name folder partition replica) (codes "-") ≡ false
known_not_standard [] partition replica = refl
known_not_standard (x ∷ []) partition replica = never (x == 45)
known_not_standard (x ∷ y ∷ folder) partition replica = never (x == 45)

-- the folder of a number, by its name
pub name_at : {X : Type 0} (f : X → List ℕ) (folders : List X) (n : ℕ) (item : X) (own : List ℕ) → n < length folders → item ≡ get_or folders n item → own ≡ f item → slice_get (map f folders) n ≡ Some own
name_at f folders n item own low is called = slice_get-map f folders n ∙ ap (option_map f) (slice_get-get_or folders n item low ∙ ap (λ x. Some x) (sym is)) ∙ ap (λ l. Some l) (sym called)

pub one_has_none : (inputs : InputsSeen) (folders : List (List ℕ)) (n p : ℕ) (own : List ℕ) → HaveNoFile inputs folders n p → slice_get folders n ≡ Some own
    → ((replica : ℕ) → replica ≤ MAX_REPLICA → inputs.text (known_name own p replica) ≡ None) → HaveNoFile inputs folders (n + 1) p
one_has_none inputs folders n p own before is none m folder replica low at within = pick (below_or_at m n (omega (arith, low)))
  where
    pick : (m < n) ⊎ (m ≡ n) → inputs.text (known_name folder p replica) ≡ None
    pick (inl less) = before m folder replica less at within
    pick (inr here) = ap (λ f. inputs.text (known_name f p replica)) (sym (same_Some own folder (sym is ∙ ap (slice_get folders) (sym here) ∙ at))) ∙ none replica within

pub none_has : (inputs : InputsSeen) (folders : List (List ℕ)) (n p : ℕ) → length folders ≤ n → HaveNoFile inputs folders n p → HasNoFile inputs folders p
none_has inputs folders n p all none m folder replica low at within = none m folder replica (omega (arith, low, all)) at within

-- what is true of each element by its number is true of one more
one_more_at : {X : Type 0} (P : ℕ → X → Type 0) (xs : List X) (x : X) → ((n : ℕ) (y : X) → slice_get xs n ≡ Some y → P n y) → P (length xs) x → (n : ℕ) (y : X) → slice_get (xs ++ x ∷ []) n ≡ Some y → P n y
one_more_at P xs x before here n y at =
    let long = length-append xs (x ∷ []) in
    pick (below_or_at n (length xs) (omega (arith, slice_get_within (xs ++ x ∷ []) n y at, long)))
  where
    pick : (n < length xs) ⊎ (n ≡ length xs) → P n y
    pick (inl low) = before n y (sym (in_front xs (x ∷ []) n low) ∙ at)
    pick (inr is) = subst (λ k. P k y) (sym is) (subst (P (length xs)) (same_Some x y (sym (next_behind xs (x ∷ [])) ∙ ap (slice_get (xs ++ x ∷ [])) (sym is) ∙ at)) here)

module _ {B : Type 0} (left : B → Option (List ℕ)) (inputs : InputsSeen) (folders : List (List ℕ)) where
  -- no folder before had one, and this folder has this one
  pub first_found : (n p : ℕ) (own : List ℕ) (f : Found B) → HaveNoFile inputs folders n p → slice_get folders n ≡ Some own → IsLeastIn left inputs own p f → IsFound left inputs folders p f
  first_found n p own f before at least = record {
    first = record {
      number = n;
      there = at ∙ ap (λ l. Some l) (sym least.found.folder_is);
      within = least.within;
      before = before;
      beside = λ replica low. ap (λ l. inputs.text (known_name l p replica)) least.found.folder_is ∙ least.beside replica low;
    };
    text = subst (λ l. IfSome (inputs.text (known_name l p f.replica)) (λ text. left f.known ≡ Some text)) (sym least.found.folder_is) least.found.text;
  }

  -- of no partition a file was found so far
  pub none_found : (all : List (Found B)) → all ≡ [] → AllFound left inputs folders 0 all
  none_found all none = record {
    count = ap length none;
    each = λ p f at. absurd (none-some f (sym (ap (λ l. slice_get l p) none) ∙ at));
  }

  -- one of one partition more was
  pub one_found : (all new : List (Found B)) (f : Found B) (n : ℕ) → AllFound left inputs folders n all → IsFound left inputs folders n f → new ≡ all ++ f ∷ [] → AllFound left inputs folders (n + 1) new
  one_found all new f n found one more = record {
    count = let long = ap length more ∙ length-append all (f ∷ []) in let was = found.count in omega (arith, long, was);
    each = λ p g at. one_more_at (IsFound left inputs folders) all f found.each (subst (λ k. IsFound left inputs folders k f) (sym found.count) one) p g (sym (ap (λ l. slice_get l p) more) ∙ at);
  }

  pub are_places : (t : TopologyValue) (all : List (Found B)) → AllFound left inputs folders t.partitions all → ArePlaces inputs folders t (map found_place all)
  are_places t all found = record {
    count = length-map all found_place ∙ found.count;
    each = λ p place at.
        let f = mapped_at found_place all p place at in
        subst (IsFilePlace inputs folders p) f.2 (found.each p f.0 f.1).first;
  }

-- the texts of a partition's trace files are those in its folder
own_texts : (inputs : InputsSeen) (t : TopologyValue) (places : List FilePlace) (p : ℕ) (place : FilePlace) → slice_get places p ≡ Some place → AreOwnTexts inputs place.folder t p (trace_texts inputs t places)
own_texts inputs t places p place at = λ n iface is own.
    ap (λ k. trace_text inputs.text (slice_get places k) (slice_get t.ifaces n)) own
    ∙ ap (λ o. trace_text inputs.text o (slice_get t.ifaces n)) at ∙ ap (trace_text inputs.text (Some place)) is

place_at : {B : Type 0} (found : List (Found B)) (p : ℕ) (f : Found B) → slice_get found p ≡ Some f → slice_get (map found_place found) p ≡ Some (found_place f)
place_at (g ∷ found) zero f at = ap (λ x. Some (found_place x)) (same_Some g f at)
place_at (g ∷ found) (suc p) f at = place_at found p f at
place_at [] p f at = absurd (none-some f at)

-- those of the next that was found
pub next_texts : {B : Type 0} (inputs : InputsSeen) (t : TopologyValue) (found done rest : List (Found B)) (f : Found B) (p : ℕ) → found ≡ done ++ f ∷ rest → p ≡ length done
    → AreOwnTexts inputs f.folder.now t p (trace_texts inputs t (map found_place found))
next_texts inputs t found done rest f p all is =
    own_texts inputs t (map found_place found) p (found_place f) (place_at found p f (ap (λ l. slice_get l p) all ∙ ap (slice_get (done ++ f ∷ rest)) is ∙ next_behind done (f ∷ rest)))

module _ {B : Type 0} (left : B → Option (List ℕ)) (texts : ℕ → Option (List ℕ)) (t : TopologyValue) where
  pub none_opened : (found : List (Found B)) (parts : List (PartFiles B)) → found ≡ [] → parts ≡ [] → AreOpened left texts t found parts
  none_opened found parts nobody none = record {
    count = ap length none ∙ sym (ap length nobody);
    each = λ p f files at here. absurd (none-some files (sym (ap (λ l. slice_get l p) none) ∙ here));
  }

  -- the files of one partition more were opened
  pub one_opened : (found : List (Found B)) (parts new : List (PartFiles B)) (f : Found B) (files : PartFiles B) (n : ℕ) → AreOpened left texts t found parts → n ≡ length parts
      → IsOpened left texts t n f files → new ≡ parts ++ files ∷ [] → AreOpened left texts t (found ++ f ∷ []) new
  one_opened found parts new f files n opened count one more = record {
    count = let long = ap length more ∙ length-append parts (files ∷ []) in let others = length-append found (f ∷ []) in let was = opened.count in omega (arith, long, others, was);
    each = λ p g own at here.
        one_more_at (λ k x. (g : Found B) → slice_get (found ++ f ∷ []) k ≡ Some g → IsOpened left texts t k g x) parts files
        (λ k x there g is. opened.each k g x (sym (in_front found (f ∷ []) k (let low = slice_get_within parts k x there in let was = opened.count in omega (arith, low, was))) ∙ is) there)
        (λ g is. subst (λ k. IsOpened left texts t k g files) count (subst (λ h. IsOpened left texts t n h files)
        (same_Some f g (sym (next_behind found (f ∷ [])) ∙ ap (slice_get (found ++ f ∷ [])) (sym opened.count) ∙ is)) one))
        p own (sym (ap (λ l. slice_get l p) more) ∙ here) g at;
  }

-- why nothing was found
pub not_found : (inputs : InputsSeen) (folders : List (List ℕ)) (t : TopologyValue) (fault : Fault CertifyCause) → NoneIsFound inputs folders t.partitions fault → ExplainsFiles inputs folders t fault
not_found inputs folders t fault (p, low, inl memory) = subst (ExplainsFiles inputs folders t) (sym memory) tt
not_found inputs folders t fault (p, low, inr (inl failed)) = subst (ExplainsFiles inputs folders t) (sym failed) tt
not_found inputs folders t fault (p, low, inr (inr (missing, none))) = subst (ExplainsFiles inputs folders t) (sym missing) (inl (refl, p, low, none))

-- one could not be read
pub not_read : (inputs : InputsSeen) (folders : List (List ℕ)) (t : TopologyValue) (fault : Fault ReadFailed) → ExplainsFiles inputs folders t (unread fault)
not_read inputs folders t NoMemory = tt
not_read inputs folders t (Refused failed) = tt

pub not_there : (inputs : InputsSeen) (folders : List (List ℕ)) (p : ℕ) (fault : Fault ReadFailed) → IsNotFound inputs folders p (unread fault)
not_there inputs folders p NoMemory = inl refl
not_there inputs folders p (Refused failed) = inr (inl refl)

no_difference : (fault : Fault ReadFailed) (d : Difference) → Err fault ≡ Ok d → ⊥
no_difference fault d e = cc

same_found : (found : Result Difference (Fault ReadFailed)) (a b : Difference) → found ≡ Ok a → found ≡ Ok b → a ≡ b
same_found found a b one other = let e = sym one ∙ other in cc

-- a fault that is a difference
found_is : (fault : Fault CheckCause) (d : Difference) → found_difference fault ≡ Ok d → fault ≡ Refused (check.Differs d.iface d.octet)
found_is NoMemory d is = absurd (no_difference NoMemory d is)
found_is (Refused check.Failed) d is = absurd (no_difference (Refused (record {})) d is)
found_is (Refused (check.Differs iface octet)) d is =
    ap (λ (e : Difference). Refused (check.Differs e.iface e.octet)) (same_found (found_difference (Refused (check.Differs iface octet))) (record { iface = iface; octet = octet }) d refl is)

same_number : (a b : ℕ) → (a == b) ≡ true → a ≡ b
same_number a b is = grind (arith, nat_tests, is)

-- one interface more of a partition's is looked at, if it is one
pub own_looked : {B : Type 0} (t : TopologyValue) (p n : ℕ) (old new : List (Option (CheckedFile B))) → length old ≡ n → looked_at new ≡ looked_at old ++ (receiver_of (net_of t) n == p) ∷ []
    → ((m : ℕ) → m < n → receiver_of (net_of t) m ≡ p → is_looked_at old m ≡ true) → (m : ℕ) → m < n + 1 → receiver_of (net_of t) m ≡ p → is_looked_at new m ≡ true
own_looked t p n old new count more before m low own = pick (below_or_at m n (omega (arith, low)))
  where
    pick : (m < n) ⊎ (m ≡ n) → is_looked_at new m ≡ true
    pick (inl less) = ap (λ l. get_or l m false) more ∙ get_or-append (looked_at old) ((receiver_of (net_of t) n == p) ∷ []) false m (let long = length-map old (λ file. is_some file) in omega (arith, less, long, count)) ∙ before m less own
    pick (inr is) =
        let long : length (looked_at old) ≡ n = length-map old (λ file. is_some file) ∙ count in
        let same : receiver_of (net_of t) n ≡ p = ap (receiver_of (net_of t)) (sym is) ∙ own in
        ap (λ l. get_or l m false) more ∙ ap (λ k. get_or (looked_at old ++ (receiver_of (net_of t) n == p) ∷ []) k false) (is ∙ sym long)
        ∙ get_or-append_seam (looked_at old) (receiver_of (net_of t) n == p) [] false ∙ grind (arith, nat_tests, same)

pub own_count : {B : Type 0} (b : Bool) (n : ℕ) (old new : List (Option (CheckedFile B))) → length old ≡ n → looked_at new ≡ looked_at old ++ b ∷ [] → length new ≡ n + 1
own_count b n old new count more =
    let long = length-append (looked_at old) (b ∷ []) in
    let was = length-map old (λ file. is_some file) in
    let is = sym (length-map new (λ file. is_some file)) ∙ ap length more in omega (arith, long, was, is, count)

-- the text of an interface that is of the partition
pub chosen_text : (inputs : InputsSeen) (folder : List ℕ) (t : TopologyValue) (p : ℕ) (texts : ℕ → Option (List ℕ)) (n : ℕ) → AreOwnTexts inputs folder t p texts
    → (iface : IfaceValue) → slice_get t.ifaces n ≡ Some iface → (receiver_of (net_of t) n == p) ≡ true → texts n ≡ inputs.text (file_name folder iface)
chosen_text inputs folder t p texts n own iface is chosen = own n iface is (same_number (receiver_of (net_of t) n) p chosen)

-- the trace files of a partition were opened: all of them, or up to one whose header differs
module _ {B : Type 0} (left : B → Option (List ℕ)) (texts : ℕ → Option (List ℕ)) (t : TopologyValue) (p : ℕ) (files : List (Option (CheckedFile B))) (n : ℕ) (count : length files ≡ n)
    (looked : (m : ℕ) → m < n → receiver_of (net_of t) m ≡ p → is_looked_at files m ≡ true) (read : HaveRead texts left [] files) (traces : LeastChecked B) (items : traces.files.files.items ≡ files) where
  pub all_opened : n ≡ length t.ifaces → traces.differs ≡ None → AreTracesOf left texts t p traces
  all_opened all none = record {
    begun = record { read = subst (HaveRead texts left []) (sym items) read; differs = subst (λ o. IfSome o (λ d. (length traces.files.files.items ≤ d.iface) × DiffersIn texts d.iface [] file_header d.octet)) (sym none) tt };
    within = let long = ap length items in omega (arith, long, count, all);
    own = subst (λ o. IfSome o (λ d. (d.iface < length t.ifaces) × (receiver_of (net_of t) d.iface ≡ p))) (sym none) tt;
    looked = λ m low own lesser. ap (λ l. is_looked_at l m) items ∙ looked m (omega (arith, low, all)) own;
  }

  pub some_opened : (fault : Fault CheckCause) (found : Difference) → n < length t.ifaces → found_difference fault ≡ Ok found → traces.differs ≡ Some found
      → ((iface octet : ℕ) → fault ≡ Refused (check.Differs iface octet) → (iface ≡ n) × ((x : IfaceValue) → slice_get t.ifaces n ≡ Some x → (receiver_of (net_of t) n == p) ≡ true) × DiffersIn texts n [] file_header octet)
      → AreTracesOf left texts t p traces
  some_opened fault found low is differs unlike =
      let at = unlike found.iface found.octet (found_is fault found is) in
      let here = element t.ifaces n low in
      let own : receiver_of (net_of t) n ≡ p = same_number (receiver_of (net_of t) n) p (at.1 here.0 here.1) in
      let long = ap length items in
      let number = at.0 in
      let header : (length traces.files.files.items ≤ found.iface) × DiffersIn texts found.iface [] file_header found.octet =
      (omega (arith, long, count, number), subst (λ k. DiffersIn texts k [] file_header found.octet) (sym at.0) at.2) in
      let place : (found.iface < length t.ifaces) × (receiver_of (net_of t) found.iface ≡ p) = (omega (arith, low, number), ap (receiver_of (net_of t)) at.0 ∙ own) in
      record {
        begun = record {
          read = subst (HaveRead texts left []) (sym items) read;
          differs = subst (λ o. IfSome o (λ d. (length traces.files.files.items ≤ d.iface) × DiffersIn texts d.iface [] file_header d.octet)) (sym differs) header;
        };
        within = omega (arith, long, count, low);
        own = subst (λ o. IfSome o (λ d. (d.iface < length t.ifaces) × (receiver_of (net_of t) d.iface ≡ p))) (sym differs) place;
        looked = λ m less part lesser. ap (λ l. is_looked_at l m) items ∙ looked m (let below = subst (IsLesser m) differs lesser in omega (arith, below, number)) part;
      }

-- Of files that were found and opened.
module _ {B : Type 0} (left : B → Option (List ℕ)) (inputs : InputsSeen) (folders : List (List ℕ)) (t : TopologyValue) (found : List (Found B)) (parts : List (PartFiles B))
    (all : AllFound left inputs folders t.partitions found) (opened : AreOpened left (trace_texts inputs t (map found_place found)) t found parts) where
  places : List FilePlace
  places = map found_place found

  placed : ArePlaces inputs folders t places
  unfolding places
  placed = are_places left inputs folders t found all

  -- what is found and opened at a place
  at_place : (p : ℕ) (place : FilePlace) → slice_get places p ≡ Some place
      → (f : Found B) × (slice_get found p ≡ Some f) × (found_place f ≡ place) × ((files : PartFiles B) × (slice_get parts p ≡ Some files) × IsOpened left (trace_texts inputs t (map found_place found)) t p f files)
  unfolding places
  at_place p place at =
      let f = mapped_at found_place found p place at in
      let low = slice_get_within found p f.0 f.1 in
      let count = opened.count in
      let files = element parts p (omega (arith, low, count)) in
      (f.0, f.1, f.2, (files.0, files.1, opened.each p f.0 files.0 f.1 files.1))

  -- what is told of a file holds of its text
  of_text : (p : ℕ) (f : Found B) (files : PartFiles B) (P : List ℕ → Type 0) → IsFound left inputs folders p f → files.known ≡ f.known → IfSome (left files.known) P → IfSome (inputs.text (known_name f.folder.now p f.replica)) P
  of_text p f files P is same told = IfSome_then (inputs.text (known_name f.folder.now p f.replica)) is.text (λ text at. subst (λ o. IfSome o P) (ap left same ∙ at) told)

  have_texts : HaveTexts t left (trace_texts inputs t (map found_place found)) parts
  have_texts = λ p d low.
      let files = element parts p low in
      let count = opened.count in
      let f = element found p (omega (arith, low, count)) in
      subst (λ (own : PartFiles B). AreBegun (trace_texts inputs t (map found_place found)) left own.traces) (sym (get_or_from_slice_get parts p files.0 d files.1)) (opened.each p f.0 files.0 f.1 files.1).traces.begun

  -- the headers that differ are of their partitions
  pub headers_are : HeadersAreOwn t left parts
  headers_are = λ p files at.
      let count = opened.count in
      let f = element found p (let low = slice_get_within parts p files at in omega (arith, low, count)) in
      part files p (opened.each p f.0 files f.1 at).traces.own
    where
      part : (files : PartFiles B) (p : ℕ) → IfSome files.traces.differs (λ d. (d.iface < length t.ifaces) × (receiver_of (net_of t) d.iface ≡ p)) → IfSome files.traces.differs (λ d. receiver_of (net_of t) d.iface ≡ p)
      part files p own = IfSome_then files.traces.differs own (λ d at. at.1)

  their_books : (books : List BookValue) → AreBooksOf t left parts books → AreTheirBooks inputs t places books
  unfolding places
  their_books books are = record {
    count = are.count ∙ opened.count ∙ sym (length-map found found_place);
    each = λ p place b at here.
        let there = at_place p place at in
        let f = there.0 in
        let files = there.3.0 in
        let is = there.3.2 in
        let own = are.each p files b there.3.1 here in
        subst (λ (q : FilePlace). IsBookOf t p q.replica (known_text inputs t places p q) b) there.2 (record {
          topology = own.topology;
          partition = own.partition;
          replica_is = own.replica_is ∙ is.replica_is;
          told = of_text p f files (λ text. text ≡ known_octets b) (all.each p f there.1) is.known_is own.told;
          ran = own.ran;
        });
  }

  -- the trace file of an interface is that of these records
  their_trace : (records : List (Record (List ℕ))) (n : ℕ) → n < length t.ifaces → IsTraceFile t left (trace_texts inputs t (map found_place found)) records parts n
      → IfSome (trace_texts inputs t places n) (λ text. text ≡ trace_file Octets n records)
  unfolding places
  their_trace records n low is = pick (slice_get places (receiver_of (net_of t) n)) refl
    where
      pick : (o : Option FilePlace) → slice_get places (receiver_of (net_of t) n) ≡ o → IfSome (trace_texts inputs t places n) (λ text. text ≡ trace_file Octets n records)
      pick None at = subst (λ o. IfSome (trace_text inputs.text o (slice_get t.ifaces n)) (λ text. text ≡ trace_file Octets n records)) (sym at) tt
      pick (Some place) at =
          let there = at_place (receiver_of (net_of t) n) place at in
          let own = is there.3.0 there.3.1 in
          own.1 (there.3.2.traces.looked n low refl own.0)

  their_traces : (records : List (Record (List ℕ))) → AreTraceFiles t left (trace_texts inputs t (map found_place found)) records parts → AreTheirTraces inputs t places records
  unfolding places
  their_traces records are n iface at = let low = slice_get_within t.ifaces n iface at in their_trace records n low (are n low)

  pub all_certified : (books : List BookValue) → AreBooksOf t left parts books → AreCertified t books
      → ((texts : ℕ → Option (List ℕ)) (records : List (Record (List ℕ))) → IsTraceBefore t t.stop records → HaveTexts t left texts parts → AreTraceFiles t left texts records parts)
      → AreCertifiedBooks inputs folders t books
  all_certified books are certified files = record {
    places = places;
    placed = placed;
    theirs = their_books books are;
    certified = certified;
    whole = λ records trace. their_traces records (files (trace_texts inputs t (map found_place found)) records trace have_texts);
  }

  -- an interface whose file is looked at, or differs in its header, is there
  among_within : (p : ℕ) (files : PartFiles B) (n : ℕ) → AreTracesOf left (trace_texts inputs t (map found_place found)) t p files.traces → IsAmong t left files n → n < length t.ifaces
  among_within p files n are (inl seen) =
      let low = within (map (λ file. is_some file) files.traces.files.files.items) n seen in
      let long = length-map files.traces.files.files.items (λ file. is_some file) in
      let most = are.within in
      omega (arith, low, long, most)
    where
      within : (bs : List Bool) (n : ℕ) → get_or bs n false ≡ true → n < length bs
      within [] n seen = absurd (true≢false (sym seen))
      within (b ∷ bs) zero seen = omega arith
      within (b ∷ bs) (suc n) seen = let low = within bs n seen in omega (arith, low)
  among_within p files n are (inr (octet, is)) = (subst (λ o. IfSome o (λ d. (d.iface < length t.ifaces) × (receiver_of (net_of t) d.iface ≡ p))) is are.own).0

  module _ (records : List (Record (List ℕ))) (trace : IsTraceBefore t t.stop records) where
    -- one that is refused, of whose text this holds
    file_refused : (p n : ℕ) (c : KnownCause) (P : ℕ → List ℕ → Type 0) (files : PartFiles B) → slice_get parts p ≡ Some files → refused_number c ≡ Some n
        → ((r : ℕ) (text : Option (List ℕ)) → IfSome text (P r) → ExplainsText (fresh_book t p r) text (Refused c)) → IfSome (left files.known) (P files.replica) → IsNotCertified inputs folders t n
    unfolding places
    file_refused p n c P files at number explains why =
        let low = slice_get_within parts p files at in
        let count = opened.count in
        let f = element found p (omega (arith, low, count)) in
        let is = opened.each p f.0 files f.1 at in
        inr (inl (record {
          places = places;
          placed = placed;
          partition = p;
          place = found_place f.0;
          there = place_at found p f.0 f.1;
          cause = c;
          number = number;
          why = explains f.0.replica (known_text inputs t places p (found_place f.0))
              (of_text p f.0 files (P f.0.replica) (all.each p f.0 f.1) is.known_is (subst (λ r. IfSome (left files.known) (P r)) is.replica_is why));
        }))

    refused : (p : ℕ) (c : KnownCause) → ExplainsFault t left parts (Refused (cause.Known p c)) → ExplainsFiles inputs folders t (Refused (cause.Known p c))
    refused p known.Failed why = tt
    refused p known.Form (files, at, why, before) = file_refused p 4 known.Form (λ r. IsNoFile (fresh_book t p r)) files at refl (λ r text is. is) why
    refused p known.Topology (files, at, why, before) = file_refused p 6 known.Topology (λ r. IsOfOther (fresh_book t p r)) files at refl (λ r text is. is) why

    pub not_all : (fault : Fault CertifyCause) → ExplainsFault t left parts fault → ExplainsFiles inputs folders t fault
    unfolding places
    not_all NoMemory why = tt
    not_all (Refused cause.Failed) why = tt
    not_all (Refused (cause.Known p c)) why = refused p c why
    not_all (Refused (cause.NotCertified f)) (books, are, shows) = inr (inr (record {
      places = places;
      placed = placed;
      books = books;
      theirs = their_books books are;
      fault = f;
      shows = shows;
      number = refl;
    }))
    not_all (Refused (cause.Differs own octet)) (books, are, certified, differs) =
        let at = differs (trace_texts inputs t (map found_place found)) records trace have_texts in
        let p = receiver_of (net_of t) own in
        let files = at.0.0 in
        let low = slice_get_within parts p files at.0.1 in
        let count = opened.count in
        let f = element found p (omega (arith, low, count)) in
        let there = among_within p files own (opened.each p f.0 files f.1 at.0.1).traces at.0.2 in
        record {
          there = there;
          places = places;
          placed = placed;
          books = books;
          theirs = their_books books are;
          certified = certified;
          records = records;
          trace = trace;
          differs = at.0.3;
          lesser = λ n less. let within : n < length t.ifaces = omega (arith, less, there) in their_trace records n within (at.1 n less within);
        }

-- what is certified, where it is
pub if_certified : {B V E : Type 0} (left : B → Option (List ℕ)) (inputs : InputsSeen) (folders : List (List ℕ)) (t : TopologyValue) (found : List (Found B)) (parts : List (PartFiles B))
    → AllFound left inputs folders t.partitions found → AreOpened left (trace_texts inputs t (map found_place found)) t found parts → (items : V → List BookValue) (r : Result V E)
    → IfOk r (λ v. AreCertified t (items v)) → IfOk r (λ v. AreBooksOf t left parts (items v))
    → ((texts : ℕ → Option (List ℕ)) (records : List (Record (List ℕ))) → IsTraceBefore t t.stop records → HaveTexts t left texts parts → OnOk r (AreTraceFiles t left texts records parts))
    → IfOk r (λ v. AreCertifiedBooks inputs folders t (items v))
if_certified left inputs folders t found parts all opened items (Ok v) certified are files = all_certified left inputs folders t found parts all opened (items v) are certified files
if_certified left inputs folders t found parts all opened items (Err e) certified are files = tt

pub no_items : {X : Type 0} (xs : List X) → length xs ≡ 0 → xs ≡ []
no_items [] none = refl
no_items (x ∷ xs) none = absurd (omega (arith, none))

-- the books are of their partitions
pub books_of_partitions : (inputs : InputsSeen) (folders : List (List ℕ)) (t : TopologyValue) (books : List BookValue) → AreCertifiedBooks inputs folders t books → AreOfPartitions t books
books_of_partitions inputs folders t books are = record {
  count = are.theirs.count ∙ are.placed.count;
  each = λ p b at.
      let low = slice_get_within books p b at in
      let count = are.theirs.count in
      let place = element are.places p (omega (arith, low, count)) in
      let own = are.theirs.each p place.0 b place.1 at in
      (own.topology, own.partition);
}

-- why the files of a text are not certified
pub not_certified : (before after : InputsSeen) (asked : CertifyAsked) (text : List ℕ) (t : TopologyValue) (fault : Fault CertifyCause) (s : Status) → topology_of text ≡ Ok t
    → ExplainsFiles before asked.folders t fault → IsStatusOfFiles before after t.ifaces fault s → AreNotCertified before after asked text s
not_certified before after asked text t NoMemory s read why is = subst (AreNotCertified before after asked text) (sym is) (inr refl)
not_certified before after asked text t (Refused cause.Failed) s read why is = subst (AreNotCertified before after asked text) (sym is.0) (inl (refl, is.1))
not_certified before after asked text t (Refused (cause.Known p known.Failed)) s read why is = subst (AreNotCertified before after asked text) (sym is.0) (inl (refl, is.1))
not_certified before after asked text t (Refused (cause.Known p known.Form)) s read why is = subst (AreNotCertified before after asked text) (sym is) (t, read, why)
not_certified before after asked text t (Refused (cause.Known p known.Topology)) s read why is = subst (AreNotCertified before after asked text) (sym is) (t, read, why)
not_certified before after asked text t (Refused (cause.NotCertified f)) s read why is = subst (AreNotCertified before after asked text) (sym is) (t, read, why)
not_certified before after asked text t (Refused (cause.Differs own octet)) s read why is = pick is
  where
    pick : (s ≡ status.Memory) ⊎ ((name : ArrayString) × (s ≡ status.Differs name octet) × ((iface : IfaceValue) → slice_get t.ifaces own ≡ Some iface → name.bytes ≡ iface.name)) → AreNotCertified before after asked text s
    pick (inl memory) = subst (AreNotCertified before after asked text) (sym memory) (inr refl)
    pick (inr (name, says, called)) =
        let iface = element t.ifaces own why.there in
        subst (AreNotCertified before after asked text) (sym says) (record {
          network = t;
          read = read;
          own = own;
          iface = iface.0;
          there = iface.1;
          called = called iface.0 iface.1;
          unlike = why;
        })

-- what is said of certified files
pub says_files : (inputs : InputsSeen) (asked : CertifyAsked) (t seen : TopologyValue) (books shown : List BookValue) (records : List (Record (List ℕ))) (text octets : List ℕ) → seen ≡ t → shown ≡ books
    → HaveTheirRecords t → AreCertifiedBooks inputs asked.folders t books → IsTraceBefore t t.stop records → topology_of text ≡ Ok t
    → ((totals : ℕ → ℕ × ℕ) → AreTotals seen shown totals → octets ≡ codes "certified\n" ++ iface_lines totals seen) → AreFilesCertified inputs asked text octets
says_files inputs asked t seen books shown records text octets same is law are trace read said = record {
  network = t;
  read = read;
  places = are.places;
  placed = are.placed;
  books = books;
  theirs = are.theirs;
  certified = are.certified;
  records = records;
  trace = trace;
  whole = are.whole records trace;
  said =
      let totals = certified_totals t books records law (books_of_partitions inputs asked.folders t books are) are.certified trace in
      subst (λ z. ((totals : ℕ → ℕ × ℕ) → AreTotals z books totals → octets ≡ codes "certified\n" ++ iface_lines totals z) → octets ≡ codes "certified\n" ++ iface_lines (λ i. totals_of i records) t) (sym same)
      (λ h. h (λ i. totals_of i records) totals) (λ own are_totals. said own (subst (λ l. AreTotals seen l own) (sym is) are_totals));
}
