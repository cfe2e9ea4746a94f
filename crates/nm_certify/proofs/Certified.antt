-- What certified books make of the files.
use Rattle.std.proofs.Common.{◌≡◌, ◌⊎◌, inl, inr, ℕ, zero, suc, ◌+◌, ◌<◌, ◌≤◌, ◌==◌, min, Bool, true, cond, All, Contains, IfSome, List, [], ◌∷◌, ◌++◌, append-nil, filter, flat_map, length, map, slice_get, Option, Some, None, option_map, Result, Ok, Err, refl, sym, ◌∙◌, ap, ap₂, subst, arith}
use Rattle.std.specs.List.{AllZip}
use Rattle.std.proofs.lemmas.Bool.Decides.{nat_tests}
use Rattle.std.proofs.lemmas.List.{length-map}
use Rattle.std.proofs.lemmas.List.Elements.{All-append, All-cons, All-contains, All-nil, Contains-append_left, Contains-append_right, filter_passes}
use Rattle.std.proofs.lemmas.Option.{get_or_from_slice_get, none-some, same_Some, slice_get-get_or, slice_get-map, slice_get_within}
use Rattle.nm_base.specs.declared.fault.Fault.{Fault}
use Rattle.nm_base.specs.declared.fault.Fault.TheVariants.{Memory, Refused}
use Rattle.nm_base.specs.declared.record.Record.{Record}
use Rattle.nm_model.specs.Before.{IsBefore, trace}
use Rattle.nm_model.specs.Lists.{keep_where}
use Rattle.nm_model.specs.Partition.{is_own_record, receiver_of}
use Rattle.nm_model.specs.Run.{one_list}
use Rattle.nm_pcap.specs.Format.{file_header, record_octets}
use Rattle.nm_pcap.specs.declared.form.Form.TheVariants.{Octets}
use Rattle.nm_topology.specs.TopologyValue.{TopologyValue}
use Rattle.nm_files.specs.Checked.{TextDiffers, is_looked_at}
use Rattle.nm_files.specs.Least.{AreBegun, HasRecord, IsLesser}
use Rattle.nm_files.specs.TraceFile.{octets_after, trace_file}
use Rattle.nm_files.specs.declared.checked_file.ReadFailed.{ReadFailed}
use Rattle.nm_files.specs.declared.least_checked.Difference.{Difference}
use Rattle.nm_files.proofs.Records.{file_parts}
use Rattle.nm_sim.specs.Network.{net_of}
use Rattle.nm_sim.specs.Trace.{IsTraceBefore}
use Rattle.nm_book.specs.Book.{state_of}
use Rattle.nm_rounds.specs.Certify.{AreCertified, Certifies}
use Rattle.nm_rounds.specs.declared.certify.CertFault.{CertFault}
use Rattle.nm_known.specs.Known.{ExplainsText}
use Rattle.nm_certify.specs.Certify.{AreBooksOf, AreTraceFiles, ExplainsFault, HaveTexts, HeadersAreOwn, IsAmong, IsBookOf, IsTraceFile, fresh_book}
use Rattle.nm_certify.specs.Checking.{EndsAs, IsCompared, IsEnd, IsLeastOf, RefusesOne, jobs_from, unread}
use Rattle.nm_certify.specs.declared.fault.CertifyCause.TheVariants.{Known, NotCertified}
use Rattle.nm_certify.specs.declared.fault.CertifyCause.TheVariants as cause
use Rattle.nm_certify.specs.declared.part.Job.{Job}
use Rattle.nm_certify.specs.declared.part.PartEnd.{PartEnd}
use Rattle.nm_certify.specs.declared.part_files.PartFiles.{PartFiles}
use Rattle.nm_files.proofs.Folders.{element}
use Rattle.nm_certify.proofs.Pieces.{zip_at, zip_count}

-- a list by a test, in both words
kept_as : {X : Type 0} (p : X → Bool) (xs : List X) → keep_where p xs ≡ filter p xs
kept_as p [] = refl
kept_as p (x ∷ xs) = ap (λ l. cond (p x) (x ∷ l) l) (kept_as p xs)

same_number : (a b : ℕ) → (a == b) ≡ true → a ≡ b
same_number a b is = grind (arith, nat_tests, is)

-- a trace file is what stands in it once all records are written
whole_file : (n : ℕ) (records : List (Record (List ℕ))) → octets_after n records ≡ trace_file Octets n records
whole_file n records = sym (file_parts Octets n records ∙ append-nil (octets_after n records))

pub all_at : {X : Type 0} (P : X → Type 0) (xs : List X) (i : ℕ) (x : X) → All P xs → slice_get xs i ≡ Some x → P x
all_at P xs i x all at = subst P (get_or_from_slice_get xs i x x at) (all i x (slice_get_within xs i x at))

-- an element of a list that a function gave
pub mapped_at : {X Y : Type 0} (f : X → Y) (xs : List X) (i : ℕ) (y : Y) → slice_get (map f xs) i ≡ Some y → (x : X) × (slice_get xs i ≡ Some x) × (f x ≡ y)
mapped_at f [] i y at = absurd (none-some y at)
mapped_at f (x ∷ xs) zero y at = (x, refl, same_Some (f x) y at)
mapped_at f (x ∷ xs) (suc i) y at = mapped_at f xs i y at

-- the records of an interface in the trace of its partition are those in the trace of the whole network
abbrev HaveTheirRecords : TopologyValue → Type 0
HaveTheirRecords t = (p i last : ℕ) → p ≡ receiver_of (net_of t) i
    → keep_where (λ r. r.iface == i) (trace (net_of t) p last) ≡ keep_where (λ r. r.iface == i) (one_list (net_of t) last).records

-- the records of a partition's trace, as they are known of a book
module _ (t : TopologyValue) (law : HaveTheirRecords t)
    (p : ℕ) (own : List (Record (List ℕ))) (whole : (last : ℕ) → IsBefore (net_of t) (net_of t).stop last → own ≡ trace (net_of t) p last)
    (records : List (Record (List ℕ))) (is_trace : IsTraceBefore t t.stop records) where
  are_own : own ≡ trace (net_of t) p is_trace.0
  unfolding net_of
  are_own = whole is_trace.0 (subst (λ n. IsBefore (net_of t) n is_trace.0) (stops t.stop) is_trace.1)
    where
      stops : (n : ℕ) → min n n ≡ n
      stops n = omega arith

  -- they are of the partition's interfaces
  own_part : (n : ℕ) → HasRecord n own → receiver_of (net_of t) n ≡ p
  own_part n (r, has, is) =
      let kept = subst (λ l. Contains l r) (are_own ∙ kept_as (is_own_record (net_of t) p) (one_list (net_of t) is_trace.0).records) has in
      let passes = All-contains (λ x. is_own_record (net_of t) p x ≡ true) _ r (filter_passes (is_own_record (net_of t) p) (one_list (net_of t) is_trace.0).records) kept in
      ap (receiver_of (net_of t)) (sym is) ∙ same_number (receiver_of (net_of t) r.iface) p passes

  -- and at each of these they are those of the one event list
  own_file : (n : ℕ) → receiver_of (net_of t) n ≡ p → octets_after n own ≡ trace_file Octets n records
  own_file n part =
      let at : Record (List ℕ) → Bool = λ r. r.iface == n in
      let same : filter at own ≡ filter at records =
      sym (kept_as at own) ∙ ap (keep_where at) are_own ∙ law p n is_trace.0 (sym part) ∙ ap (keep_where at) (sym is_trace.2) ∙ kept_as at records in
      ap (λ l. file_header ++ flat_map record_octets l) same ∙ whole_file n records

-- the certificate of the same books
pub same_certificate : (t u : TopologyValue) (ends others : List PartEnd) (r s : Result Unit CertFault) → u ≡ t → others ≡ ends → r ≡ s → Certifies u (map (λ end. end.book) others) r
    → Certifies t (map (λ end. end.book) ends) s
same_certificate t u ends others r s same are is shows =
    subst (Certifies t (map (λ end. end.book) ends)) is
    (subst (λ l. Certifies t (map (λ end. end.book) l) r) are (subst (λ z. Certifies z (map (λ end. end.book) others) r) same shows))

job_at : {B : Type 0} (n : ℕ) (parts : List (PartFiles B)) (i : ℕ) (files : PartFiles B) → slice_get parts i ≡ Some files
    → slice_get (jobs_from n parts) i ≡ Some (record { partition = n + i; files = files })
job_at n [] i files at = absurd (none-some files at)
job_at n (x ∷ parts) zero files at = ap₂ (λ k f. Some (record { partition = k; files = f })) (same n) (same_Some x files at)
  where
    same : (n : ℕ) → n ≡ n + zero
    same n = omega arith
job_at n (x ∷ parts) (suc i) files at = job_at (suc n) parts i files at ∙ ap (λ k. Some (record { partition = k; files = files })) (further n i)
  where
    further : (n i : ℕ) → suc n + i ≡ n + suc i
    further n i = omega arith

job_back : {B : Type 0} (n : ℕ) (parts : List (PartFiles B)) (i : ℕ) (job : Job B) → slice_get (jobs_from n parts) i ≡ Some job → (slice_get parts i ≡ Some job.files) × (job.partition ≡ n + i)
job_back n [] i job at = absurd (none-some job at)
job_back {B} n (x ∷ parts) zero job at =
    let is = same_Some (record { partition = n; files = x }) job at in
    (ap (λ (j : Job B). Some j.files) is, ap {A = Job B} (λ j. j.partition) (sym is) ∙ omega arith)
job_back n (x ∷ parts) (suc i) job at =
    let found = job_back (suc n) parts i job at in
    let is = found.1 in
    (found.0, omega (arith, is))

jobs_count : {B : Type 0} (n : ℕ) (parts : List (PartFiles B)) → length (jobs_from n parts) ≡ length parts
jobs_count n [] = refl
jobs_count n (x ∷ parts) = ap suc (jobs_count (suc n) parts)

module _ {B : Type 0} (t : TopologyValue) (left : B → Option (List ℕ)) (parts : List (PartFiles B)) where
  -- why a partition has no book
  pub no_book : (f : _) → RefusesOne t left (jobs_from 0 parts) f → ExplainsFault t left parts f
  no_book Memory why = tt
  no_book (Refused cause.Failed) why = absurd why.3
  no_book (Refused (NotCertified f)) why = absurd why.3
  no_book (Refused (cause.Differs iface octet)) why = absurd why.3
  no_book (Refused (Known p c)) (i, job, at, says, before) =
      let there = job_back 0 parts i job at in
      let number : p ≡ i = says.0 ∙ there.1 ∙ omega arith in (
        job.files,
        ap (slice_get parts) number ∙ there.0,
        subst (λ k. ExplainsText (fresh_book t k job.files.replica) (left job.files.known) (Refused c)) (sym says.0) says.1,
        λ q earlier less here. let end = before q (record { partition = q; files = earlier }) (omega (arith, less, number)) (job_of q earlier here) in (end.0.book, end.1.book),
      )
    where
      job_of : (q : ℕ) (files : PartFiles B) → slice_get parts q ≡ Some files → slice_get (jobs_from 0 parts) q ≡ Some (record { partition = q; files = files })
      job_of q files here = job_at 0 parts q files here ∙ ap (λ k. Some (record { partition = k; files = files })) (omega arith)

  module _ (ends : List PartEnd) (zip : AllZip (IsEnd t left) (jobs_from 0 parts) ends) where
    end_is : (i : ℕ) (files : PartFiles B) (end : PartEnd) → slice_get parts i ≡ Some files → slice_get ends i ≡ Some end → IsEnd t left (record { partition = i; files = files }) end
    end_is i files end at here = zip_at (IsEnd t left) (jobs_from 0 parts) ends i _ end zip (job_at 0 parts i files at ∙ ap (λ k. Some (record { partition = k; files = files })) (omega arith)) here

    count : length ends ≡ length parts
    count = zip_count (IsEnd t left) (jobs_from 0 parts) ends zip ∙ jobs_count 0 parts

    pub books_are : AreBooksOf t left parts (map (λ end. end.book) ends)
    books_are = record {
      count = length-map ends (λ end. end.book) ∙ count;
      each = λ p files b at here.
          let end = mapped_at (λ end. end.book) ends p b here in
          subst (IsBookOf t p files.replica (left files.known)) end.2 (end_is p files end.0 at end.1).book;
    }

    pub not_certified : (f : CertFault) → Certifies t (map (λ end. end.book) ends) (Err f) → ExplainsFault t left parts (Refused (NotCertified f))
    not_certified f shows = (map (λ end. end.book) ends, books_are, shows)

    module _ (law : HaveTheirRecords t)
        (certified : AreCertified t (map (λ end. end.book) ends)) where
      -- the records of a partition's book are its part of the whole trace
      whole : (i : ℕ) (files : PartFiles B) (end : PartEnd) → slice_get parts i ≡ Some files → slice_get ends i ≡ Some end → (last : ℕ) → IsBefore (net_of t) (net_of t).stop last
          → (state_of end.book).records ≡ trace (net_of t) i last
      whole i files end at here last is =
          all_at (λ b. (state_of b).records ≡ trace (net_of t) b.partition last) (map (λ end. end.book) ends) i end.book (certified.traces last is)
          (slice_get-map (λ end. end.book) ends i ∙ ap (option_map (λ end. end.book)) here)
          ∙ ap (λ p. trace (net_of t) p last) (end_is i files end at here).book.partition

      -- each part was compared
      compared : (least : Option Difference) → IsLeastOf ends least → (i : ℕ) (end : PartEnd) → slice_get ends i ≡ Some end → IsCompared least end
      compared least is i end here = all_at (IsCompared least) ends i end is.0 here

      module _ (texts : ℕ → Option (List ℕ)) (records : List (Record (List ℕ))) (is_trace : IsTraceBefore t t.stop records) (have : HaveTexts t left texts parts) where
        begun : (i : ℕ) (files : PartFiles B) → slice_get parts i ≡ Some files → AreBegun texts left files.traces
        begun i files at = all_at (λ files. AreBegun texts left files.traces) parts i files have at

        -- each trace file before the least that differs is that of the one event list
        lesser_is : (least : Option Difference) → IsLeastOf ends least → (n : ℕ) → n < length t.ifaces → IsLesser n least → IsTraceFile t left texts records parts n
        lesser_is least is n low lesser files at =
            let p = receiver_of (net_of t) n in
            let within = slice_get_within parts p files at in
            let here = element ends p (omega (arith, within, count)) in
            let end = here.0 in
            let own = (state_of end.book).records in
            let found = compared least is p end here.1 in
            let ended = subst (EndsAs texts t p own files.traces) found.1 ((end_is p files end at here.1).traces texts (begun p files at)) in
            let of = ended.1 n low (found.2 n lesser) refl in
            (of.0, λ seen. subst (λ l. IfSome (texts n) (λ text. text ≡ l)) (own_file t law p own (whole p files end at here.1) records is_trace n refl) (of.1 seen))

      pub files_are : IsLeastOf ends None → (texts : ℕ → Option (List ℕ)) (records : List (Record (List ℕ))) → IsTraceBefore t t.stop records → HaveTexts t left texts parts
          → AreTraceFiles t left texts records parts
      files_are is texts records is_trace have = λ n low. lesser_is texts records is_trace have None is n low tt

      pub not_read : (f : Fault ReadFailed) → ExplainsFault t left parts (unread f)
      not_read Memory = tt
      not_read (Refused failed) = (map (λ end. end.book) ends, books_are, certified)

      pub not_as : HeadersAreOwn t left parts → (d : Difference) → IsLeastOf ends (Some d) → ExplainsFault t left parts (Refused (cause.Differs d.iface d.octet))
      not_as headers d is = (
        map (λ end. end.book) ends,
        books_are,
        certified,
        λ texts records is_trace have.
            let end = is.1.0 in
            let has = is.1.1 in
            let i = has.0 in
            let here : slice_get ends i ≡ Some end = slice_get-get_or ends i end has.1 ∙ ap (λ x. Some x) has.2 in
            let low = has.1 in
            let there = element parts i (omega (arith, low, count)) in
            let files = there.0 in
            let own = (state_of end.book).records in
            let ended = subst (EndsAs texts t i own files.traces) is.1.2 ((end_is i files end there.1 here).traces texts (begun texts records is_trace have i files there.1)) in
            let all = whole i files end there.1 here in
            let at_own = part i own all records is_trace files (headers i files there.1) ended.0.0 in (
              (
                files,
                ap (slice_get parts) at_own ∙ there.1,
                among files i own ended.0.0,
                subst (λ l. IfSome (texts d.iface) (λ text. TextDiffers text l d.octet)) (own_file t law i own all records is_trace d.iface at_own) ended.0.1,
              ),
              λ n lesser low. lesser_is texts records is_trace have (Some d) is n low lesser,
            ),
      )
        where
          part : (i : ℕ) (own : List (Record (List ℕ))) → ((last : ℕ) → IsBefore (net_of t) (net_of t).stop last → own ≡ trace (net_of t) i last)
              → (records : List (Record (List ℕ))) → IsTraceBefore t t.stop records → (files : PartFiles B) → IfSome files.traces.differs (λ d. receiver_of (net_of t) d.iface ≡ i)
              → (files.traces.differs ≡ Some d) ⊎ ((is_looked_at files.traces.files.files.items d.iface ≡ true) × (HasRecord d.iface own ⊎ (receiver_of (net_of t) d.iface ≡ i)))
              → receiver_of (net_of t) d.iface ≡ i
          part i own all records is_trace files header (inl is) = subst (λ o. IfSome o (λ d. receiver_of (net_of t) d.iface ≡ i)) is header
          part i own all records is_trace files header (inr (seen, inl has)) = own_part t law i own all records is_trace d.iface has
          part i own all records is_trace files header (inr (seen, inr is)) = is

          among : (files : PartFiles B) (i : ℕ) (own : List (Record (List ℕ)))
              → (files.traces.differs ≡ Some d) ⊎ ((is_looked_at files.traces.files.files.items d.iface ≡ true) × (HasRecord d.iface own ⊎ (receiver_of (net_of t) d.iface ≡ i)))
              → IsAmong t left files d.iface
          among files i own (inl is) = inr (d.octet, is)
          among files i own (inr at) = inl at.0

-- of no part there is a difference yet
pub none_least : IsLeastOf [] None
none_least = (All-nil (IsCompared None), tt)

-- the least of two
lesser_of : (least : Option Difference) (found now : Difference) → (now.iface ≤ found.iface) × IfSome least (λ d. now.iface ≤ d.iface) → (n : ℕ) → n < now.iface → IsLesser n least × (n < found.iface)
lesser_of None found now low n less = (tt, let is = low.0 in omega (arith, is, less))
lesser_of (Some d) found now low n less = (let is = low.1 in omega (arith, is, less), let is = low.0 in omega (arith, is, less))

-- one part more, which has no difference, or this one
module _ (ends : List PartEnd) (end : PartEnd) where
  more_compared : (least now : Option Difference) (found : Option Difference) → IsLeastOf ends least → end.traces ≡ Ok found → ((n : ℕ) → IsLesser n now → IsLesser n least × IsLesser n found)
      → All (IsCompared now) (ends ++ end ∷ [])
  more_compared least now found was is lesser =
      All-append (IsCompared now) ends (end ∷ []) (λ i d low. let one = was.0 i d low in (one.0, one.1, λ n less. one.2 n (lesser n less).0))
      (All-cons (IsCompared now) end [] (found, is, λ n less. (lesser n less).1) (All-nil (IsCompared now)))

  still_one : (least : Option Difference) → IfSome least (λ d. (end : PartEnd) × Contains ends end × (end.traces ≡ Ok (Some d))) → IfSome least (λ d. (other : PartEnd) × Contains (ends ++ end ∷ []) other × (other.traces ≡ Ok (Some d)))
  still_one None h = tt
  still_one (Some d) (other, has, is) = (other, Contains-append_left ends (end ∷ []) other has, is)

  pub none_more : (least : Option Difference) → IsLeastOf ends least → end.traces ≡ Ok None → IsLeastOf (ends ++ end ∷ []) least
  none_more least was is = (more_compared least least None was is (λ n less. (less, tt)), still_one least was.1)

  pub one_more_least : (least : Option Difference) (found now : Difference) → IsLeastOf ends least → end.traces ≡ Ok (Some found) → (now ≡ found) ⊎ (least ≡ Some now)
      → (now.iface ≤ found.iface) × IfSome least (λ d. now.iface ≤ d.iface) → IsLeastOf (ends ++ end ∷ []) (Some now)
  one_more_least least found now was is one low = (more_compared least (Some now) (Some found) was is (lesser_of least found now low), pick one)
    where
      pick : (now ≡ found) ⊎ (least ≡ Some now) → (other : PartEnd) × Contains (ends ++ end ∷ []) other × (other.traces ≡ Ok (Some now))
      pick (inl same) = (end, Contains-append_right ends (end ∷ []) end (0, omega arith, refl), is ∙ ap (λ d. Ok (Some d)) (sym same))
      pick (inr old) = subst (λ o. IfSome o (λ d. (other : PartEnd) × Contains (ends ++ end ∷ []) other × (other.traces ≡ Ok (Some d)))) old (still_one least was.1)
