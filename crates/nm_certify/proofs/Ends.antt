-- How the trace files of a partition end.
use Rattle.std.proofs.Common.{◌≡◌, ◌==◌, ◌⊎◌, inl, inr, ℕ, zero, suc, ◌+◌, ◌<◌, ◌≤◌, ◌++◌, ◌∷◌, Bool, refl, false, IfSome, List, [], Option, Some, None, is_some, Result, Ok, get_or, length, take, append-nil, true, sym, ◌∙◌, ap, subst, arith}
use Rattle.std.proofs.lemmas.List.{get_or-take, length-map, take_all}
use Rattle.std.proofs.lemmas.Option.{IfSome_then}
use Rattle.std.proofs.lemmas.Bool.{true≢false}
use Rattle.std.proofs.lemmas.Bool.Decides.{nat_tests}
use Rattle.nm_base.specs.Count.{saturated}
use Rattle.nm_base.specs.declared.fault.Fault.{Fault}
use Rattle.nm_base.specs.declared.record.Record.{Record}
use Rattle.nm_model.specs.Partition.{receiver_of}
use Rattle.nm_model.proofs.ListLemmas.{below_or_at}
use Rattle.nm_topology.specs.TopologyValue.{TopologyValue}
use Rattle.nm_sim.specs.Network.{net_of}
use Rattle.nm_files.specs.Checked.{DiffersAt, DiffersIn, GoesOn, is_looked_at, looked_at}
use Rattle.nm_files.specs.Least.{AreBegun, AreOpenBelow, AreReadBelow, DiffersWithin, HasRecord, IsFinished, IsLesser, IsOfHeaderOr}
use Rattle.nm_files.specs.TraceFile.{octets_after}
use Rattle.nm_files.specs.declared.checked_file.CheckedFile.{CheckedFile}
use Rattle.nm_files.specs.declared.checked_file.ReadFailed.{ReadFailed}
use Rattle.nm_files.specs.declared.least_checked.Difference.{Difference}
use Rattle.nm_files.specs.declared.least_checked.LeastChecked.{LeastChecked}
use Rattle.nm_files.proofs.Least.{all_open, less_open, looked_in_first}
use Rattle.nm_pcap.specs.Format.{file_header}
use Rattle.nm_frames.specs.Frame.{stream_octets}
use Rattle.nm_book.specs.Book.{BookValue, state_of}
use Rattle.nm_known.specs.Known.{frames_below, known_octets, replica_hello, told_of}
use Rattle.nm_certify.specs.Certify.{HasDoneAll, fresh_book}
use Rattle.nm_certify.specs.declared.part.Job.{Job}
use Rattle.nm_certify.specs.Checking.{EndsAs, IsEnd, IsUnlikeTheirs}

-- files of which the headers are read were read over no records
pub begun_read : (texts : ℕ → Option (List ℕ)) {B : Type 0} (left : B → Option (List ℕ)) (traces : LeastChecked B) → AreBegun texts left traces → AreReadBelow texts left traces [] traces
begun_read texts left traces are = record { read = are.read; least = pick traces.differs refl are.differs }
  where
    pick : (o : Option Difference) → traces.differs ≡ o → IfSome o (λ d. (length traces.files.files.items ≤ d.iface) × DiffersIn texts d.iface [] file_header d.octet)
        → AreOpenBelow traces (DiffersWithin texts traces []) traces.files.files.items o
    pick None is header = (is, refl)
    pick (Some d) is (low, differs) = (
      (inl is, subst (λ l. DiffersIn texts d.iface [] l d.octet) (sym (append-nil file_header)) differs),
      sym (take_all d.iface (looked_at traces.files.files.items) (let long = length-map traces.files.files.items (λ file. is_some file) in omega (arith, low, long))),
    )

-- a file that is looked at is there
seen_within : (bs : List Bool) (n : ℕ) → get_or bs n false ≡ true → n < length bs
seen_within [] n seen = absurd (true≢false (sym seen))
seen_within (b ∷ bs) zero seen = omega arith
seen_within (b ∷ bs) (suc n) seen = let low = seen_within bs n seen in omega (arith, low)

module _ (texts : ℕ → Option (List ℕ)) (t : TopologyValue) (p : ℕ) (records : List (Record (List ℕ))) {B : Type 0} (left : B → Option (List ℕ)) (begun : LeastChecked B) where
  -- the least that differs within these records
  differs_theirs : (d : Difference) → DiffersWithin texts begun records d → IsUnlikeTheirs texts t p records begun d
  differs_theirs d (of, differs) = (own of, IfSome_then (texts d.iface) differs (λ text e. (e.0, e.2 ∙ ap saturated (none_before e.0), subst (DiffersAt text (octets_after d.iface records)) (none_before e.0) e.3)))
    where
      none_before : (k : ℕ) → 0 + k ≡ k
      none_before k = omega arith

      own : IsOfHeaderOr begun records d → (begun.differs ≡ Some d) ⊎ ((is_looked_at begun.files.files.items d.iface ≡ true) × (HasRecord d.iface records ⊎ (receiver_of (net_of t) d.iface ≡ p)))
      own (inl header) = inl header
      own (inr (seen, has)) = inr (seen, inl has)

  pub read_theirs : (traces : LeastChecked B) → AreReadBelow texts left begun records traces → AreOpenBelow begun (IsUnlikeTheirs texts t p records begun) traces.files.files.items traces.differs
  read_theirs traces are = all_open begun (DiffersWithin texts begun records) (IsUnlikeTheirs texts t p records begun) traces.files.files.items traces.files.files.items traces.differs traces.differs refl refl differs_theirs are.least

  -- or the least that goes on behind them
  pub finished_theirs : (n : ℕ) (old new : LeastChecked B) → receiver_of (net_of t) n ≡ p → IsFinished texts left records n old new
      → AreOpenBelow begun (IsUnlikeTheirs texts t p records begun) old.files.files.items old.differs → AreOpenBelow begun (IsUnlikeTheirs texts t p records begun) new.files.files.items new.differs
  finished_theirs n old new own is opened = pick is.least
    where
      pick : ((new.differs ≡ old.differs) × (looked_at new.files.files.items ≡ looked_at old.files.files.items))
          ⊎ ((octet : ℕ) × (new.differs ≡ Some (record { iface = n; octet = octet })) × (looked_at new.files.files.items ≡ take n (looked_at old.files.files.items))
          × (is_looked_at old.files.files.items n ≡ true) × GoesOn texts n (octets_after n records) octet)
          → AreOpenBelow begun (IsUnlikeTheirs texts t p records begun) new.files.files.items new.differs
      pick (inl (same, looked)) = all_open begun (IsUnlikeTheirs texts t p records begun) (IsUnlikeTheirs texts t p records begun) old.files.files.items new.files.files.items old.differs new.differs same looked (λ d h. h) opened
      pick (inr (octet, here, looked, seen, on)) =
          subst (AreOpenBelow begun (IsUnlikeTheirs texts t p records begun) new.files.files.items) (sym here)
          (less_open begun (IsUnlikeTheirs texts t p records begun) (IsUnlikeTheirs texts t p records begun) old.files.files.items new.files.files.items old.differs n octet seen looked
          (λ at. (inr (at, inr own), IfSome_then (texts n) on (λ text d. (length (octets_after n records), d.0, d.2)))) opened)

  -- a file that is open after that was open before
  pub open_before : (n m : ℕ) (old new : LeastChecked B) → IsFinished texts left records n old new → is_looked_at new.files.files.items m ≡ true → is_looked_at old.files.files.items m ≡ true
  open_before n m old new is seen = pick is.least
    where
      pick : ((new.differs ≡ old.differs) × (looked_at new.files.files.items ≡ looked_at old.files.files.items))
          ⊎ ((octet : ℕ) × (new.differs ≡ Some (record { iface = n; octet = octet })) × (looked_at new.files.files.items ≡ take n (looked_at old.files.files.items))
          × (is_looked_at old.files.files.items n ≡ true) × GoesOn texts n (octets_after n records) octet)
          → is_looked_at old.files.files.items m ≡ true
      pick (inl (same, looked)) = ap (λ l. get_or l m false) (sym looked) ∙ seen
      pick (inr (octet, here, looked, own, on)) = (looked_in_first n (looked_at old.files.files.items) m (ap (λ l. get_or l m false) (sym looked) ∙ seen)).1

  -- what came of them all
  pub ends_as : (files : List (Option (CheckedFile B))) (found : Option Difference) → AreBegun texts left begun → AreOpenBelow begun (IsUnlikeTheirs texts t p records begun) files found
      → ((n : ℕ) → n < length t.ifaces → receiver_of (net_of t) n ≡ p → is_looked_at files n ≡ true → IfSome (texts n) (λ text. text ≡ octets_after n records))
      → EndsAs texts t p records begun (Ok found)
  ends_as files None are (none, all) whole = (tt, λ n low lesser own. (subst (IsLesser n) (sym none) tt, λ seen. whole n low own (ap (λ l. get_or l n false) all ∙ seen)))
  ends_as files (Some d) are (is, below) whole = (is, λ n low lesser own. (before n lesser is.0 begun.differs refl are.differs, λ seen. whole n low own (ap (λ l. get_or l n false) below ∙ get_or-take d.iface (looked_at begun.files.files.items) n false lesser ∙ seen)))
    where
      before : (n : ℕ) → n < d.iface → (begun.differs ≡ Some d) ⊎ ((is_looked_at begun.files.files.items d.iface ≡ true) × (HasRecord d.iface records ⊎ (receiver_of (net_of t) d.iface ≡ p)))
          → (o : Option Difference) → begun.differs ≡ o → IfSome o (λ e. (length begun.files.files.items ≤ e.iface) × DiffersIn texts e.iface [] file_header e.octet) → IsLesser n begun.differs
      before n lesser (inl header) o is_o more = subst (IsLesser n) (sym header) lesser
      before n lesser (inr at) None is_o more = subst (IsLesser n) (sym is_o) tt
      before n lesser (inr (seen, at)) (Some e) is_o (count, more) =
          let low = seen_within (looked_at begun.files.files.items) d.iface seen in
          let long = length-map begun.files.files.items (λ file. is_some file) in
          subst (IsLesser n) (sym is_o) (omega (arith, lesser, low, long, count))

-- what is true below a number is true below the next
pub one_further : (P : ℕ → Type 0) (n : ℕ) → ((m : ℕ) → m < n → P m) → P n → (m : ℕ) → m < n + 1 → P m
one_further P n below here m low = pick (below_or_at m n (omega (arith, low)))
  where
    pick : (m < n) ⊎ (m ≡ n) → P m
    pick (inl less) = below m less
    pick (inr same) = subst P (sym same) here

pub other_part : (a b : ℕ) → a ≡ b → false ≡ (a == b) → ⊥
other_part a b same other =
    let is : (a == b) ≡ true = grind (arith, nat_tests, same) in
    true≢false (sym is ∙ sym other)

-- a book that ran knows what it knew
frames_same : (b : BookValue) (events handed n : ℕ) → frames_below (record b { events = events; handed = handed }) n ≡ frames_below b n
frames_same b events handed zero = refl
frames_same b events handed (suc n) = ap (λ l. l ++ told_of b n) (frames_same b events handed n)

octets_same : (b : BookValue) (events handed : ℕ) → known_octets (record b { events = events; handed = handed }) ≡ known_octets b
octets_same b events handed = ap (λ l. stream_octets (replica_hello b ∷ l)) (frames_same b events handed (length b.topology.receivers))

pub is_end : {B : Type 0} (t : TopologyValue) (left : B → Option (List ℕ)) (job : Job B) (first last : BookValue) (traces : Result (Option Difference) (Fault ReadFailed))
    → first ≡ record (fresh_book t job.partition job.files.replica) { knows = first.knows } → last ≡ record first { events = last.events; handed = last.handed }
    → IfSome (left job.files.known) (λ text. text ≡ known_octets first) → HasDoneAll last
    → ((texts : ℕ → Option (List ℕ)) → AreBegun texts left job.files.traces → EndsAs texts t job.partition (state_of last).records job.files.traces traces)
    → IsEnd t left job (record { book = last; traces = traces })
is_end t left job first last traces fresh ran told all ends = record {
  book = record {
    topology = ap {A = BookValue} (λ b. b.topology) ran ∙ ap {A = BookValue} (λ b. b.topology) fresh;
    partition = ap {A = BookValue} (λ b. b.partition) ran ∙ ap {A = BookValue} (λ b. b.partition) fresh;
    replica_is = ap {A = BookValue} (λ b. b.replica) ran ∙ ap {A = BookValue} (λ b. b.replica) fresh;
    told = IfSome_then (left job.files.known) told (λ text is. is ∙ sym (ap known_octets ran ∙ octets_same first last.events last.handed));
    ran = all;
  };
  traces = ends;
}
