-- The totals of interfaces in certified books.
use Rattle.std.proofs.Common.{◌≡◌, ◌⊎◌, inl, inr, ℕ, zero, suc, ◌+◌, ◌==◌, ◌<◌, min, ltb, true, false, if◌then◌else◌, length, List, [], ◌∷◌, map, slice_get, Option, Some, None, refl, sym, ◌∙◌, ap, subst, arith}
use Rattle.std.proofs.lemmas.Bool.Decides.{nat_tests}
use Rattle.nm_base.specs.Count.{saturated}
use Rattle.nm_base.specs.declared.record.Record.{Record}
use Rattle.nm_model.specs.Before.{IsBefore, trace}
use Rattle.nm_model.specs.Certificate.{Book}
use Rattle.nm_model.specs.Lists.{keep_where, nth}
use Rattle.nm_model.specs.Partition.{receiver_of}
use Rattle.nm_model.specs.Run.{one_list}
use Rattle.nm_pcap.specs.Format.{pcap}
use Rattle.nm_pcap.specs.declared.format.TheConstants.{FILE_HEADER_OCTETS}
use Rattle.nm_topology.specs.TopologyValue.{TopologyValue}
use Rattle.nm_sim.specs.Network.{net_of}
use Rattle.nm_sim.specs.Totals.{totals_at, totals_of}
use Rattle.nm_sim.specs.Trace.{IsTraceBefore}
use Rattle.nm_book.specs.Book.{BookValue, state_of}
use Rattle.nm_model.proofs.ListLemmas.{below_or_at}
use Rattle.nm_rounds.specs.Certify.{book_of}
use Rattle.nm_rounds.specs.SameTopology.{SaysSame}

stops : (t : TopologyValue) → min t.stop t.stop ≡ (net_of t).stop
unfolding net_of
stops t = omega arith

-- a book whose trace is its partition's has the totals of the one event list
pub total_is : (t : TopologyValue) (b : BookValue) (i : ℕ) (found : ℕ × ℕ) (records : List (Record (List ℕ)))
    → ((p j last : ℕ) → p ≡ receiver_of (net_of t) j → keep_where (λ r. r.iface == j) (trace (net_of t) p last) ≡ keep_where (λ r. r.iface == j) (one_list (net_of t) last).records)
    → i < length t.ifaces → SaysSame b.topology t → b.partition ≡ receiver_of (net_of t) i
    → ((last : ℕ) → IsBefore (net_of t) (net_of t).stop last → (state_of b).records ≡ trace (net_of t) b.partition last)
    → found ≡ totals_at b.topology (state_of b).records i → IsTraceBefore t t.stop records → found ≡ totals_of i records
total_is t b i found records law low same part whole is trace_is =
    let last = trace_is.0 in
    let own = whole last (subst (λ n. IsBefore (net_of t) n last) (stops t) trace_is.1) in
    let ifaces : b.topology.ifaces ≡ t.ifaces = ap {A = TopologyValue} (λ z. z.ifaces) same in
    let there : i < length b.topology.ifaces = subst (λ l. i < length l) (sym ifaces) low in
    let inside : ltb i (length b.topology.ifaces) ≡ true = grind (arith, there) in
    is ∙ ap (λ z. if z then totals_of i (state_of b).records else (0, FILE_HEADER_OCTETS)) inside
    ∙ ap (λ l. (saturated (length l), saturated (length (pcap l))))
    (ap (keep_where (λ r. r.iface == i)) own ∙ law b.partition i last part ∙ ap (keep_where (λ r. r.iface == i)) (sym trace_is.2))

-- none of the first n books is of this partition
abbrev pub HaveNone : List BookValue → ℕ → ℕ → Type 0
HaveNone books n p = (i : ℕ) (b : BookValue) → i < n → slice_get books i ≡ Some b → b.partition ≡ p → ⊥

pub none_more : (books : List BookValue) (n p : ℕ) (b : BookValue) → HaveNone books n p → slice_get books n ≡ Some b → (b.partition ≡ p → ⊥)
    → HaveNone books (n + 1) p
none_more books n p b none here apart i x low at is = go (below_or_at i n (omega (arith, low)))
  where
    entry : ℕ → Option BookValue → ℕ
    entry d None = d
    entry d (Some y) = y.partition

    go : (i < n) ⊎ (i ≡ n) → ⊥
    go (inl below) = none i x below at is
    go (inr same) = apart (ap (entry p) (sym here ∙ ap (slice_get books) (sym same) ∙ at) ∙ is)

-- a book is not of a partition that is another one
pub apart_by : (a b : ℕ) → (a == b) ≡ false → a ≡ b → ⊥
apart_by a b h e =
    let same : (a == b) ≡ true = grind (arith, nat_tests, e) in
    let wrong : true ≡ false = sym same ∙ h in cc

-- the book that the model finds
abbrev part_of : ℕ → Option (Book (List ℕ)) → ℕ
part_of d None = d
part_of d (Some b) = b.part

pub book_there : (books : List BookValue) (i : ℕ) (m : Book (List ℕ)) (p : ℕ) → nth (map book_of books) i ≡ Some m → m.part ≡ p
    → (j : ℕ) × (b : BookValue) × (j < length books) × (slice_get books j ≡ Some b) × (b.partition ≡ p)
book_there [] i m p at is = absurd (let none : None ≡ Some m = at in cc)
book_there (b ∷ books) zero m p at is = (0, b, omega arith, refl, ap (part_of p) at ∙ is)
book_there (b ∷ books) (suc i) m p at is =
    let found = book_there books i m p at is in
    (suc found.0, found.1, let low = found.2 in omega (arith, low), found.3, found.4)
