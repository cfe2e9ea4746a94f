-- The lines of interfaces, one after another, and those after rounds.
use Rattle.std.proofs.Common.{◌≡◌, ℕ, ltb, true, if◌then◌else◌, Ok, Option, None, codes, decimal, ◌+◌, ◌<◌, ◌==◌, take, min, length, List, ◌++◌, Some, slice_get, refl, sym, ◌∙◌, ap, subst, arith}
use Rattle.std.specs.List.{enumerate_from, flat_map}
use Rattle.std.proofs.lemmas.List.{append_assoc, take_all}
use Rattle.std.proofs.lemmas.Option.{slice_get_within, get_or_from_slice_get}
use Rattle.nm_base.specs.Count.{saturated}
use Rattle.nm_base.specs.declared.record.Record.{Record}
use Rattle.nm_model.specs.Before.{IsBefore, trace}
use Rattle.nm_model.specs.Lists.{keep_where}
use Rattle.nm_model.specs.Network.{IsParted}
use Rattle.nm_model.specs.Partition.{receiver_of}
use Rattle.nm_model.specs.Run.{one_list}
use Rattle.nm_model.specs.World.{Replica}
use Rattle.nm_pcap.specs.Format.{pcap}
use Rattle.nm_pcap.specs.declared.format.TheConstants.{FILE_HEADER_OCTETS}
use Rattle.nm_topology.specs.PartValues.{IfaceValue}
use Rattle.nm_topology.specs.TopologyValue.{TopologyValue}
use Rattle.nm_sim.specs.Network.{net_of}
use Rattle.nm_sim.specs.Totals.{totals_at, totals_of}
use Rattle.nm_sim.specs.Trace.{IsTraceBefore}
use Rattle.nm_book.specs.Book.{BookValue, state_of}
use Rattle.nm_book.proofs.Incoming.{ifaces_are}
use Rattle.nm_rounds.specs.Certify.{AreCertified}
use Rattle.nm_certify.proofs.Certified.{all_at}
use Rattle.nm_rounds.specs.Rounds.{AreBooks, AreDoneWithin, AreUnfinished}
use Rattle.nm_base.proofs.Numbered.{numbered_more}
use Rattle.nm_files.proofs.Folders.{element}
use Rattle.nm_offline.specs.Lines.{AreOfPartitions, AreTotals, iface_line, iface_lines}
use Rattle.nm_offline.specs.Rounds.{SaysDone, SaysUnfinished}
use Rattle.nm_topology.specs.Topology.{topology_of}

-- Behind a text stands what the first n elements of a list give with their numbers.
abbrev pub HasGiven : {X Y : Type 0} → (ℕ × X → List Y) → List X → ℕ → List Y → List Y → Type 0
HasGiven f xs n old new = new ≡ old ++ flat_map f (enumerate_from 0 (take n xs))

pub next_given : {X Y : Type 0} (f : ℕ × X → List Y) (xs : List X) (n : ℕ) (x : X) (old mid new : List Y) → slice_get xs n ≡ Some x
    → HasGiven f xs n old mid → new ≡ mid ++ f (n, x) → HasGiven f xs (n + 1) old new
next_given f xs n x old mid new is so_far more =
    more ∙ ap (λ l. l ++ f (n, x)) so_far ∙ append_assoc old (flat_map f (enumerate_from 0 (take n xs))) (f (n, x))
    ∙ ap (λ l. old ++ l) (sym (numbered_more f xs n x (slice_get_within xs n x is) (sym (get_or_from_slice_get xs n x x is))))

-- the next element gives what is said of it
pub one_given : {X Y : Type 0} (f : ℕ × X → List Y) (xs : List X) (n : ℕ) (old mid new : List Y) → n < length xs
    → HasGiven f xs n old mid → ((x : X) → slice_get xs n ≡ Some x → new ≡ mid ++ f (n, x)) → HasGiven f xs (n + 1) old new
one_given f xs n old mid new low so_far more =
    let is = element xs n low in
    next_given f xs n is.0 old mid new is.1 so_far (more is.0 is.1)

pub all_given : {X Y : Type 0} (f : ℕ × X → List Y) (xs : List X) (n : ℕ) (old new : List Y) → n ≡ length xs → HasGiven f xs n old new → new ≡ old ++ flat_map f (enumerate_from 0 xs)
all_given f xs n old new all has = has ∙ ap (λ l. old ++ flat_map f (enumerate_from 0 l)) (take_all n xs (omega (arith, all)))

-- the lines of the first interfaces
abbrev pub HasLines : (ℕ → ℕ × ℕ) → TopologyValue → ℕ → List ℕ → List ℕ → Type 0
HasLines totals t n old new = HasGiven (λ i. iface_line i.1 (totals i.0)) t.ifaces n old new

-- the replicas of rounds are of their partitions
pub of_partitions : (t : TopologyValue) (x : ℕ → Replica (List ℕ)) (books : List BookValue) → AreBooks t t.partitions x books → AreOfPartitions t books
of_partitions t x books are = record {
  count = are.count;
  each = λ p b at. let is = are.each p b at in (is.topology, is.partition);
}

stops : (t : TopologyValue) → min t.stop t.stop ≡ (net_of t).stop
unfolding net_of
stops t = omega arith

-- an interface has in its partition what it has in the whole network
abbrev pub HaveTheirRecords : TopologyValue → Type 0
HaveTheirRecords t = (p i last : ℕ) → p ≡ receiver_of (net_of t) i
    → keep_where (λ r. r.iface == i) (trace (net_of t) p last) ≡ keep_where (λ r. r.iface == i) (one_list (net_of t) last).records

whole_totals : (t : TopologyValue) (i : ℕ) (own records : List (Record (List ℕ))) → HaveTheirRecords t → ((last : ℕ) → IsBefore (net_of t) (net_of t).stop last → own ≡ trace (net_of t) (receiver_of (net_of t) i) last)
    → IsTraceBefore t t.stop records → totals_of i records ≡ totals_of i own
whole_totals t i own records law whole trace_is =
    let last = trace_is.0 in
    ap (λ own. (saturated (length own), saturated (length (pcap own))))
    (ap (keep_where (λ r. r.iface == i)) trace_is.2 ∙ sym (law (receiver_of (net_of t) i) i last refl)
    ∙ ap (keep_where (λ r. r.iface == i)) (sym (whole last (subst (λ n. IsBefore (net_of t) n last) (stops t) trace_is.1))))

-- so it is once all are done
pub done_totals : (t : TopologyValue) (max rounds : ℕ) (books : List BookValue) (records : List (Record (List ℕ))) → HaveTheirRecords t
    → AreDoneWithin t max rounds books → IsTraceBefore t t.stop records → AreTotals t books (λ i. totals_of i records)
done_totals t max rounds books records law done trace_is i b there at =
    whole_totals t i (state_of b).records records law (λ last is. (done.whole (receiver_of (net_of t) i) b at).trace last is) trace_is

-- and in books that are certified
pub certified_totals : (t : TopologyValue) (books : List BookValue) (records : List (Record (List ℕ))) → HaveTheirRecords t
    → AreOfPartitions t books → AreCertified t books → IsTraceBefore t t.stop records → AreTotals t books (λ i. totals_of i records)
certified_totals t books records law are certified trace_is i b there at =
    let p = receiver_of (net_of t) i in
    whole_totals t i (state_of b).records records law
    (λ last is. all_at (λ b. (state_of b).records ≡ trace (net_of t) b.partition last) books p b (certified.traces last is) at ∙ ap (λ k. trace (net_of t) k last) (are.each p b at).1) trace_is

-- The same books, through references.
pub are_theirs : (t seen : TopologyValue) (books shown : List BookValue) → seen ≡ t → shown ≡ books → AreOfPartitions t books → AreOfPartitions seen shown
are_theirs t seen books shown same is are = subst (λ z. AreOfPartitions z shown) (sym same) (subst (AreOfPartitions t) (sym is) are)

-- the text is a word with a number, and the lines
abbrev pub HasSaid : List ℕ → ℕ → TopologyValue → List BookValue → List ℕ → Type 0
HasSaid word number t books octets = (totals : ℕ → ℕ × ℕ) → AreTotals t books totals → octets ≡ word ++ decimal number ++ codes "\n" ++ iface_lines totals t

pub says_done : (t seen : TopologyValue) (max rounds : ℕ) (books shown : List BookValue) (records : List (Record (List ℕ))) (text octets : List ℕ)
    → seen ≡ t → shown ≡ books
    → ((p i last : ℕ) → p ≡ receiver_of (net_of t) i → keep_where (λ r. r.iface == i) (trace (net_of t) p last) ≡ keep_where (λ r. r.iface == i) (one_list (net_of t) last).records)
    → AreDoneWithin t max rounds books → IsTraceBefore t t.stop records → topology_of text ≡ Ok t → HasSaid (codes "done ") rounds seen shown octets → SaysDone max text octets
says_done t seen max rounds books shown records text octets same is law done whole read said =
    let has = subst (λ z. HasSaid (codes "done ") rounds z books octets) same (subst (λ b. HasSaid (codes "done ") rounds seen b octets) is said) in
    record {
      network = t;
      read = read;
      rounds = rounds;
      books = books;
      done = done;
      records = records;
      trace = whole;
      said = has (λ i. totals_of i records) (done_totals t max rounds books records law done whole);
    }

-- what each interface has in the book of its partition
books_totals : TopologyValue → List BookValue → ℕ → ℕ × ℕ
books_totals t books i = in_book (slice_get books (receiver_of (net_of t) i))
  where
    in_book : Option BookValue → ℕ × ℕ
    in_book None = (0, 0)
    in_book (Some b) = totals_of i (state_of b).records

books_totals_are : (t : TopologyValue) (books : List BookValue) → AreTotals t books (books_totals t books)
unfolding books_totals
books_totals_are t books i b low at = search (at)

pub says_unfinished : (t seen : TopologyValue) (max rounds : ℕ) (books shown : List BookValue) (text octets : List ℕ)
    → seen ≡ t → shown ≡ books → AreUnfinished t max rounds books → topology_of text ≡ Ok t → HasSaid (codes "unfinished ") rounds seen shown octets → SaysUnfinished max text octets
says_unfinished t seen max rounds books shown text octets same is left read said =
    let has = subst (λ z. HasSaid (codes "unfinished ") rounds z books octets) same (subst (λ b. HasSaid (codes "unfinished ") rounds seen b octets) is said) in
    let totals = books_totals t books in
    let are = books_totals_are t books in
    record {
      network = t;
      read = read;
      books = books;
      left = subst (λ n. AreUnfinished t max n books) left.all left;
      totals = totals;
      are = are;
      said = subst (λ n. octets ≡ codes "unfinished " ++ decimal n ++ codes "\n" ++ iface_lines totals t) left.all (has totals are);
    }

parts_are : (t : TopologyValue) → (net_of t).parts ≡ t.partitions
unfolding net_of
parts_are t = refl

-- the book of an interface's partition is there
pub book_there : (t : TopologyValue) (books : List BookValue) (i : ℕ) → IsParted (net_of t) → AreOfPartitions t books → i < length t.ifaces → receiver_of (net_of t) i < length books
book_there t books i parted are low =
    let e = ifaces_are t in let h = parted.ifaces i (omega (arith, e, low)) in let p = parts_are t in let c = are.count in omega (arith, h, p, c)

at_low : (t : TopologyValue) (i : ℕ) (records : List (Record (List ℕ))) → i < length t.ifaces → totals_at t records i ≡ totals_of i records
at_low t i records low = let e : ltb i (length t.ifaces) ≡ true = grind (arith, low) in ap (λ z. if z then totals_of i records else (0, FILE_HEADER_OCTETS)) e

-- what a book has of an interface is its line
pub line_is : (totals : ℕ → ℕ × ℕ) (t : TopologyValue) (books : List BookValue) (i : ℕ) (b : BookValue) (x iface : IfaceValue) (found : ℕ × ℕ) (old new : List ℕ)
    → AreTotals t books totals → i < length t.ifaces → slice_get books (receiver_of (net_of t) i) ≡ Some b → b.topology ≡ t
    → found ≡ totals_at b.topology (state_of b).records i → slice_get t.ifaces i ≡ Some x → slice_get t.ifaces i ≡ Some iface
    → new ≡ old ++ iface_line x found → new ≡ old ++ iface_line iface (totals i)
line_is totals t books i b x iface found old new are low at of is one two text =
    let same : x ≡ iface = cc in
    let all : found ≡ totals i = is ∙ ap (λ z. totals_at z (state_of b).records i) of ∙ at_low t i (state_of b).records low ∙ sym (are i b low at) in
    text ∙ ap (λ z. old ++ iface_line z found) same ∙ ap (λ z. old ++ iface_line iface z) all
