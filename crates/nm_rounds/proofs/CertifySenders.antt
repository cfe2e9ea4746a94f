-- A channel that comes into a book, beside each book that sends on it.
use Rattle.std.proofs.Common.{◌≡◌, ℕ, ◌+◌, ◌<◌, ◌≤◌, true, false, cond, List, length, map, drop, get_or, slice_index_or, Some, None, Result, Ok, Err, ap, ◌∙◌}
use Rattle.nm_topology.specs.Topology.{channel_from, receiving_iface}
use Rattle.nm_topology.specs.TopologyValue.{TopologyValue}
use Rattle.nm_model.specs.Certificate.{Book, first_of}
use Rattle.nm_model.specs.Knowledge.{Know, nothing_known}
use Rattle.nm_model.specs.Partition.{comes_in}
use Rattle.nm_sim.specs.Network.{net_of}
use Rattle.nm_book.specs.Book.{BookValue, is_incoming, knowledge}
use Rattle.nm_rounds.specs.Certify.{FindsFault, book_of, books_of, incoming_fault, sender_fault}
use Rattle.nm_rounds.specs.SameTopology.{SaysSame}
use Rattle.nm_rounds.specs.declared.certify.CertFault.{CertFault}
use Rattle.nm_rounds.proofs.CertifyChannels.{comes_here, knows_of}
use Rattle.nm_rounds.proofs.CertifyLists.{first_behind, first_here, first_past}
use Rattle.nm_rounds.proofs.CertifySteps.{found}

-- book b of this topology knows k of channel d
module _ (t : TopologyValue) (b : BookValue) (d : ℕ) (k : Know (List ℕ)) (law : (s : TopologyValue) (digest : List ℕ) → net_of (record s { digest = digest }) ≡ net_of s) (same : SaysSame b.topology t)
    (numbered : (c : ℕ) → c < length t.receivers → channel_from 0 t.receivers (receiving_iface t c) ≡ Some c)
    (none : (p c : ℕ) → length t.receivers ≤ c → comes_in (net_of t) p (receiving_iface t c) ≡ false) (incoming : is_incoming b d ≡ true) (is : k ≡ slice_index_or b.knows d nothing_known) where
  abbrev i : ℕ
  i = receiving_iface t d

  comes : comes_in (net_of t) b.partition i ≡ true
  comes = comes_here t b d law same incoming

  knows : knowledge b i ≡ k
  knows = knows_of t b d k same numbered none comes is

  -- of these books those from number n on have the first fault of all
  module _ {A : Type 0} (value : A → BookValue) (l : List A) (n : ℕ) (rest : first_of (sender_fault t i (book_of b)) (books_of (map value (drop n l))) ≡ first_of (sender_fault t i (book_of b)) (books_of (map value l))) where
    module _ (x : A) (low : n < length l) (at : x ≡ get_or l n x) where
      -- what is found beside book n
      abbrev Finds : Result Unit CertFault → Type 0
      Finds result = (r : Book (List ℕ)) → comes_in (net_of t) r.part i ≡ true → r.replica.knowledge i ≡ k → FindsFault t (sender_fault t i r (book_of (value x))) result

      pub this_sender : (e : CertFault) → Finds (Err e) → FindsFault t (incoming_fault t (map value l) (book_of b) i) (Err e)
      this_sender e finds =
          let f = found t (sender_fault t i (book_of b) (book_of (value x))) e (finds (book_of b) comes knows) in
          f.2 (incoming_fault t (map value l) (book_of b) i)
          (ap (λ z. cond z (first_of (sender_fault t i (book_of b)) (books_of (map value l))) None) comes
          ∙ first_here value l n x low at (sender_fault t i (book_of b)) f.0 f.1 rest)

      pub not_this_sender : Finds (Ok tt) → first_of (sender_fault t i (book_of b)) (books_of (map value (drop (n + 1) l))) ≡ first_of (sender_fault t i (book_of b)) (books_of (map value l))
      not_this_sender finds = first_behind value l n x low at (sender_fault t i (book_of b)) (finds (book_of b) comes knows) rest

    pub no_sender : length l ≤ n → incoming_fault t (map value l) (book_of b) i ≡ None
    no_sender past =
        ap (λ z. cond z (first_of (sender_fault t i (book_of b)) (books_of (map value l))) None) comes ∙ first_past value l n past (sender_fault t i (book_of b)) rest
