-- The books of all partitions, of which one after another changes.
use Rattle.std.proofs.Common.{◌≡◌, ◌≢◌, ◌⊎◌, ℕ, zero, suc, ◌+◌, ◌<◌, ◌≤◌, ◌==◌, ltb, Bool, true, false, cond, List, [], ◌∷◌, ◌++◌, length, map, slice_get, slice_set, slice_index_or, get_or, Some, None, replicate, refl, sym, ◌∙◌, ap, ap₂, subst, arith, ⊎_elim}
use Rattle.std.proofs.lemmas.Bool.{cases_lt}
use Rattle.std.proofs.lemmas.Bool.Decides.{nat_tests}
use Rattle.std.proofs.lemmas.List.{length-set, length-append, map-append}
use Rattle.std.proofs.lemmas.Option.{slice_get_read}
use Rattle.nm_topology.specs.Topology.{channel_from, receiving_iface}
use Rattle.nm_topology.specs.TopologyValue.{TopologyValue}
use Rattle.nm_knowledge.specs.Octets.{same_octets}
use Rattle.nm_model.specs.Before.{IsCount}
use Rattle.nm_model.specs.Knowledge.{Know, nothing_known}
use Rattle.nm_model.specs.Network.{IsNet, IsParted}
use Rattle.nm_model.specs.Partition.{comes_in, goes_out, receiver_of, sender_of}
use Rattle.nm_model.specs.Promise.{Tight, promise}
use Rattle.nm_model.specs.Replica.{from_scratch}
use Rattle.nm_model.specs.Rounds.{given, hear, promised}
use Rattle.nm_model.specs.World.{Replica, fresh}
use Rattle.nm_sim.specs.Network.{net_of}
use Rattle.nm_book.specs.Book.{BookValue, is_incoming, is_outgoing, knowledge_of, promise_on, sent_over}
use Rattle.nm_book.specs.declared.message.ChannelMessage.{ChannelMessage}
use Rattle.nm_book.proofs.Incoming.{goes_out_at, ifaces_are, far_end_there}
use Rattle.nm_book.proofs.Tellings.{known_here}
use Rattle.nm_rounds.specs.World.{IsReplicaOf}
use Rattle.nm_rounds.specs.Rounds.{AreAllNews, AreBooks, AreNews, AreNewsOf, RunsAll, told_all}
use Rattle.nm_rounds.proofs.Standing.{last_is, parts_are, set_read}
use Rattle.nm_rounds.proofs.Acts.{moved}
use Rattle.nm_rounds.proofs.Mergings.{fresh_book}

-- of the first k partitions the one, of the others the other
abbrev pub up_to : ℕ → (ℕ → Replica (List ℕ)) → (ℕ → Replica (List ℕ)) → ℕ → Replica (List ℕ)
up_to k y x p = cond (ltb p k) (y p) (x p)

up_to_below : (k : ℕ) (y x : ℕ → Replica (List ℕ)) (p : ℕ) → p < k → up_to k y x p ≡ y p
up_to_below k y x p h = let e : ltb p k ≡ true = grind (arith, nat_tests, h) in ap (λ z. cond z (y p) (x p)) e

up_to_past : (k : ℕ) (y x : ℕ → Replica (List ℕ)) (p : ℕ) → k ≤ p → up_to k y x p ≡ x p
up_to_past k y x p h = let e : ltb p k ≡ false = grind (arith, nat_tests, h) in ap (λ z. cond z (y p) (x p)) e

pub is_there : {X : Type 0} (l : List X) (i : ℕ) (x : X) → slice_get l i ≡ Some x → i < length l
is_there [] i x e = absurd (let g : None ≡ Some x = e in cc)
is_there (y ∷ l) zero x e = omega arith
is_there (y ∷ l) (suc i) x e = let h = is_there l i x e in omega (arith, h)

module _ (t : TopologyValue) (n : ℕ) (x : ℕ → Replica (List ℕ)) (books : List BookValue) (are : AreBooks t n x books) where
  -- the book of a partition, as it is read
  pub book_read : (p : ℕ) (b : BookValue) → p < n → b ≡ get_or books p b → IsReplicaOf t p 0 b (x p)
  book_read p b h e = are.each p b (slice_get_read books (length books) p b refl (let c = are.count in omega (arith, c, h)) e)

  -- the same books, as other replicas that are the same
  pub as_others : (y : ℕ → Replica (List ℕ)) → ((p : ℕ) → p < n → x p ≡ y p) → AreBooks t n y books
  as_others y h = record {
    count = are.count;
    each = λ p b e. subst (IsReplicaOf t p 0 b) (h p (let c = are.count in let l = is_there books p b e in omega (arith, c, l))) (are.each p b e);
  }

  -- one changes
  pub with_book : (p : ℕ) (c : BookValue) (y : ℕ → Replica (List ℕ)) → IsReplicaOf t p 0 c (y p) → ((q : ℕ) → q ≢ p → x q ≡ y q) → AreBooks t n y (slice_set books p c)
  with_book p c y is others = record {
    count = length-set books p c ∙ are.count;
    each = λ q b e. ⊎_elim
        (λ same. subst (λ z. IsReplicaOf t z 0 b (y z)) (sym same.0) (subst (λ z. IsReplicaOf t p 0 z (y p)) same.1 is))
        (λ far. subst (IsReplicaOf t q 0 b) (others q far.0) (are.each q b far.1)) (set_read books p c q b e);
  }

-- All run.
module _ (t : TopologyValue) (n : ℕ) (x y : ℕ → Replica (List ℕ)) where
  pub run_none : (books : List BookValue) → AreBooks t n x books → AreBooks t n (up_to 0 y x) books
  run_none books are = as_others t n x books are (up_to 0 y x) (λ p h. sym (up_to_past 0 y x p (omega arith)))

  pub run_next : (books : List BookValue) (k : ℕ) → AreBooks t n (up_to k y x) books → k < n → (b c : BookValue) → b ≡ get_or books k b → RunsAll b c
      → ((j i : ℕ) → IsCount (net_of t) k (x k).knowledge j → IsCount (net_of t) k (x k).knowledge i → j ≡ i)
      → IsCount (net_of t) k (x k).knowledge (y k).ran → (y k).knowledge ≡ (x k).knowledge → AreBooks t n (up_to (suc k) y x) (slice_set books k c)
  run_next books k are h b c read ran once counts same =
      let is : IsReplicaOf t k 0 b (x k) = subst (IsReplicaOf t k 0 b) (up_to_past k y x k (omega arith)) (book_read t n (up_to k y x) books are k b h read) in
      let all : IsCount (net_of t) k (x k).knowledge c.events = moved (λ t p z. IsCount (net_of t) p z.knowledge c.events) t k 0 b (x k) is ran.count in
      let events : c.events ≡ (y k).ran = once c.events (y k).ran all counts in
      let now : IsReplicaOf t k 0 (record b { events = c.events }) (y k) = record {
        topology = is.topology;
        partition = is.partition;
        number = is.number;
        replica = ap₂ (λ K m. record { knowledge = K; ran = m }) (ap (λ z. z.knowledge) is.replica ∙ sym same) events;
        handed = is.handed;
        count = is.count;
        quiet = is.quiet;
      } in
      with_book t n (up_to k y x) books are k c (up_to (suc k) y x)
      (subst (IsReplicaOf t k 0 c) (sym (up_to_below (suc k) y x k (omega arith))) (subst (λ z. IsReplicaOf t k 0 z (y k)) (sym ran.same) now))
      (λ q far. ⊎_elim (λ low. up_to_below k y x q low ∙ sym (up_to_below (suc k) y x q (omega (arith, low))))
      (λ high. up_to_past k y x q high ∙ sym (up_to_past (suc k) y x q (⊎_elim (λ lt. absurd (far (omega (arith, lt, high)))) (λ ge. ge) (cases_lt q (suc k))))) (cases_lt q k))

  pub run_every : (books : List BookValue) (k : ℕ) → AreBooks t n (up_to k y x) books → n ≤ k → AreBooks t n y books
  run_every books k are h = as_others t n (up_to k y x) books are y (λ p lt. up_to_below k y x p (omega (arith, h, lt)))

-- one more, which knows nothing
pub one_more : (t : TopologyValue) (n : ℕ) (books : List BookValue) (b : BookValue) → AreBooks t n (λ p. fresh) books
    → b ≡ record { topology = t; partition = n; replica = 0; knows = replicate (length t.receivers) nothing_known; events = 0; handed = 0 } → AreBooks t (n + 1) (λ p. fresh) (books ++ b ∷ [])
one_more t n books b are e = record {
  count = length-append books (b ∷ []) ∙ ap (λ z. z + 1) are.count;
  each = λ p c f. ⊎_elim (λ old. are.each p c old)
      (λ new. let at : p ≡ n = new.0 ∙ are.count in
      subst (λ z. IsReplicaOf t z 0 c fresh) (sym at) (subst (λ z. IsReplicaOf t n 0 z fresh) new.1 (fresh_book t n 0 b e)))
      (last_is books b p c f);
}

-- The partitions at both ends of a channel are there.
module _ (t : TopologyValue) (ok : IsNet (net_of t)) (parted : IsParted (net_of t)) (i : ℕ) (low : i < length t.ifaces) where
  within : i < (net_of t).ifaces
  within = let e = ifaces_are t in omega (arith, e, low)

  pub receiver_there : receiver_of (net_of t) i < t.partitions
  receiver_there = let h = parted.ifaces i within in let e = parts_are t in omega (arith, h, e)

  pub sender_there : sender_of (net_of t) i < t.partitions
  sender_there = let h = parted.ifaces ((net_of t).far_end i) (far_end_there (net_of t) ok i within) in let e = parts_are t in omega (arith, h, e)

-- a book at the end of a channel at which it goes in or out
pub comes_into : (t : TopologyValue) (x : Replica (List ℕ)) (p c : ℕ) (b : BookValue) → IsReplicaOf t p 0 b x → (v : Bool) → comes_in (net_of t) p (receiving_iface t c) ≡ v → is_incoming b c ≡ v
comes_into t x p c b is v comes = subst (λ z. comes_in (net_of z) b.partition (receiving_iface z c) ≡ v) (sym is.topology) (subst (λ z. comes_in (net_of t) z (receiving_iface t c) ≡ v) (sym is.partition) comes)

pub goes_out_of : (t : TopologyValue) (x : Replica (List ℕ)) (c : ℕ) (b : BookValue) → IsReplicaOf t (sender_of (net_of t) (receiving_iface t c)) 0 b x
    → comes_in (net_of t) (receiver_of (net_of t) (receiving_iface t c)) (receiving_iface t c) ≡ true → is_outgoing b c ≡ true
goes_out_of t x c b is comes =
    let q : ℕ = sender_of (net_of t) (receiving_iface t c) in
    let same : (q == q) ≡ true = itself q in
    let goes : goes_out (net_of t) q (receiving_iface t c) ≡ true = sym (goes_out_at (net_of t) q (receiving_iface t c) comes) ∙ same in
    subst (λ z. goes_out (net_of z) b.partition (receiving_iface z c) ≡ true) (sym is.topology) (subst (λ z. goes_out (net_of t) z (receiving_iface t c) ≡ true) (sym is.partition) goes)
  where
    itself : (q : ℕ) → (q == q) ≡ true
    itself q = let e : q ≡ q = refl in grind (arith, nat_tests, e)

-- the news of a channel between two books are the model's
pub news_are : (t : TopologyValue) (x : ℕ → Replica (List ℕ)) (c : ℕ) (r s : BookValue)
    → IsReplicaOf t (receiver_of (net_of t) (receiving_iface t c)) 0 r (x (receiver_of (net_of t) (receiving_iface t c)))
    → IsReplicaOf t (sender_of (net_of t) (receiving_iface t c)) 0 s (x (sender_of (net_of t) (receiving_iface t c)))
    → channel_from 0 t.receivers (receiving_iface t c) ≡ Some c
    → (messages : _) → AreNews (slice_index_or r.knows c nothing_known) s c messages → AreNewsOf t x c messages
news_are t x c r s is_r is_s here messages news =
    let i : ℕ = receiving_iface t c in
    let q : ℕ = sender_of (net_of t) i in
    let a : Know (List ℕ) = slice_index_or r.knows c nothing_known in
    let known : (x (receiver_of (net_of t) i)).knowledge i ≡ a =
    ap (λ z. z.knowledge i) (sym is_r.replica) ∙ ap (λ z. knowledge_of z r.knows i) is_r.topology ∙ known_here t r.knows c here in
    let sent : sent_over s c ≡ given (net_of t) x i =
    moved (λ t p z. sent_over s c ≡ (from_scratch (net_of t) p z.knowledge z.ran).sent (receiving_iface t c)) t q 0 s (x q) is_s refl in
    let promises : promise_on Tight s c ≡ promised (net_of t) x Tight i =
    moved (λ t p z. promise_on Tight s c ≡ promise (net_of t) Tight p z.knowledge z.ran (receiving_iface t c)) t q 0 s (x q) is_s refl in
    record {
      told =
          ap (λ z. told_all z messages) known ∙ news.told ∙ ap₂ (hear same_octets a) sent promises
          ∙ ap (λ z. hear same_octets z (given (net_of t) x i) (promised (net_of t) x Tight i)) (sym known);
      named = news.named;
    }

-- the news of one channel more
module _ (t : TopologyValue) (x : ℕ → Replica (List ℕ)) where
  pub more_news : {X : Type 0} (f : X → List ChannelMessage) (n : ℕ) (l : List X) (m : X) → AreAllNews t x n (map f l) → AreNewsOf t x n (f m) → AreAllNews t x (n + 1) (map f (l ++ m ∷ []))
  more_news f n l m are new = subst (AreAllNews t x (n + 1)) (sym (map-append f l (m ∷ []))) (record {
    count = length-append (map f l) (f m ∷ []) ∙ ap (λ z. z + 1) are.count;
    each = λ c k e. ⊎_elim (λ old. are.each c k old)
        (λ last. let at : c ≡ n = last.0 ∙ are.count in subst (λ z. AreNewsOf t x z k) (sym at) (subst (AreNewsOf t x n) last.1 new))
        (last_is (map f l) (f m) c k e);
  })
