-- Each book hears what is told of its channels, one channel after another.
use Rattle.std.proofs.Common.{◌≡◌, ◌≢◌, ◌⊎◌, ℕ, zero, suc, ◌<◌, ◌≤◌, Bool, true, false, cond, List, [], ◌∷◌, length, slice_get, slice_set, slice_index_or, get_or, Option, Some, None, refl, sym, ◌∙◌, ap, ap₂, subst, arith, ⊎_elim}
use Rattle.std.proofs.Math.Path.{fun_ext}
use Rattle.std.proofs.lemmas.Bool.{cases_lt}
use Rattle.std.proofs.lemmas.List.{length-set}
use Rattle.std.proofs.lemmas.Option.{slice_get_read}
use Rattle.nm_topology.specs.Topology.{channel_from, receiving_iface}
use Rattle.nm_topology.specs.TopologyValue.{TopologyValue}
use Rattle.nm_knowledge.specs.Octets.{same_octets}
use Rattle.nm_model.specs.Knowledge.{Know, nothing_known}
use Rattle.nm_model.specs.Partition.{comes_in, receiver_of}
use Rattle.nm_model.specs.Promise.{Tight}
use Rattle.nm_model.specs.Rounds.{given, hear, promised}
use Rattle.nm_model.specs.World.{Replica}
use Rattle.nm_model.proofs.ListLemmas.{number_is}
use Rattle.nm_sim.specs.Network.{net_of}
use Rattle.nm_book.specs.Book.{BookValue, is_incoming, knowledge_of, known_at}
use Rattle.nm_book.specs.declared.message.ChannelMessage.{ChannelMessage}
use Rattle.nm_book.proofs.Incoming.{comes_in_at}
use Rattle.nm_book.proofs.Tellings.{comes_at, known_here, set_elsewhere, set_here}
use Rattle.nm_rounds.specs.World.{IsReplicaOf}
use Rattle.nm_rounds.specs.Rounds.{AreBooks, AreNewsOf, AreOfChannel, after_hearing, told_all}
use Rattle.nm_rounds.proofs.Standing.{set_read}

module _ (t : TopologyValue) (x : ℕ → Replica (List ℕ)) where
  abbrev iface : ℕ → ℕ
  iface c = receiving_iface t c

  -- what a partition hears of a channel
  abbrev hears : ℕ → ℕ → Know (List ℕ)
  hears p c = hear same_octets ((x p).knowledge (iface c)) (given (net_of t) x (iface c)) (promised (net_of t) x Tight (iface c))

  abbrev known : BookValue → ℕ → Know (List ℕ)
  known b c = slice_index_or b.knows c nothing_known

  -- the book of partition p, which heard of the channels below number k
  pub record HasHeard (k p : ℕ) (b : BookValue) : Type 0 where
    pub topology : b.topology ≡ t
    pub partition : b.partition ≡ p
    pub number : b.replica ≡ 0
    pub events : b.events ≡ (x p).ran
    pub handed : b.handed ≡ 0
    pub count : length b.knows ≡ length t.receivers
    pub heard : (c : ℕ) → c < k → comes_in (net_of t) p (iface c) ≡ true → known b c ≡ hears p c
    pub unheard : (c : ℕ) → k ≤ c → c < length t.receivers → known b c ≡ (x p).knowledge (iface c)
    pub quiet : (c : ℕ) → comes_in (net_of t) p (iface c) ≡ false → known b c ≡ nothing_known

  pub record HaveHeard (k : ℕ) (books : List BookValue) : Type 0 where
    pub count : length books ≡ t.partitions
    pub each : (p : ℕ) (b : BookValue) → slice_get books p ≡ Some b → HasHeard k p b

  module _ (here : (c : ℕ) → c < length t.receivers → channel_from 0 t.receivers (receiving_iface t c) ≡ Some c) where
    pub heard_none : (books : List BookValue) → AreBooks t t.partitions x books → HaveHeard 0 books
    heard_none books are = record {
      count = are.count;
      each = λ p b e. let is : IsReplicaOf t p 0 b (x p) = are.each p b e in record {
        topology = is.topology;
        partition = is.partition;
        number = is.number;
        events = ap (λ z. z.ran) is.replica;
        handed = is.handed;
        count = is.count;
        heard = λ c low comes. absurd (omega (arith, low));
        unheard = λ c low h. sym (known_here t b.knows c (here c h)) ∙ ap (λ z. knowledge_of z b.knows (iface c)) (sym is.topology) ∙ ap (λ z. z.knowledge (iface c)) is.replica;
        quiet = λ c out. is.quiet c (subst (λ z. comes_in (net_of z) b.partition (receiving_iface z c) ≡ false) (sym is.topology) (subst (λ z. comes_in (net_of t) z (iface c) ≡ false) (sym is.partition) out));
      };
    }

    -- A channel more.
    module _ (k : ℕ) (low : k < length t.receivers) (comes : comes_in (net_of t) (receiver_of (net_of t) (iface k)) (iface k) ≡ true) where
      abbrev q : ℕ
      q = receiver_of (net_of t) (iface k)

      -- whom it does not concern
      other : (p : ℕ) (b : BookValue) → p ≢ q → HasHeard k p b → HasHeard (suc k) p b
      other p b far is = record {
        topology = is.topology;
        partition = is.partition;
        number = is.number;
        events = is.events;
        handed = is.handed;
        count = is.count;
        heard = λ c lt into. ⊎_elim (λ below. is.heard c below into) (λ ge. absurd (
            let same : c ≡ k = omega (arith, lt, ge) in
            let into_k : comes_in (net_of t) p (iface k) ≡ true = subst (λ z. comes_in (net_of t) p (iface z) ≡ true) same into in
            far (sym (number_is q p (comes_in_at (net_of t) p (iface k) comes ∙ into_k))))) (cases_lt c k);
        unheard = λ c le h. is.unheard c (omega (arith, le)) h;
        quiet = is.quiet;
      }

      -- its receiver
      one : (b d : BookValue) (messages : List ChannelMessage) → HasHeard k q b → AreNewsOf t x k messages → d ≡ record b { knows = slice_set b.knows k (told_all (known b k) messages) } → HasHeard (suc k) q d
      one b d messages is news e = subst (HasHeard (suc k) q) (sym e) (record {
        topology = is.topology;
        partition = is.partition;
        number = is.number;
        events = is.events;
        handed = is.handed;
        count = length-set b.knows k _ ∙ is.count;
        heard = λ c lt into. ⊎_elim
            (λ below. set_elsewhere b.knows k c _ (λ same. absurd (omega (arith, same, below))) ∙ is.heard c below into)
            (λ ge.
            let same : c ≡ k = omega (arith, lt, ge) in
            let within : k < length b.knows = let m = is.count in omega (arith, m, low) in
            ap (slice_index_or_of (slice_set b.knows k (told_all (known b k) messages))) same ∙ set_here b.knows k _ within
            ∙ ap (λ z. told_all z messages) (is.unheard k (omega arith) low) ∙ news.told ∙ ap (hears q) (sym same)) (cases_lt c k);
        unheard = λ c le h. set_elsewhere b.knows k c _ (λ same. absurd (omega (arith, same, le))) ∙ is.unheard c (omega (arith, le)) h;
        quiet = λ c out. set_elsewhere b.knows k c _ (λ same.
            absurd (let f : true ≡ false = sym comes ∙ ap (λ z. comes_in (net_of t) q (iface z)) same ∙ out in cc)) ∙ is.quiet c out;
      })
        where
          slice_index_or_of : List (Know (List ℕ)) → ℕ → Know (List ℕ)
          slice_index_or_of l c = slice_index_or l c nothing_known

      heard_next : (books : List BookValue) → HaveHeard k books → (b d : BookValue) → b ≡ get_or books q b → slice_get books q ≡ Some b → (messages : List ChannelMessage) → AreNewsOf t x k messages
          → d ≡ record b { knows = slice_set b.knows k (told_all (known b k) messages) } → HaveHeard (suc k) (slice_set books q d)
      heard_next books have b d read at messages news e = record {
        count = length-set books q d ∙ have.count;
        each = λ p c f. ⊎_elim
            (λ same. subst (λ z. HasHeard (suc k) z c) (sym same.0) (subst (HasHeard (suc k) q) same.1 (one b d messages (have.each q b at) news e)))
            (λ far. other p c far.0 (have.each p c far.1)) (set_read books q d p c f);
      }

      -- its book is told the news
      pub heard_step : (books : List BookValue) → HaveHeard k books → q < t.partitions → (place : ℕ) → place ≡ q → (b d : BookValue) → b ≡ get_or books place b → (messages : List ChannelMessage) → AreNewsOf t x k messages
          → ((c : ℕ) → is_incoming b c ≡ true → c < length b.knows → AreOfChannel c messages → d ≡ record b { knows = slice_set b.knows c (told_all (slice_index_or b.knows c nothing_known) messages) })
          → HaveHeard (suc k) (slice_set books place d)
      heard_step books have there place at b d read messages news tells =
          let read_here : b ≡ get_or books q b = read ∙ ap (λ z. get_or books z b) at in
          let within : q < length books = let m = have.count in omega (arith, m, there) in
          let here_is : slice_get books q ≡ Some b = slice_get_read books (length books) q b refl within read_here in
          let is : HasHeard k q b = have.each q b here_is in
          let incoming : is_incoming b k ≡ true =
          subst (λ z. comes_in (net_of z) b.partition (receiving_iface z k) ≡ true) (sym is.topology) (subst (λ z. comes_in (net_of t) z (iface k) ≡ true) (sym is.partition) comes) in
          subst (λ z. HaveHeard (suc k) (slice_set books z d)) (sym at)
          (heard_next books have b d read_here here_is messages news (tells k incoming (let m = is.count in omega (arith, m, low)) news.named))

  -- All channels.
  module _ (numbered : (p i : ℕ) → comes_in (net_of t) p i ≡ true → (c : ℕ) × (c < length t.receivers) × (receiving_iface t c ≡ i)) where
    pub heard_all : (old books : List BookValue) → AreBooks t t.partitions x old → (k : ℕ) → length t.receivers ≤ k → HaveHeard k books
        → ((c : ℕ) → c < length t.receivers → channel_from 0 t.receivers (receiving_iface t c) ≡ Some c) → AreBooks t t.partitions (after_hearing t x) books
    heard_all old books are k past have here = record { count = have.count; each = λ p b e. at p b e (have.each p b e) }
      where
        at : (p : ℕ) (b : BookValue) → slice_get books p ≡ Some b → HasHeard k p b → IsReplicaOf t p 0 b (after_hearing t x p)
        at p b e is = record {
          topology = is.topology;
          partition = is.partition;
          number = is.number;
          replica = ap₂ (λ K m. record { knowledge = K; ran = m }) (ap (λ z. knowledge_of z b.knows) is.topology ∙ fun_ext each) is.events;
          handed = is.handed;
          count = is.count;
          quiet = λ c out. is.quiet c (subst (λ z. comes_in (net_of t) z (iface c) ≡ false) is.partition (subst (λ z. comes_in (net_of z) b.partition (receiving_iface z c) ≡ false) is.topology out));
        }
          where
            -- what it knew of what does not come in
            nothing_before : (i : ℕ) → comes_in (net_of t) p i ≡ false → (x p).knowledge i ≡ nothing_known
            nothing_before i out = knew (before old are.count p (is_there books p b e))
              where
                is_there : (l : List BookValue) (n : ℕ) (y : BookValue) → slice_get l n ≡ Some y → n < length l
                is_there [] n y f = absurd (let g : None ≡ Some y = f in cc)
                is_there (z ∷ l) zero y f = omega arith
                is_there (z ∷ l) (suc n) y f = let h = is_there l n y f in omega (arith, h)

                read : (l : List BookValue) (n : ℕ) → n < length l → (y : BookValue) × (slice_get l n ≡ Some y)
                read [] n h = absurd (omega (arith, h))
                read (z ∷ l) zero h = (z, refl)
                read (z ∷ l) (suc n) h = read l n (omega (arith, h))

                before : (l : List BookValue) → length l ≡ t.partitions → (n : ℕ) → n < length books → (y : BookValue) × (slice_get l n ≡ Some y)
                before l m n h = read l n (let w = have.count in omega (arith, m, h, w))

                knew : (y : BookValue) × (slice_get old p ≡ Some y) → (x p).knowledge i ≡ nothing_known
                knew y =
                    let was : IsReplicaOf t p 0 y.0 (x p) = are.each p y.0 y.1 in
                    ap (λ z. z.knowledge i) (sym was.replica) ∙ ap (λ z. knowledge_of z y.0.knows i) was.topology ∙ go was (channel_from 0 t.receivers i) refl
                  where
                    go : IsReplicaOf t p 0 y.0 (x p) → (o : Option ℕ) → channel_from 0 t.receivers i ≡ o → known_at y.0.knows o ≡ nothing_known
                    go was None f = refl
                    go was (Some c) f = was.quiet c (subst (λ z. comes_in (net_of z) y.0.partition (receiving_iface z c) ≡ false) (sym was.topology)
                        (subst (λ z. comes_in (net_of t) z (iface c) ≡ false) (sym was.partition) (subst (λ z. comes_in (net_of t) p z ≡ false) (sym (comes_at t i c f)) out)))

            by : (i : ℕ) (v : Bool) → comes_in (net_of t) p i ≡ v
                → knowledge_of t b.knows i ≡ cond v (hear same_octets ((x p).knowledge i) (given (net_of t) x i) (promised (net_of t) x Tight i)) ((x p).knowledge i)
            by i true into =
                let found = numbered p i into in
                let c : ℕ = found.0 in
                let lt : c < k = let m = found.1 in omega (arith, m, past) in
                let into_c : comes_in (net_of t) p (iface c) ≡ true = subst (λ z. comes_in (net_of t) p z ≡ true) (sym found.2) into in
                subst (λ z. knowledge_of t b.knows z ≡ hear same_octets ((x p).knowledge z) (given (net_of t) x z) (promised (net_of t) x Tight z)) found.2
                (known_here t b.knows c (here c found.1) ∙ is.heard c lt into_c)
            by i false out = go (channel_from 0 t.receivers i) refl ∙ sym (nothing_before i out)
              where
                go : (o : Option ℕ) → channel_from 0 t.receivers i ≡ o → known_at b.knows o ≡ nothing_known
                go None f = refl
                go (Some c) f = is.quiet c (subst (λ z. comes_in (net_of t) p z ≡ false) (sym (comes_at t i c f)) out)

            each : (i : ℕ) → knowledge_of t b.knows i ≡ (after_hearing t x p).knowledge i
            each i = by i (comes_in (net_of t) p i) refl
