-- What is put on the channels that go out of a part.
use Rattle.std.proofs.Common.{◌≡◌, ◌≢◌, ◌↔◌, ℕ, ◌<◌, ◌≤◌, ◌==◌, ◌&&◌, not, Bool, true, false, true≢false, cond, ltb, List, [], ◌∷◌, ◌++◌, length, Option, Some, None, slice_get, refl, sym, ap, ◌∙◌, arith, ⊎_elim}
use Rattle.std.proofs.lemmas.Bool.Decides.{nat_tests}
use Rattle.std.proofs.lemmas.Option.{slice_get_cases, slice_get_past, slice_get_within}
use Rattle.nm_topology.specs.Topology.{channel_from, receiving_iface}
use Rattle.nm_topology.specs.TopologyValue.{TopologyValue}
use Rattle.nm_model.specs.Lists.{set_at}
use Rattle.nm_model.specs.Network.{IsNet}
use Rattle.nm_model.specs.Partition.{comes_in, receiver_of}
use Rattle.nm_model.specs.Run.{State}
use Rattle.nm_model.proofs.ListLemmas.{same_number, set_here, set_there, some_inj}
use Rattle.nm_forward.specs.State.{NodeStateValue}
use Rattle.nm_sim.specs.Network.{is_iface_here, net_of}
use Rattle.nm_sim.specs.Outgoing.{ChannelValue, OutgoingRepresents, OutgoingValue, channel_count, messages_in}
use Rattle.nm_sim.specs.Part.{messages_out}

module _ (t : TopologyValue) (part : Option ℕ) where
  pub messages_at : (o : OutgoingValue) (sent : ℕ → List (ℕ × List ℕ)) → OutgoingRepresents t part o sent → (c : ℕ) → c < length o.channels
      → messages_in (slice_get o.channels c) ≡ sent (receiving_iface t c)
  messages_at o sent h c l = ⊎_elim
      (λ g. ap messages_in g.2 ∙ h.messages c g.0 g.2)
      (λ g. absurd (omega (arith, g.0, l)))
      ((slice_get_cases o.channels c).1)

  represents_by : (o : OutgoingValue) (sent : ℕ → List (ℕ × List ℕ)) → length o.channels ≡ channel_count t part
      → ((c : ℕ) → c < length o.channels → messages_in (slice_get o.channels c) ≡ sent (receiving_iface t c)) → OutgoingRepresents t part o sent
  represents_by o sent n h = record { count = n; messages = λ c v e. ap messages_in (sym e) ∙ h c (slice_get_within o.channels c v e) }

  -- memory that was made changes nothing
  pub outgoing_same : (a b : OutgoingValue) (sent : ℕ → List (ℕ × List ℕ)) → length b.channels ≡ length a.channels
      → ((c : ℕ) → messages_in (slice_get b.channels c) ≡ messages_in (slice_get a.channels c)) → OutgoingRepresents t part a sent → OutgoingRepresents t part b sent
  outgoing_same a b sent n same h = represents_by b sent (n ∙ h.count) (λ c l. same c ∙ messages_at a sent h c (omega (arith, l, n)))

  -- at the start nothing is put
  pub outgoing_first : (o : OutgoingValue) → length o.channels ≡ channel_count t part → ((c : ℕ) (v : ChannelValue) → slice_get o.channels c ≡ Some v → v.messages ≡ [])
      → OutgoingRepresents t part o (λ c. [])
  outgoing_first o n h = record { count = n; messages = h }

  -- one more message on channel k
  pub outgoing_put : (a b : OutgoingValue) (sent : ℕ → List (ℕ × List ℕ)) (i k : ℕ) (m : ℕ × List ℕ) → receiving_iface t k ≡ i
      → ((c : ℕ) → receiving_iface t c ≡ i → c ≡ k) → k < length a.channels → length b.channels ≡ length a.channels
      → messages_in (slice_get b.channels k) ≡ messages_in (slice_get a.channels k) ++ m ∷ []
      → ((c : ℕ) → c ≢ k → slice_get b.channels c ≡ slice_get a.channels c) → OutgoingRepresents t part a sent → OutgoingRepresents t part b (set_at sent i (sent i ++ m ∷ []))
  outgoing_put a b sent i k m at one there n new others h = represents_by b (set_at sent i put) (n ∙ h.count) (λ c l. ⊎_elim
      (λ e. ap (λ j. messages_in (slice_get b.channels j)) e ∙ new ∙ ap (λ z. z ++ m ∷ []) (messages_at a sent h k there) ∙ ap (λ j. sent j ++ m ∷ []) at
      ∙ sym (set_here sent i put) ∙ ap (set_at sent i put) (sym at ∙ ap (receiving_iface t) (sym e)))
      (λ e. ap messages_in (others c e) ∙ messages_at a sent h c (omega (arith, l, n)) ∙ sym (set_there sent i put (receiving_iface t c) (λ q. e (one c q))))
      (same_number c k))
    where
      put : List (ℕ × List ℕ)
      put = sent i ++ m ∷ []

  -- what is put on an interface that no channel receives
  pub outgoing_kept : (o : OutgoingValue) (sent : ℕ → List (ℕ × List ℕ)) (i : ℕ) (put : List (ℕ × List ℕ))
      → ((c : ℕ) → c < length o.channels → receiving_iface t c ≢ i) → OutgoingRepresents t part o sent → OutgoingRepresents t part o (set_at sent i put)
  outgoing_kept o sent i put none h = represents_by o (set_at sent i put) h.count (λ c l. messages_at o sent h c l ∙ sym (set_there sent i put (receiving_iface t c) (none c l)))

-- what a part has put on a channel
pub out_is : (t : TopologyValue) (part : Option ℕ) (o : OutgoingValue) (s : State (List ℕ) NodeStateValue) → OutgoingRepresents t part o s.sent → (c : ℕ)
    → messages_in (slice_get o.channels c) ≡ messages_out t part s c
out_is t None o s h c = let n = h.count in ap messages_in (slice_get_past o.channels c (omega (arith, n)))
out_is t (Some p) o s h c = go (ltb c (length t.receivers)) refl
  where
    go : (b : Bool) → ltb c (length t.receivers) ≡ b → messages_in (slice_get o.channels c) ≡ cond b (s.sent (receiving_iface t c)) []
    go true e = messages_at t (Some p) o s.sent h c (let n = h.count in let l : c < length t.receivers = grind (arith, nat_tests, e) in omega (arith, n, l))
    go false e = ap messages_in (slice_get_past o.channels c (let n = h.count in let l : length t.receivers ≤ c = grind (arith, nat_tests, e) in omega (arith, n, l)))

-- what comes into a partition doesn't come from it
apart_tests : (a b p : ℕ) → (a == p) ≡ true → (b == p) ≡ true → ((b == b) && not (a == b)) ≡ true → ⊥
apart_tests a b p ha hb h = grind (arith, nat_tests, ha, hb, h)

crossing_tests : (a b p : ℕ) → (a == p) ≡ true → (b == p) ≡ false → ((b == b) && not (a == b)) ≡ true
crossing_tests a b p ha hb = grind (arith, nat_tests, ha, hb)

module _ (t : TopologyValue) (isnet : IsNet (net_of t)) (i : ℕ) where
  abbrev far : ℕ
  far = (net_of t).far_end i

  -- the far end of a link that leaves the part is a channel's
  pub crosses : (part : Option ℕ) → ((p j : ℕ) → comes_in (net_of t) p j ≡ true → (c : ℕ) × (c < length t.receivers) × (receiving_iface t c ≡ j) × (1 ≤ (net_of t).delay j))
      → is_iface_here t part i ≡ true → is_iface_here t part far ≡ false
      → (c : ℕ) × (c < channel_count t part) × (receiving_iface t c ≡ far)
  crosses None numbered h away = absurd (true≢false away)
  crosses (Some p) numbered h away =
      let back : (net_of t).far_end far ≡ i = isnet.twice i in
      let comes : comes_in (net_of t) (receiver_of (net_of t) far) far ≡ true
      = ap (λ j. ((net_of t).part ((net_of t).owner far) == (net_of t).part ((net_of t).owner far)) && not ((net_of t).part ((net_of t).owner j) == (net_of t).part ((net_of t).owner far))) back
      ∙ crossing_tests ((net_of t).part ((net_of t).owner i)) ((net_of t).part ((net_of t).owner far)) p h away in
      let z = numbered (receiver_of (net_of t) far) far comes in
      (z.0, z.1, z.2)

  -- and that of a link within it is none's
  pub stays : (part : Option ℕ) → ((c : ℕ) → c < length t.receivers → comes_in (net_of t) (receiver_of (net_of t) (receiving_iface t c)) (receiving_iface t c) ≡ true)
      → is_iface_here t part i ≡ true → is_iface_here t part far ≡ true → (c : ℕ) → c < channel_count t part → receiving_iface t c ≢ far
  stays None comes h inner c l e = absurd (omega (arith, l))
  stays (Some p) comes h inner c l e =
      let back : (net_of t).far_end far ≡ i = isnet.twice i in
      let at : comes_in (net_of t) (receiver_of (net_of t) far) far ≡ true = ap (λ j. comes_in (net_of t) (receiver_of (net_of t) j) j) (sym e) ∙ comes c l in
      let tests : (((net_of t).part ((net_of t).owner far) == (net_of t).part ((net_of t).owner far)) && not ((net_of t).part ((net_of t).owner i) == (net_of t).part ((net_of t).owner far))) ≡ true
      = ap (λ j. ((net_of t).part ((net_of t).owner far) == (net_of t).part ((net_of t).owner far)) && not ((net_of t).part ((net_of t).owner j) == (net_of t).part ((net_of t).owner far))) (sym back) ∙ at in
      apart_tests ((net_of t).part ((net_of t).owner i)) ((net_of t).part ((net_of t).owner far)) p h inner tests

  -- and it is numbered so by the topology
  pub numbered_far : (part : Option ℕ) → ((p j : ℕ) → comes_in (net_of t) p j ≡ true → (c : ℕ) × (c < length t.receivers) × (receiving_iface t c ≡ j) × (1 ≤ (net_of t).delay j))
      → ((j c : ℕ) → j < length t.ifaces → (channel_from 0 t.receivers j ≡ Some c) ↔ (receiving_iface t c ≡ j))
      → is_iface_here t part i ≡ true → is_iface_here t part far ≡ false → (q : ℕ) → far ≡ q → q < length t.ifaces → (o : Option ℕ) → o ≡ channel_from 0 t.receivers q
      → (c : ℕ) × (o ≡ Some c) × (c < channel_count t part) × (receiving_iface t c ≡ far) × ((k : ℕ) → receiving_iface t k ≡ far → k ≡ c)
  numbered_far part numbered inverse h away q at within o e =
      let z = crosses part numbered h away in
      let from : channel_from 0 t.receivers q ≡ Some z.0 = (inverse q z.0 within).1 (z.2 ∙ at) in
      (z.0, e ∙ from, z.1, z.2, λ k f. some_inj k z.0 (sym ((inverse q k within).1 (f ∙ at)) ∙ from))
