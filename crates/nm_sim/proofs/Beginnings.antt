-- A transmission starts: its events, and the counts of what was put on the interfaces.
use Rattle.std.proofs.Common.{◌≡◌, ◌≢◌, ℕ, ◌+◌, ◌<◌, ◌==◌, Bool, true, false, true≢false, cond, List, [], ◌∷◌, ◌++◌, length, Option, Some, None, slice_get, slice_index, slice_set, refl, sym, ap, ◌∙◌, arith, length-append, length-set, get_or-set_same, get_or-set_other}
use Rattle.std.proofs.lemmas.Bool.Decides.{nat_tests}
use Rattle.std.specs.FinMap.{FinMap, get, insert}
use Rattle.nm_base.specs.declared.event.Event.{Event}
use Rattle.nm_base.specs.declared.event.Event.TheVariants.{Delivery, Completion}
use Rattle.nm_base.specs.declared.event.Origin.TheVariants.{Arrival}
use Rattle.nm_base.specs.declared.key.Key.{Key}
use Rattle.nm_base.specs.declared.key.Place.{Place}
use Rattle.nm_base.specs.declared.key.Place.TheVariants.{Arrive, Complete}
use Rattle.nm_base.specs.Key.{key_of, key_cmp}
use Rattle.nm_topology.specs.PartValues.{IfaceValue}
use Rattle.nm_topology.specs.TopologyValue.{TopologyValue}
use Rattle.nm_model.specs.EventList.{schedule}
use Rattle.nm_model.specs.Lists.{set_at}
use Rattle.nm_model.specs.Run.{transmission_events, sent_after}
use Rattle.nm_model.proofs.ListLemmas.{set_here, set_there}
use Rattle.nm_iface.specs.declared.port.Start.{Start}
use Rattle.nm_sim.specs.Network.{net_of, far_from, here_of}
use Rattle.nm_sim.specs.Effects.{TransmitsAt}
use Rattle.nm_sim.specs.Timelines.{AreFresh, TimelineValue, TimelineRepresents}
use Rattle.nm_sim.proofs.Pendings.{other_place, still_none}

pub far_end_is : (t : TopologyValue) (i : ℕ) (x : IfaceValue) → slice_get t.ifaces i ≡ Some x → (net_of t).far_end i ≡ x.far.iface
unfolding net_of
far_end_is t i x e = ap (λ o. (far_from i o).iface) e

-- a completion's key stays free where an arrival is scheduled
pub still_free : {X : Type 0} (here : Place → Bool) (m after : FinMap key_cmp X) (k : Key) (v : X) (time i n : ℕ) (c : ℕ) → k.place ≡ Arrive c
    → after ≡ schedule here ((k, v) ∷ []) m → get m (key_of time (Complete i) n) ≡ None → get after (key_of time (Complete i) n) ≡ None
still_free here m after k v time i n c place e free = ap (λ l. get l (key_of time (Complete i) n)) e ∙ go (here k.place)
  where
    go : (b : Bool) → get (cond b (insert m k v) m) (key_of time (Complete i) n) ≡ None
    go true = still_none m (insert m k v) k v (key_of time (Complete i) n) (λ q. other_place time k.time i c n k.number (q ∙ λ j. key_of k.time (place j) k.number)) refl free
    go false = free

-- when a transmission is complete, and when its packet arrives
completes_at : (t : TopologyValue) (part : Option ℕ) (time i : ℕ) (st : Start) → TransmitsAt t part time (i, st) → st.completes ≡ time + (net_of t).tx i st.item.packet
unfolding net_of
completes_at t part time i st h = h.1.completes

pub arrives_at : (t : TopologyValue) (part : Option ℕ) (time i : ℕ) (st : Start) → TransmitsAt t part time (i, st) → st.arrives ≡ time + (net_of t).tx i st.item.packet + (net_of t).delay i
unfolding net_of
arrives_at t part time i st h = h.1.arrives

module _ {L : Type 0} (t : TopologyValue) (line : TimelineValue L) (time : ℕ) (sent : ℕ → List (ℕ × List ℕ)) (numbered : TimelineRepresents t line sent) (part : Option ℕ) (i : ℕ) (st : Start)
    (transmits : TransmitsAt t part time (i, st)) (p : ℕ) (far_end : (net_of t).far_end i ≡ p) (there : p < length t.ifaces) where
  number_is : slice_index line.sent p ≡ length (sent ((net_of t).far_end i))
  number_is = numbered.numbers p there ∙ ap (λ c. length (sent c)) (sym far_end)

  arrival_key : key_of st.arrives (Arrive p) (slice_index line.sent p)
      ≡ key_of (time + (net_of t).tx i st.item.packet + (net_of t).delay i) (Arrive ((net_of t).far_end i)) (length (sent ((net_of t).far_end i)))
  arrival_key = λ k. key_of (arrives_at t part time i st transmits k) (Arrive (sym far_end k)) (number_is k)

  completion_key : key_of st.completes (Complete i) (slice_index line.sent p)
      ≡ key_of (time + (net_of t).tx i st.item.packet) (Complete i) (length (sent ((net_of t).far_end i)))
  completion_key = λ k. key_of (completes_at t part time i st transmits k) (Complete i) (number_is k)

  pub arrival_fresh : (pending : FinMap key_cmp (Event (List ℕ))) → AreFresh pending (transmission_events (net_of t) time sent (Some (i, st.item.packet)))
      → get pending (key_of st.arrives (Arrive p) (slice_index line.sent p)) ≡ None
  arrival_fresh pending h = ap (get pending) arrival_key ∙ h 1 _ refl

  pub completion_fresh : (pending : FinMap key_cmp (Event (List ℕ))) → AreFresh pending (transmission_events (net_of t) time sent (Some (i, st.item.packet)))
      → get pending (key_of st.completes (Complete i) (slice_index line.sent p)) ≡ None
  completion_fresh pending h = ap (get pending) completion_key ∙ h 0 _ refl

  pub begun_events : (pending middle after : FinMap key_cmp (Event (List ℕ)))
      → middle ≡ schedule (here_of t part) ((key_of st.arrives (Arrive p) (slice_index line.sent p), Delivery (Arrival p) st.item.packet) ∷ []) pending
      → after ≡ insert middle (key_of st.completes (Complete i) (slice_index line.sent p)) (Completion i)
      → after ≡ schedule (here_of t part) (transmission_events (net_of t) time sent (Some (i, st.item.packet))) pending
  begun_events pending middle after m e =
      e ∙ (λ k. insert (m k) (completion_key k) (Completion i))
      ∙ (λ k. insert (schedule (here_of t part) ((arrival_key k, Delivery (Arrival (sym far_end k)) st.item.packet) ∷ []) pending)
      (key_of (time + (net_of t).tx i st.item.packet) (Complete i) (length (sent ((net_of t).far_end i)))) (Completion i))
      ∙ sym (ap (λ b. cond b (insert arrived (key_of (time + (net_of t).tx i st.item.packet) (Complete i) (length (sent ((net_of t).far_end i)))) (Completion i)) arrived) transmits.0.1)
    where
      arrived : FinMap key_cmp (Event (List ℕ))
      arrived = schedule (here_of t part)
          ((key_of (time + (net_of t).tx i st.item.packet + (net_of t).delay i) (Arrive ((net_of t).far_end i)) (length (sent ((net_of t).far_end i))), Delivery (Arrival ((net_of t).far_end i)) st.item.packet) ∷ []) pending

  pub begun_numbered : (after : TimelineValue L) → after.sent ≡ slice_set line.sent p (slice_index line.sent p + 1)
      → TimelineRepresents t after (sent_after (net_of t) time sent (Some (i, st.item.packet)))
  begun_numbered after e = record {
    count = ap length e ∙ length-set line.sent p (slice_index line.sent p + 1) ∙ numbered.count;
    numbers = λ c h. ap (λ l. slice_index l c) e ∙ go c h (c == p) refl;
  }
    where
      message : ℕ × List ℕ
      message = (time + (net_of t).tx i st.item.packet + (net_of t).delay i, st.item.packet)

      go : (c : ℕ) → c < length t.ifaces → (b : Bool) → (c == p) ≡ b
          → slice_index (slice_set line.sent p (slice_index line.sent p + 1)) c ≡ length (set_at sent ((net_of t).far_end i) (sent ((net_of t).far_end i) ++ message ∷ []) c)
      go c h true q =
          let e1 : c ≡ p = grind (arith, nat_tests, q) in
          let put = sent ((net_of t).far_end i) ++ message ∷ [] in
          let within : p < length line.sent = omega (arith, there, numbered.count) in
          ap (λ j. slice_index (slice_set line.sent p (slice_index line.sent p + 1)) j) e1
          ∙ get_or-set_same line.sent p (slice_index line.sent p + 1) 0 within
          ∙ ap (λ k. k + 1) number_is
          ∙ sym (length-append (sent ((net_of t).far_end i)) (message ∷ []))
          ∙ ap length (sym (set_here sent ((net_of t).far_end i) put))
          ∙ ap (λ j. length (set_at sent ((net_of t).far_end i) put j)) (far_end ∙ sym e1)
      go c h false q =
          let e1 : c ≢ p = λ f. true≢false (sym (grind (arith, nat_tests, f)) ∙ q) in
          get_or-set_other line.sent p c (slice_index line.sent p + 1) 0 e1 ∙ numbered.numbers c h
          ∙ ap length (sym (set_there sent ((net_of t).far_end i) (sent ((net_of t).far_end i) ++ message ∷ []) c (λ f. e1 (f ∙ far_end))))

pub numbered_same : {L : Type 0} (t : TopologyValue) (a b : TimelineValue L) (sent : ℕ → List (ℕ × List ℕ)) → b.sent ≡ a.sent → TimelineRepresents t a sent → TimelineRepresents t b sent
numbered_same t a b sent e h = record {
  count = ap length e ∙ h.count;
  numbers = λ c l. ap (λ z. slice_index z c) e ∙ h.numbers c l;
}
