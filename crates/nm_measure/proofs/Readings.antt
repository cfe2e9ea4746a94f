-- What is read of an interface at a time of the run.
use Rattle.std.proofs.Common.{◌≡◌, ℕ, zero, suc, ◌-◌, ◌^◌, ◌<◌, ◌≤◌, true, min, inl, inr, List, length, sum_by, Option, Some, None, slice_get, refl, sym, ap, ◌∙◌, arith, ⊎_elim}
use Rattle.std.specs.Option.{option_map, option_map_or}
use Rattle.std.proofs.lemmas.Bool.Decides.{nat_tests}
use Rattle.std.proofs.lemmas.Option.{slice_get_cases}
use Rattle.nm_base.specs.declared.event.Event.{Event}
use Rattle.nm_base.specs.declared.key.Key.{Key}
use Rattle.nm_base.specs.declared.record.Dir.TheVariants.{Out}
use Rattle.nm_model.specs.EventList.{is_before, least}
use Rattle.nm_model.specs.Network.{Net}
use Rattle.nm_model.specs.Run.{one_list, pends_before}
use Rattle.nm_model.specs.Trace.{passed}
use Rattle.nm_model.proofs.ListLemmas.{not_some, some_inj}
use Rattle.nm_topology.specs.TopologyValue.{TopologyValue}
use Rattle.nm_sim.specs.Network.{net_of}
use Rattle.nm_measure.specs.declared.seen.Seen.{Seen}
use Rattle.nm_measure.specs.Busy.{busy_before, busy_share, part_before}
use Rattle.nm_measure.specs.Interfaces.{AreSeen}
use Rattle.nm_measure.specs.Measured.{IsMeasuredBefore, MeasuredValue}
use Rattle.nm_measure.specs.Queues.{in_octets, in_packets, time_after, waited_before}
use Rattle.nm_measure.specs.Usage.{IsUsed, part_from, share_at}
use Rattle.nm_measure.specs.Waited.{waited_at}
use Rattle.nm_measure.proofs.Seeing.{waited_up_to}
use Rattle.nm_measure.proofs.Transmitting.{busy_to_stop, busy_until, share_is}

-- the events that are before a time
early : {P : Type 0} (until : ℕ) (o : Option (Key × Event P)) → is_before until o ≡ true → (e : Key × Event P) × (o ≡ Some e) × (e.0.time < until)
early until None h = absurd cc
early until (Some e) h = (e, refl, grind (arith, nat_tests, h))

pub time_up_to : {P N : Type 0} (net : Net P N) (until n : ℕ) → ((m : ℕ) → m < n → pends_before until (one_list net m) ≡ true) → time_after net n ≤ until
time_up_to net until zero h = omega arith
time_up_to net until (suc n) h =
    let z = early until (least (one_list net n).pending) (h n (omega arith)) in
    let is : time_after net (suc n) ≡ z.0.0.time = ap (λ o. option_map_or (λ (e : Key × Event _). e.0.time) o (time_after net n)) z.1 in
    let l = z.2 in
    omega (arith, is, l)

-- an event that was taken, by its key
pub event_of : {P : Type 0} (until : ℕ) (o : Option (Key × Event P)) (k : Key) → is_before until o ≡ true → option_map (λ e. e.0) o ≡ Some k
    → (e : Key × Event P) × (o ≡ Some e) × (e.0 ≡ k) × (e.0.time < until)
event_of until None k h is = absurd (not_some k is)
event_of until (Some e) k h is = (e, refl, some_inj e.0 k is, grind (arith, nat_tests, h))

pub missing : (t : TopologyValue) (first n i : ℕ) (all : List Seen) → AreSeen t first n all → i < length t.ifaces → slice_get all i ≡ None → ⊥
missing t first n i all seen there none = ⊎_elim
    (λ g. not_some g.0 (sym none ∙ g.2))
    (λ g. let c = seen.count in omega (arith, c, there, g.0))
    ((slice_get_cases all i).1)

-- for how long an interface transmits before a time
busy_is : {P N : Type 0} (net : Net P N) (i stop now time busy last_busy : ℕ) (span : Option (ℕ × ℕ)) (starts : List (ℕ × P)) → IsUsed net i stop now starts busy last_busy span
    → now ≤ time → time ≤ stop → stop < 2 ^ 64 → part_from span busy last_busy time ≡ sum_by (part_before net i time) starts
busy_is net i stop now time busy last_busy span starts (inl (none, idle, no_span)) late early few =
    ap (λ o. part_from o busy last_busy time) no_span ∙ idle ∙ sym (ap (sum_by (part_before net i time)) none)
busy_is net i stop now time busy last_busy span starts (inr (front, last, is, said)) late early few =
    ap (λ o. part_from o busy last_busy time) said.spans ∙ busy_until net i stop now busy last_busy time span starts front last is said late early few

module _ (t : TopologyValue) (until : ℕ) (m : MeasuredValue) (h : IsMeasuredBefore t until m) (i : ℕ) (x : Seen) (at : slice_get m.seen i ≡ Some x) where
  late : time_after (net_of t) h.events ≤ until
  late = time_up_to (net_of t) until h.events h.over.first

  pub packets_waited : waited_at x.queue.packets.waited x.queue.packets.waiting x.queue.packets.since until ≡ min (waited_before (net_of t) in_packets i until h.events) (2 ^ 128 - 1)
  packets_waited = waited_up_to (net_of t) in_packets i h.first h.events until x.queue.packets (h.seen.each i x at).0.queue.packets late

  pub octets_waited : waited_at x.queue.octets.waited x.queue.octets.waiting x.queue.octets.since until ≡ min (waited_before (net_of t) in_octets i until h.events) (2 ^ 128 - 1)
  octets_waited = waited_up_to (net_of t) in_octets i h.first h.events until x.queue.octets (h.seen.each i x at).0.queue.octets late

  pub busy_by : part_from x.usage.starts x.usage.busy x.usage.last_busy until ≡ busy_before (net_of t) i until (one_list (net_of t) h.events).records
  busy_by = let s = h.stops in busy_is (net_of t) i t.stop (time_after (net_of t) h.events) until x.usage.busy x.usage.last_busy x.usage.starts
      (passed Out i (one_list (net_of t) h.events).records) (h.seen.each i x at).0.used late h.within (omega (arith, s))

  pub busy_in_all : x.usage.busy ≡ busy_before (net_of t) i t.stop (one_list (net_of t) h.events).records
  busy_in_all = let l = late in let w = h.within in busy_to_stop (net_of t) i t.stop (time_after (net_of t) h.events) x.usage.busy x.usage.last_busy x.usage.starts
      (passed Out i (one_list (net_of t) h.events).records) (h.seen.each i x at).0.used (omega (arith, l, w))

  pub share_by : share_at x.usage.starts x.usage.busy x.usage.last_busy ≡ busy_share (net_of t) i (one_list (net_of t) h.events).records
  share_by = share_is (net_of t) i t.stop (time_after (net_of t) h.events) x.usage.busy x.usage.last_busy x.usage.starts
      (passed Out i (one_list (net_of t) h.events).records) (h.seen.each i x at).0.used
