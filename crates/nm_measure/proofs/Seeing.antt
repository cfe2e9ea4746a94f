-- What is seen of an interface, one event later.
use Rattle.std.proofs.Common.{◌≡◌, ℕ, suc, ◌+◌, ◌-◌, ◌*◌, ◌^◌, ◌≤◌, List, [], max, min, refl, sym, ap, ◌∙◌, arith}
use Rattle.nm_model.specs.Network.{Net}
use Rattle.nm_model.specs.Run.{one_list}
use Rattle.nm_measure.specs.declared.level.Level.{Level}
use Rattle.nm_measure.specs.declared.queue.Queue.{Queue}
use Rattle.nm_measure.specs.declared.queue.Waits.{Waits}
use Rattle.nm_measure.specs.Interfaces.{waits_at}
use Rattle.nm_measure.specs.Queues.{in_octets, in_packets, time_after, waited_before, waited_to, waiting_after}
use Rattle.nm_measure.specs.Seen.{IsLevel, IsQueue}
use Rattle.nm_measure.specs.Waited.{waited_at}
use Rattle.nm_measure.specs.Waiting.{level_begun, level_empty, level_later, queue_begun, queue_empty, queue_later}
use Rattle.nm_measure.proofs.Waitings.{greatest_next, greatest_now, greatest_same, waited_from, waited_on}

module _ {P N : Type 0} (net : Net P N) (amount : List P → ℕ) (i : ℕ) where
  -- nothing happened
  level_first : amount [] ≡ 0 → IsLevel net amount i 0 0 level_empty
  level_first none = record { waiting = sym none; longest = sym none; recent = sym none; late = omega arith; waited = refl }

  -- the most that wait are looked for anew
  level_anew : (first n : ℕ) (l : Level) → IsLevel net amount i first n l → IsLevel net amount i n n (level_begun l)
  level_anew first n l h = record {
    waiting = h.waiting;
    longest = h.longest;
    recent = h.waiting ∙ sym (greatest_now (waiting_after net amount i) n);
    late = h.late;
    waited = h.waited;
  }

  module _ (first n : ℕ) (since : first ≤ n) (l : Level) (h : IsLevel net amount i first n l) (rises : time_after net n ≤ time_after net (suc n)) where
    -- an event after which as much waits
    level_same : waiting_after net amount i (suc n) ≡ waiting_after net amount i n → IsLevel net amount i first (suc n) l
    level_same same =
        let late = h.late in
        record {
          waiting = h.waiting ∙ sym same;
          longest = h.longest ∙ sym (greatest_same (waiting_after net amount i) 0 n (omega arith) same);
          recent = h.recent ∙ sym (greatest_same (waiting_after net amount i) first n since same);
          late = omega (arith, late, rises);
          waited = waited_on l.waited l.waiting l.since (time_after net n) (time_after net (suc n)) (waited_to net amount i n) h.late rises h.waited
              ∙ ap (λ w. min (waited_to net amount i n + w * (time_after net (suc n) - time_after net n)) (2 ^ 128 - 1)) h.waiting;
        }

    -- one after which so much waits
    level_on : (waiting now : ℕ) → waiting ≡ waiting_after net amount i (suc n) → now ≡ time_after net (suc n)
        → IsLevel net amount i first (suc n) (level_later l waiting now)
    level_on waiting now is at =
        let w = waited_at l.waited l.waiting l.since now in
        let so_far : w ≡ min (waited_to net amount i (suc n)) (2 ^ 128 - 1) = ap (waited_at l.waited l.waiting l.since) at
        ∙ waited_on l.waited l.waiting l.since (time_after net n) (time_after net (suc n)) (waited_to net amount i n) h.late rises h.waited
        ∙ ap (λ w. min (waited_to net amount i n + w * (time_after net (suc n) - time_after net n)) (2 ^ 128 - 1)) h.waiting in
        record {
          waiting = is;
          longest = (λ k. max (h.longest k) (is k)) ∙ sym (greatest_next (waiting_after net amount i) 0 n (omega arith));
          recent = (λ k. max (h.recent k) (is k)) ∙ sym (greatest_next (waiting_after net amount i) first n since);
          late = omega (arith, at);
          waited = ap (waited_at w waiting now) (sym at) ∙ waited_from w waiting now (waited_to net amount i (suc n)) so_far;
        }

  -- for how long that waited, up to a later time
  pub waited_up_to : (first n time : ℕ) (l : Level) → IsLevel net amount i first n l → time_after net n ≤ time
      → waited_at l.waited l.waiting l.since time ≡ min (waited_before net amount i time n) (2 ^ 128 - 1)
  waited_up_to first n time l h late =
      waited_on l.waited l.waiting l.since (time_after net n) time (waited_to net amount i n) h.late late h.waited
      ∙ ap (λ w. min (waited_to net amount i n + w * (time - time_after net n)) (2 ^ 128 - 1)) h.waiting

module _ {N : Type 0} (net : Net (List ℕ) N) (i : ℕ) where
  pub queue_first : IsQueue net i 0 0 queue_empty
  queue_first = record { packets = level_first net in_packets i refl; octets = level_first net in_octets i refl }

  pub queue_anew : (first n : ℕ) (q : Queue) → IsQueue net i first n q → IsQueue net i n n (queue_begun q)
  queue_anew first n q h = record {
    packets = level_anew net in_packets i first n q.packets h.packets;
    octets = level_anew net in_octets i first n q.octets h.octets;
  }

  module _ (first n : ℕ) (since : first ≤ n) (q : Queue) (h : IsQueue net i first n q) (rises : time_after net n ≤ time_after net (suc n)) where
    -- an event that leaves the queue as it is
    pub queue_same : waits_at ((one_list net (suc n)).port i) ≡ waits_at ((one_list net n).port i) → IsQueue net i first (suc n) q
    queue_same same = record {
      packets = level_same net in_packets i first n since q.packets h.packets rises (ap (λ (w : Waits). w.packets) same);
      octets = level_same net in_octets i first n since q.octets h.octets rises (ap (λ (w : Waits). w.octets) same);
    }

    -- one after which this waits
    pub queue_on : (waits : Waits) (now : ℕ) → waits ≡ waits_at ((one_list net (suc n)).port i) → now ≡ time_after net (suc n)
        → IsQueue net i first (suc n) (queue_later q waits now)
    queue_on waits now is at = record {
      packets = level_on net in_packets i first n since q.packets h.packets rises waits.packets now (ap (λ (w : Waits). w.packets) is) at;
      octets = level_on net in_octets i first n since q.octets h.octets rises waits.octets now (ap (λ (w : Waits). w.octets) is) at;
    }
