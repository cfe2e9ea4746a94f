-- What is seen of an interface of a network, event by event.
use Rattle.std.specs.Prelude.{◌≡◌, ℕ, ◌-◌, ◌≤◌, ◌^◌, List, min}
use Rattle.nm_base.specs.declared.record.Dir.TheVariants.{Out}
use Rattle.nm_model.specs.Network.{Net}
use Rattle.nm_model.specs.Run.{one_list}
use Rattle.nm_model.specs.Trace.{passed}
use Rattle.nm_measure.specs.declared.level.Level.{Level}
use Rattle.nm_measure.specs.declared.queue.Queue.{Queue}
use Rattle.nm_measure.specs.declared.seen.Seen.{Seen}
use Rattle.nm_measure.specs.Queues.{in_octets, in_packets, longest_queue, time_after, waited_to, waiting_after}
use Rattle.nm_measure.specs.Usage.{IsUsed}
use Rattle.nm_measure.specs.Waited.{waited_at}

-- how much waits there after n events, by `amount`; the most that waited recently count since
-- `first` events
pub record IsLevel {P N : Type 0} (net : Net P N) (amount : List P → ℕ) (i first n : ℕ)
    (l : Level) : Type 0 where
  pub waiting : l.waiting ≡ waiting_after net amount i n
  pub longest : l.longest ≡ longest_queue net amount i 0 n
  pub recent : l.recent ≡ longest_queue net amount i first n
  pub late : l.since ≤ time_after net n
  pub waited : waited_at l.waited l.waiting l.since (time_after net n)
      ≡ min (waited_to net amount i n) (2 ^ 128 - 1)

module _ {N : Type 0} (net : Net (List ℕ) N) (i first n : ℕ) where
  -- of its queue, in packets and in octets
  pub record IsQueue (q : Queue) : Type 0 where
    pub packets : IsLevel net in_packets i first n q.packets
    pub octets : IsLevel net in_octets i first n q.octets

  -- and of its transmissions before `stop`
  pub record IsSeen (stop : ℕ) (x : Seen) : Type 0 where
    pub queue : IsQueue x.queue
    pub used : IsUsed net i stop (time_after net n) (passed Out i (one_list net n).records)
        x.usage.busy x.usage.last_busy x.usage.starts
