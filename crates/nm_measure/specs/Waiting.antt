-- The queue of an interface, observed event by event.
use Rattle.std.specs.Prelude.{ℕ, max}
use Rattle.nm_measure.specs.Waited.{waited_at}
use Rattle.nm_measure.specs.declared.level.Level.{Level}
use Rattle.nm_measure.specs.declared.queue.Queue.{Queue}
use Rattle.nm_measure.specs.declared.queue.Waits.{Waits}

-- nothing waited yet
abbrev pub level_empty : Level
level_empty = record { waiting = 0; longest = 0; recent = 0; waited = 0; since = 0 }

-- from now on so many wait
abbrev pub level_later : Level → (waiting now : ℕ) → Level
level_later l waiting now = record {
  waiting = waiting;
  longest = max l.longest waiting;
  recent = max l.recent waiting;
  waited = waited_at l.waited l.waiting l.since now;
  since = now;
}

-- the count of the most that wait starts again
abbrev pub level_begun : Level → Level
level_begun l = record l { recent = l.waiting }

-- nothing waited yet
abbrev pub queue_empty : Queue
queue_empty = record { packets = level_empty; octets = level_empty }

-- this waits from now on
abbrev pub queue_later : Queue → Waits → (now : ℕ) → Queue
queue_later q waits now = record {
  packets = level_later q.packets waits.packets now;
  octets = level_later q.octets waits.octets now;
}

-- the count of the most that wait starts again
abbrev pub queue_begun : Queue → Queue
queue_begun q = record q { packets = level_begun q.packets; octets = level_begun q.octets }
