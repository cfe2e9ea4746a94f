-- Octets that moved on a connection, and their counts.
use Rattle.std.specs.Prelude.{◌≡◌, ℕ, ◌+◌, ◌-◌, Bool, true, false, nat_lt, ◌&&◌, ◌||◌, Option, Some, None, IsSomeAnd, if◌then◌else◌}
use Rattle.nm_base.specs.Count.{saturated}
use Rattle.nm_engine.specs.CountingWire.{CountingWireValue}
use Rattle.nm_engine.specs.Link.{has_greeted}
use Rattle.nm_engine.specs.declared.answer.Cause.{Cause}
use Rattle.nm_engine.specs.declared.answer.Cause.TheVariants as cause
use Rattle.nm_replica.specs.declared.connection.Connection.{Connection}
use Rattle.nm_replica.specs.declared.turning.Moves.{Moves}

-- how many moved on a wire, both ways, up to 2 ^ 64 - 1
abbrev pub moved_on : {W : Type 0} → CountingWireValue W → ℕ
moved_on wire = saturated (wire.came + wire.written)

-- octets were written on a connection, so that somebody was there
abbrev pub has_written : {W : Type 0} → Option (Connection W) → Bool
has_written None = false
has_written (Some c) = nat_lt 0 c.link.wire.written

-- a read of it found the end
abbrev pub sends_no_more : {W : Type 0} → Option (Connection W) → Bool
sends_no_more None = false
sends_no_more (Some c) = c.link.wire.has_ended

-- the peer ended it, and so is there, even if nothing could be written
abbrev pub is_end : Cause → Bool
is_end cause.End = true
is_end cause.Fault = false
is_end cause.Frame = false
is_end cause.Session = false
is_end cause.Book = false
is_end cause.Memory = false

abbrev pub was_there : {W : Type 0} → Cause → Option (Connection W) → Bool
was_there why connection = has_written connection || is_end why

-- What is counted of a connection as its turns end: the octets that moved since they were counted
-- last, and whether some were received. Before the peer's Hello none is reported to the gate, and
-- none is activity. After it they are reported, but are never activity. All that moved is noted.
pub record CountsMoves {W : Type 0} (counts : Bool) (old new : Connection W) (m : Moves) : Type 0 where
  pub moved : m.moved
      ≡ (if has_greeted new.link.session then moved_on new.link.wire - old.told else 0)
  pub octets : m.octets
      ≡ (if has_greeted new.link.session && counts
      then moved_on new.link.wire - old.counted else 0)
  pub has_heard : m.has_heard ≡ nat_lt old.heard new.link.wire.came
  pub told : new.told
      ≡ (if has_greeted new.link.session then moved_on new.link.wire else old.told)
  pub counted : new.counted ≡ moved_on new.link.wire
  pub heard : new.heard ≡ new.link.wire.came

-- the same under a key: nothing moves if no connection has it
abbrev pub CountsMovesAt : {W : Type 0} → (counts : Bool) → (old new : Option (Connection W))
    → Moves → Type 0
CountsMovesAt counts None new m =
    (new ≡ None) × (m.moved ≡ 0) × (m.octets ≡ 0) × (m.has_heard ≡ false)
CountsMovesAt counts (Some old) new m = IsSomeAnd new (λ c. CountsMoves counts old c m)
