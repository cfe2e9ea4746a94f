-- What contracts see of a wire that counts its octets.
use Rattle.std.specs.Prelude.{ℕ, ◌+◌, Bool, true, false}
use Rattle.nm_base.specs.Count.{saturated}
use Rattle.nm_base.specs.declared.wire.Read.{Read}
use Rattle.nm_base.specs.declared.wire.Read.TheVariants.{Got, End, Later, Fault}
use Rattle.nm_base.specs.declared.wire.Written.{Written}
use Rattle.nm_base.specs.declared.wire.Written.TheVariants as written

pub record CountingWireValue (W : Type 0) : Type 0 where
  pub wire : W
  -- how many octets were received, and how many were written, each up to 2 ^ 64 - 1
  pub came : ℕ
  pub written : ℕ
  -- there may be something to read, so that a read asks the wire
  pub is_ready : Bool
  -- a read found the end
  pub has_ended : Bool

-- after a report
abbrev pub reported : {W : Type 0} → CountingWireValue W → CountingWireValue W
reported c = record c { is_ready = true }

-- after a read of the wire: octets were received, the end was found, or nothing more
abbrev pub noted : {W : Type 0} → CountingWireValue W → Read → CountingWireValue W
noted c (Got octets) = record c { came = saturated (c.came + octets) }
noted c End = record c { is_ready = false; has_ended = true }
noted c Later = record c { is_ready = false }
noted c Fault = c

-- after a write: the wire took octets, or none
abbrev pub written_on : {W : Type 0} → CountingWireValue W → Written → CountingWireValue W
written_on c (written.Took octets) = record c { written = saturated (c.written + octets) }
written_on c written.Later = c
written_on c written.Fault = c
