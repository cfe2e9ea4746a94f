-- What the program answers of a reaction.
use Rattle.std.specs.Prelude.{◌≡◌, ℕ, false, List, Option, Some, None}
use Rattle.nm_base.specs.declared.packet.Twin.{Twin}
use Rattle.nm_base.specs.Wanted.{is_wanted}
use Rattle.nm_base.specs.declared.wanted.Wanted.{Wanted}
use Rattle.nm_iface.specs.PortValue.{IsRefusedAt, PortValue}
use Rattle.nm_forward.specs.declared.reaction.Reaction.{Reaction}
use Rattle.nm_forward.specs.declared.reaction.Reaction.TheVariants as sent
use Rattle.nm_forward.specs.State.{NodeStateValue}
use Rattle.nm_forward.specs.Originate.{Reacted}

-- a packet that is sent: the interface, and its octets
abbrev pub sent_of : Option (ℕ × Twin) → Option (ℕ × List ℕ)
sent_of None = None
sent_of (Some s) = Some (s.0, s.1.packet)

-- what a reaction sends, at a node with these ports, is this; or its port would drop it now
abbrev pub IsSent : List (Option PortValue) → Reaction → Option (ℕ × List ℕ) → Type 0
IsSent ports sent.Nothing s = s ≡ None
IsSent ports (sent.Send via twin) s = s ≡ Some (via, twin.packet)
IsSent ports (sent.Refused via) s =
    (x : List ℕ) × (s ≡ Some (via, x)) × IsRefusedAt ports via x
IsSent ports (sent.Pass via packet) s = s ≡ Some (via, packet)

-- a reaction, and the state after it, are these
abbrev pub IsReaction : List (Option PortValue) → Reaction → NodeStateValue → Reacted → Type 0
IsReaction ports r state after = (state ≡ after.0) × IsSent ports r after.1

-- the interface by which a reaction sends
abbrev pub iface_of : Reaction → Option ℕ
iface_of sent.Nothing = None
iface_of (sent.Send via twin) = Some via
iface_of (sent.Refused via) = Some via
iface_of (sent.Pass via packet) = Some via

-- no packet is passed, or no record is wanted of the interface by which one is
abbrev pub PassesNone : Reaction → Type 0
PassesNone sent.Nothing = Unit {0}
PassesNone (sent.Send via twin) = Unit {0}
PassesNone (sent.Refused via) = Unit {0}
PassesNone (sent.Pass via packet) = ⊥

abbrev pub PassesUnwanted : Wanted → Reaction → Type 0
PassesUnwanted wanted sent.Nothing = Unit {0}
PassesUnwanted wanted (sent.Send via twin) = Unit {0}
PassesUnwanted wanted (sent.Refused via) = Unit {0}
PassesUnwanted wanted (sent.Pass via packet) = is_wanted wanted via ≡ false
