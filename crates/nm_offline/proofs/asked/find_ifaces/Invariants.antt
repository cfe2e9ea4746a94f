use Rattle.std.proofs.Common.{◌≡◌, All, None, Some, string_bytes, take}
use Rattle.nm_offline.specs.Traces.{iface_named}
use Rattle.nm_offline.proofs.asked.find_ifaces.Given as goal

abbrev pub invariant-loop-name : goal.invariant-loop-name
invariant-loop-name l = All (λ name. iface_named l.network.ifaces (Some (string_bytes name)) ≡ None → ⊥) (take l.name-index l.names)
