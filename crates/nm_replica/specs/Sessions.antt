-- Sessions with peers that the replica calls.
use Rattle.std.specs.Prelude.{◌≡◌, ℕ, false, List, Option, Some, None, map}
use Rattle.nm_topology.specs.TopologyValue.{TopologyValue}
use Rattle.nm_frames.specs.Session.{SessionValue, new_incoming, new_outgoing, new_session}

-- the session is at its greeting: no Hello, Have or Bye was given or taken, and no count of
-- messages is known
abbrev pub IsAtGreeting : SessionValue → Type 0
IsAtGreeting s =
    (s.hello_given ≡ None) × (s.hello_taken ≡ None) × (s.bye_given ≡ false) × (s.bye_taken ≡ false)
    × (s.incoming ≡ map (λ i. new_incoming i.channel) s.incoming)
    × (s.outgoing ≡ map (λ o. new_outgoing o.channel) s.outgoing)

-- one for each of these partitions, from a replica of a partition
abbrev pub first_sessions : TopologyValue → (me replica : ℕ) → (peers : List ℕ)
    → List (Option SessionValue)
first_sessions t me replica peers = map (λ peer. Some (new_session t me replica peer)) peers
