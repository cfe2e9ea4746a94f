-- What becomes of what a node sends in an event.
use Rattle.std.specs.Prelude.{ℕ, Bool, if◌then◌else◌, List, Option, Some, None}
use Rattle.nm_base.specs.declared.event.Event.{Event}
use Rattle.nm_base.specs.declared.event.Event.TheVariants.{Delivery, Completion}
use Rattle.nm_base.specs.declared.event.Origin.TheVariants.{Arrival, Source}
use Rattle.nm_model.specs.Network.{Net}
use Rattle.nm_model.specs.Port.{Busy, Port}
use Rattle.nm_model.specs.declared.offering.Offering.{Offering}
use Rattle.nm_model.specs.declared.offering.Offering.TheVariants.{Nothing, Started, Waits, Dropped}

-- of a packet that is offered to interface i, by what is under way there: to an idle port it
-- starts; at a busy one it waits if there is room, and else it is dropped
abbrev pub offering_at : {P : Type 0} → (List P → P → Bool) → ℕ → P → Option (Busy P) → Offering
offering_at room i x None = Started i
offering_at room i x (Some b) = if room b.waiting x then Waits i else Dropped i

module _ {P N : Type 0} (net : Net P N) where
  -- of what a node sends
  abbrev pub offering_of : (ℕ → Port P) → Option (ℕ × P) → Offering
  offering_of ports None = Nothing
  offering_of ports (Some s) = offering_at (net.room s.0) s.0 s.1 (ports s.0).busy

  -- of what the node of an event sends
  abbrev pub offering_in : (ℕ → N) → (ℕ → Port P) → Event P → Offering
  offering_in nodes ports (Delivery (Arrival i) x) =
      offering_of ports (net.react (net.owner i) (nodes (net.owner i)) (Arrival i) x).1
  offering_in nodes ports (Delivery (Source j) x) =
      offering_of ports (net.react (net.source_node j) (nodes (net.source_node j)) (Source j) x).1
  offering_in nodes ports (Completion i) = Nothing
