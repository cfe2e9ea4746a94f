-- The places of events.
use Rattle.nm_base.specs.declared.event.Event.{Event}
use Rattle.nm_base.specs.declared.event.Event.TheVariants.{Completion, Delivery}
use Rattle.nm_base.specs.declared.event.Origin.TheVariants.{Arrival, Source}
use Rattle.nm_base.specs.declared.key.Place.{Place}
use Rattle.nm_base.specs.declared.key.Place.TheVariants.{Arrive, Complete, Fire}

-- The place of an event, which its key has.
abbrev pub event_place : {P : Type 0} → Event P → Place
event_place (Delivery (Arrival i) x) = Arrive i
event_place (Delivery (Source j) x) = Fire j
event_place (Completion i) = Complete i
