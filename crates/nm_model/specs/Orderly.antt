-- What holds of every state of a run, of the whole network or of a part, whatever the part
-- receives: a program that does its steps relies on it.
use Rattle.std.specs.Prelude.{◌≡◌, ℕ, suc, ◌<◌, Bool, true, false, length, Some, None}
use Rattle.std.specs.FinMap.{get}
use Rattle.nm_base.specs.declared.key.Place.{Place}
use Rattle.nm_base.specs.declared.key.Place.TheVariants.{Arrive, Complete, Fire}
use Rattle.nm_base.specs.declared.key.Key.{Key}
use Rattle.nm_base.specs.declared.event.Event.{Event}
use Rattle.nm_base.specs.declared.event.Event.TheVariants.{Delivery, Completion}
use Rattle.nm_base.specs.declared.event.Origin.TheVariants.{Arrival, Source}
use Rattle.nm_base.specs.Key.{key_of}
use Rattle.nm_model.specs.Network.{Net, node_of}
use Rattle.nm_model.specs.Port.{Busy}
use Rattle.nm_model.specs.Run.{State}

-- the places that are here are those of some nodes
abbrev pub IsByNode : {P N : Type 0} → Net P N → (Place → Bool) → Type 0
IsByNode net here = (q r : Place) → node_of net q ≡ node_of net r → here q ≡ here r

pub record IsOrderly {P N : Type 0} (net : Net P N) (here : Place → Bool)
    (s : State P N) : Type 0 where
  -- only what is here is pending
  pub own : (q : Key) → here q.place ≡ false → get s.pending q ≡ None
  -- a busy port's completion is pending
  pub busy : (i : ℕ) (b : Busy P) → here (Complete i) ≡ true → (s.port i).busy ≡ Some b
      → (n : ℕ) × (suc n ≡ length (s.sent (net.far_end i)))
      × (get s.pending (key_of b.completes (Complete i) n) ≡ Some (Completion i))
  -- and no other completion is
  pub completion : (i t n : ℕ) (y : Event P) → get s.pending (key_of t (Complete i) n) ≡ Some y
      → (b : Busy P) × (y ≡ Completion i) × ((s.port i).busy ≡ Some b) × (b.completes ≡ t)
      × (suc n ≡ length (s.sent (net.far_end i)))
  -- arrivals bring packets, and by a link within the part those that were put on it
  pub arrival : (c t n : ℕ) (y : Event P) → get s.pending (key_of t (Arrive c) n) ≡ Some y
      → (x : P) × (y ≡ Delivery (Arrival c) x)
  pub inner : (c t n : ℕ) (y : Event P) → here (Arrive (net.far_end c)) ≡ true
      → get s.pending (key_of t (Arrive c) n) ≡ Some y → n < length (s.sent c)
  -- of a source one event is pending at most, the one of its number
  pub source : (j t n : ℕ) (y : Event P) → get s.pending (key_of t (Fire j) n) ≡ Some y
      → (x : P) × (y ≡ Delivery (Source j) x) × (net.source j n ≡ Some (t, x))
  pub one_source : (j t u m n : ℕ) (y z : Event P) → get s.pending (key_of t (Fire j) m) ≡ Some y
      → get s.pending (key_of u (Fire j) n) ≡ Some z → m ≡ n
