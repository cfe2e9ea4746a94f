-- What holds of every state of a run, of the whole network or of a part, whatever the part
-- receives.
use Rattle.std.specs.Prelude.{◌≡◌, ◌≢◌, ℕ, ◌<◌, Bool, true, [], Some, None}
use Rattle.std.specs.FinMap.{get, remove}
use Rattle.nm_base.specs.declared.key.Key.{Key}
use Rattle.nm_base.specs.declared.key.Place.{Place}
use Rattle.nm_base.specs.declared.key.Place.TheVariants.{Arrive}
use Rattle.nm_base.specs.Key.{key_of}
use Rattle.nm_base.specs.declared.event.Event.{Event}
use Rattle.nm_model.specs.Lists.{nth}
use Rattle.nm_model.specs.EventList.{least}
use Rattle.nm_model.specs.Network.{Net, IsNet}
use Rattle.nm_model.specs.Run.{State, one_list, made, step, start}
use Rattle.nm_model.specs.Knowledge.{Knowledge}
use Rattle.nm_model.specs.Partition.{comes_in, in_part}
use Rattle.nm_model.specs.Replica.{from_scratch}
use Rattle.nm_model.specs.Orderly.{IsByNode, IsOrderly}

module _ {P N : Type 0} (net : Net P N) where
  -- every state is orderly: of the whole network, of a replica over anything that it received, at
  -- the start, and after each event
  pub record StatesAreOrderly : Type 0 where
    pub whole : (n : ℕ) → IsOrderly net (λ _. true) (one_list net n)
    pub part : (p : ℕ) (K : Knowledge P) (k : ℕ)
        → IsOrderly net (in_part net p) (from_scratch net p K k)
    pub opens : (here : Place → Bool) → IsByNode net here → IsOrderly net here (start net here [])
    pub steps : (here : Place → Bool) → IsByNode net here → (s : State P N) → IsOrderly net here s
        → IsOrderly net here (step net here s)

  -- in an orderly state the events that the next event makes have new keys, all different
  pub record NewKeysAreNew : Type 0 where
    pub fresh : (here : Place → Bool) → IsByNode net here → (s : State P N) → IsOrderly net here s
        → (e : Key × Event P) → least s.pending ≡ Some e → (m : ℕ) (f : Key × Event P)
        → nth (made net s e) m ≡ Some f → get (remove s.pending e.0) f.0 ≡ None
    pub apart : (s : State P N) (e : Key × Event P) (m n : ℕ) (f g : Key × Event P) → m < n
        → nth (made net s e) m ≡ Some f → nth (made net s e) n ≡ Some g → f.0 ≢ g.0

  -- nothing arrives on a channel that no message brought
  pub record OnlyToldArrives : Type 0 where
    -- at the start no arrival is pending
    pub opens : (here : Place → Bool) (c t n : ℕ)
        → get (start net here []).pending (key_of t (Arrive c) n) ≡ None
    -- and a step of a partition makes none on a channel that comes in
    pub steps : IsNet net → (p : ℕ) (s : State P N) → IsOrderly net (in_part net p) s
        → (c t n : ℕ) → comes_in net p c ≡ true → get s.pending (key_of t (Arrive c) n) ≡ None
        → get (step net (in_part net p) s).pending (key_of t (Arrive c) n) ≡ None
