-- What is pending in an orderly state is under a key that has the place of its event.
use Rattle.std.proofs.Common.{◌≡◌, Bool, Some, refl, sym, ap, ◌∙◌}
use Rattle.std.specs.FinMap.{get}
use Rattle.nm_base.specs.declared.key.Place.{Place}
use Rattle.nm_base.specs.declared.key.Place.TheVariants.{Arrive, Complete, Fire}
use Rattle.nm_base.specs.declared.key.Key.{Key}
use Rattle.nm_base.specs.declared.event.Event.{Event}
use Rattle.nm_base.specs.Event.{event_place}
use Rattle.nm_base.specs.Key.{key_of}
use Rattle.nm_model.specs.Network.{Net}
use Rattle.nm_model.specs.Run.{State}
use Rattle.nm_model.specs.Orderly.{IsOrderly}
use Rattle.nm_model.proofs.Keys.{key_at}

pub placed_of : {P N : Type 0} (net : Net P N) (here : Place → Bool) (s : State P N) → IsOrderly net here s → (k : Key) (y : Event P) → get s.pending k ≡ Some y → k.place ≡ event_place y
placed_of net here s o k y has = go k.place refl
  where
    at : (q : Place) → k.place ≡ q → get s.pending (key_of k.time q k.number) ≡ Some y
    at q e = ap (get s.pending) (sym (key_at k q e)) ∙ has

    go : (q : Place) → k.place ≡ q → k.place ≡ event_place y
    go (Arrive c) e = e ∙ ap event_place (sym (o.arrival c k.time k.number y (at (Arrive c) e)).1)
    go (Complete i) e = e ∙ ap event_place (sym (o.completion i k.time k.number y (at (Complete i) e)).1)
    go (Fire j) e = e ∙ ap event_place (sym (o.source j k.time k.number y (at (Fire j) e)).1)
