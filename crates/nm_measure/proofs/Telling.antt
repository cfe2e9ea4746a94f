-- What a part says of an event is what happened in it.
use Rattle.std.proofs.Common.{◌≡◌, ℕ, List, length, Option, Some, None, refl, sym, ap, ◌∙◌}
use Rattle.nm_base.specs.declared.event.Event.{Event}
use Rattle.nm_base.specs.declared.key.Key.{Key}
use Rattle.nm_base.specs.declared.wanted.Wanted.{Wanted}
use Rattle.nm_forward.specs.State.{NodeStateValue}
use Rattle.nm_model.proofs.ListLemmas.{not_some, some_inj}
use Rattle.nm_model.specs.Run.{State, effect}
use Rattle.nm_sim.specs.Network.{net_of}
use Rattle.nm_sim.specs.Told.{Happens, started_octets}
use Rattle.nm_sim.specs.declared.told.Started.{Started}
use Rattle.nm_sim.specs.declared.told.Happened.{Happened}
use Rattle.nm_topology.specs.TopologyValue.{TopologyValue}

module _ (t : TopologyValue) (wanted : Wanted) (s : State (List ℕ) NodeStateValue) (e : Key × Event (List ℕ)) (h : Happened) (happens : Happens t wanted s e h) where
  -- nothing started, or this did
  pub none_went : h.started ≡ None → (effect (net_of t) s.node s.port e.0.time e.0.number e.1).transmission ≡ None
  none_went none = go (effect (net_of t) s.node s.port e.0.time e.0.number e.1).transmission (sym none ∙ happens.started)
    where
      go : (o : Option (ℕ × List ℕ)) → None ≡ started_octets o → o ≡ None
      go None f = refl
      go (Some a) f = absurd (not_some _ f)

  pub one_went : (z : Started) → h.started ≡ Some z → (x : List ℕ) × ((effect (net_of t) s.node s.port e.0.time e.0.number e.1).transmission ≡ Some (z.iface, x)) × (z.octets ≡ length x)
  one_went z one = go (effect (net_of t) s.node s.port e.0.time e.0.number e.1).transmission (sym one ∙ happens.started)
    where
      go : (o : Option (ℕ × List ℕ)) → Some z ≡ started_octets o → (x : List ℕ) × (o ≡ Some (z.iface, x)) × (z.octets ≡ length x)
      go None f = absurd (not_some z (sym f))
      go (Some a) f =
          let is : z ≡ record { iface = a.0; octets = length a.1 } = some_inj z _ f in
          (a.1, ap (λ i. Some (i, a.1)) (sym (ap (λ (y : Started). y.iface) is)), ap (λ (y : Started). y.octets) is)
