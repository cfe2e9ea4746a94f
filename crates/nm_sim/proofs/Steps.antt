-- A step of a part is the step of what it represents.
use Rattle.std.proofs.Common.{◌≡◌, ℕ, zero, suc, ◌<◌, ◌≤◌, Bool, true, false, true≢false, ⊎_elim, cond, List, [], ◌∷◌, length, Option, Some, None, slice_get, refl, sym, ap, ◌∙◌, subst, arith}
use Rattle.std.specs.FinMap.{FinMap, entries, get, get-entries, insert, remove}
use Rattle.std.specs.Cmp.{tied_itself}
use Rattle.std.specs.Ordering.{is_eq, eq_by_cmp}
use Rattle.std.specs.Option.{IfSome, IsSome}
use Rattle.nm_base.specs.declared.event.Event.{Event}
use Rattle.nm_base.specs.declared.event.Event.TheVariants.{Delivery, Completion}
use Rattle.nm_base.specs.declared.event.Origin.TheVariants.{Arrival, Source as FromSource}
use Rattle.nm_base.specs.declared.key.Key.{Key}
use Rattle.nm_base.specs.declared.key.Place.TheVariants.{Arrive, Complete, Fire}
use Rattle.nm_base.specs.Event.{event_place}
use Rattle.nm_base.specs.Key.{key_of, key_cmp, key_cmp_total}
use Rattle.nm_topology.specs.declared.traffic.Source.{Source}
use Rattle.nm_topology.specs.declared.traffic.Traffic.{Traffic}
use Rattle.nm_topology.specs.declared.traffic.Traffic.TheVariants.{Cbr, Echo, Raw}
use Rattle.nm_topology.specs.Limits.{IsWithinLimits}
use Rattle.nm_topology.specs.TopologyValue.{TopologyValue}
use Rattle.nm_model.specs.EventList.{first_of_list, least}
use Rattle.nm_model.specs.Orderly.{IsOrderly}
use Rattle.nm_model.specs.Port.{Busy}
use Rattle.nm_model.specs.Run.{State}
use Rattle.nm_forward.specs.State.{NodeStateValue}
use Rattle.nm_forward.specs.Reaction.{FitsOrigin, FitsSource}
use Rattle.nm_iface.specs.PortValue.{PortValue}
use Rattle.nm_traffic.specs.Orderly.{ComeBeforeStop, EndForGood, FitsMtu, FitTheMtu, TimesRise}
use Rattle.nm_traffic.specs.Source.{source_at, source_of}
use Rattle.nm_sim.specs.Devices.{DevicesValue, DevicesRepresent, IsPortOf}
use Rattle.nm_sim.specs.Effects.{CanHappen, IsBusy, IsPlaceIn}
use Rattle.nm_sim.specs.Network.{here_of, is_iface_here, is_source_here, net_of}
use Rattle.nm_sim.specs.Part.{states_in}
use Rattle.nm_sim.specs.Tables.{AllHere, IsMember, IsThere}
use Rattle.nm_model.proofs.ListLemmas.{not_some}
use Rattle.std.proofs.lemmas.Option.{slice_get_cases}

-- the entry of the least key is there
pub least_has : {X : Type 0} (m : FinMap key_cmp X) (e : Key × X) → least m ≡ Some e → get m e.0 ≡ Some e.1
unfolding least
least_has {X} m e h = get-entries m e.0 ∙ go (entries m) h
  where
    go : (l : List (Key × X)) → first_of_list l ≡ Some e → Rattle.std.specs.FinMap.find key_cmp e.0 l ≡ Some e.1
    go [] f = absurd cc
    go (x ∷ l) f =
        let same : x ≡ e = cc in
        ap (λ z. cond (eq_by_cmp key_cmp e.0 z.0) (Some z.1) (Rattle.std.specs.FinMap.find key_cmp e.0 l)) same
        ∙ ap (λ r. cond (is_eq r) (Some e.1) (Rattle.std.specs.FinMap.find key_cmp e.0 l)) (tied_itself key_cmp_total e.0)

module _ (t : TopologyValue) (rise : TimesRise t) (end : EndForGood t) where
  -- packet n of a source comes at n or later
  pub number_le : (j n : ℕ) (a : ℕ × List ℕ) → source_at t j n ≡ Some a → n ≤ a.0
  number_le j zero a e = omega arith
  number_le j (suc n) a e = go (λ b f. number_le j n b f) (source_at t j n) refl
    where
      go : ((b : ℕ × List ℕ) → source_at t j n ≡ Some b → n ≤ b.0) → (o : Option (ℕ × List ℕ)) → source_at t j n ≡ o → suc n ≤ a.0
      go before None f = absurd (let none = end j n f in cc)
      go before (Some b) f = let h = before b f in let r = rise j n b a f e in omega arith

-- what is here is kept
kept_member : {X : Type 0} (here : ℕ → Bool) (P : ℕ → X → Type 0) (xs : List (Option X)) (i : ℕ) → AllHere here P xs → here i ≡ true → i < length xs → IsMember (slice_get xs i)
kept_member {X} here P xs i h e l = ⊎_elim
    (λ g. subst IsMember (sym g.2) (go (here i) e g.0 (h i g.0 g.2)))
    (λ g. absurd (omega (arith, g.0, l)))
    ((slice_get_cases xs i).1)
  where
    go : (b : Bool) → b ≡ true → (o : Option X) → IsThere b (P i) o → IsMember (Some o)
    go true f None p = absurd p
    go true f (Some x) p = tt
    go false f o p = absurd (true≢false (sym f))

module _ (t : TopologyValue) (limits : IsWithinLimits t) (fit : FitTheMtu t) where
  fits_traffic : (traffic : Traffic) (x : List ℕ) → FitsMtu t.mtu traffic (length x) → Rattle.nm_forward.specs.Reaction.FitsHeaders traffic x
  fits_traffic (Cbr c) x h = let m = limits.greatest_mtu in omega arith
  fits_traffic (Echo e) x h = let m = limits.greatest_mtu in omega arith
  fits_traffic (Raw r) x h = tt

  pub fits_origin : (j n : ℕ) (a : ℕ × List ℕ) → source_at t j n ≡ Some a → FitsOrigin t (FromSource j) a.1
  fits_origin j n a e = go (slice_get t.sources j) refl
    where
      go : (o : Option Source) → slice_get t.sources j ≡ o → FitsSource o a.1
      go None f = tt
      go (Some s) f = fits_traffic s.traffic a.1 (fit j n s a f e)

-- what is pending is here
pub pending_here : (t : TopologyValue) (part : Option ℕ) (s : State (List ℕ) NodeStateValue) → IsOrderly (net_of t) (here_of t part) s → (k : Key) (y : Event (List ℕ)) → get s.pending k ≡ Some y
    → here_of t part k.place ≡ true
pending_here t part s orderly k y e = go (here_of t part k.place) refl
  where
    go : (b : Bool) → here_of t part k.place ≡ b → b ≡ true
    go true f = refl
    go false f = absurd (not_some y (sym (orderly.own k f) ∙ e))

module _ (t : TopologyValue) (part : Option ℕ) (s : State (List ℕ) NodeStateValue) (orderly : IsOrderly (net_of t) (here_of t part) s) (d : DevicesValue)
    (represented : DevicesRepresent t (states_in part s) d) where
  busy_at : (i : ℕ) (b : Busy (List ℕ)) → (s.port i).busy ≡ Some b → i < length t.ifaces → is_iface_here t part i ≡ true → IsBusy (slice_get d.ports i)
  busy_at i b e l h = ⊎_elim
      (λ g. subst IsBusy (sym g.2) (go (is_iface_here t part i) h g.0 (represented.ports i g.0 g.2)))
      (λ g. absurd (omega (arith, g.0, l, represented.port_count)))
      ((slice_get_cases d.ports i).1)
    where
      go : (here : Bool) → here ≡ true → (o : Option PortValue) → IsThere here (λ w. IsPortOf t i w (s.port i)) o → IsBusy (Some o)
      go true h None p = absurd p
      go true h (Some w) p = subst IsSome (sym (p.busy ∙ e)) refl
      go false h o p = absurd (true≢false (sym h))

  -- where a completion is pending, the interface transmits
  pub is_busy : (i time number : ℕ) (y : Event (List ℕ)) → get s.pending (key_of time (Complete i) number) ≡ Some y → i < length t.ifaces → IsBusy (slice_get d.ports i)
  is_busy i time number y e h =
      let c = orderly.completion i time number y e in
      busy_at i c.0 c.2 h (pending_here t part s orderly (key_of time (Complete i) number) y e)

  -- where an arrival is pending, or a source's packet, the port or the source is kept
  pub port_is_kept : (i time number : ℕ) (y : Event (List ℕ)) → get s.pending (key_of time (Arrive i) number) ≡ Some y → i < length t.ifaces → IsMember (slice_get d.ports i)
  port_is_kept i time number y e h =
      kept_member (is_iface_here t part) (λ i w. IsPortOf t i w (s.port i)) d.ports i represented.ports (pending_here t part s orderly (key_of time (Arrive i) number) y e) (omega (arith, h, represented.port_count))

  pub source_is_kept : (j time number : ℕ) (y : Event (List ℕ)) → get s.pending (key_of time (Fire j) number) ≡ Some y → j < length t.sources → IsMember (slice_get d.sources j)
  source_is_kept j time number y e h =
      kept_member (is_source_here t part) (λ j z. source_of t j ≡ Some z) d.sources j represented.sources (pending_here t part s orderly (key_of time (Fire j) number) y e) (omega (arith, h, represented.source_count))

module _ (t : TopologyValue) (limits : IsWithinLimits t) (fit : FitTheMtu t) (rise : TimesRise t) (end : EndForGood t) (before : ComeBeforeStop t)
    (part : Option ℕ) (s : State (List ℕ) NodeStateValue) (orderly : IsOrderly (net_of t) (here_of t part) s)
    (placed : (q : Key) (y : Event (List ℕ)) → get s.pending q ≡ Some y → IsPlaceIn t q.place)
    (d : DevicesValue) (represented : DevicesRepresent t (states_in part s) d) where
  -- an event that is pending can happen
  pub can_happen : (time number : ℕ) (y : Event (List ℕ)) → get s.pending (key_of time (event_place y) number) ≡ Some y → CanHappen t d number y
  unfolding net_of
  can_happen time number (Delivery (Arrival i) x) e = placed (key_of time (Arrive i) number) (Delivery (Arrival i) x) e
  can_happen time number (Completion i) e =
      let h : i < length t.ifaces = placed (key_of time (Complete i) number) (Completion i) e in
      (h, is_busy t part s orderly d represented i time number (Completion i) e h)
  can_happen time number (Delivery (FromSource j) x) e =
      let h : j < length t.sources = placed (key_of time (Fire j) number) (Delivery (FromSource j) x) e in
      let c = orderly.source j time number (Delivery (FromSource j) x) e in
      let same : c.0 ≡ x = let b = c.1 in cc in
      let at : source_at t j number ≡ Some (time, x) = from_net c.0 x same c.2 in
      let small = before j number (time, x) at in
      let n = number_le t rise end j number (time, x) at in
      let stop = limits.greatest_stop in
      (h, fits_origin t limits fit j number (time, x) at, omega (arith, small, n, stop))
    where
      from_net : (x' x : List ℕ) → x' ≡ x → (net_of t).source j number ≡ Some (time, x') → source_at t j number ≡ Some (time, x)
      from_net x' x e g = g ∙ ap (λ z. Some (time, z)) e
