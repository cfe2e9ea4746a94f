-- What the effect of an event is, whatever nodes do. All other proofs use these facts alone.
use Rattle.std.proofs.Common.{◌≡◌, ◌≢◌, ◌⊎◌, inl, inr, ℕ, suc, ◌+◌, Bool, true, false, cond, List, [], ◌∷◌, ◌++◌, Option, Some, None, refl, sym, ap, ap₂, ◌∙◌, subst}
use Rattle.nm_base.specs.declared.key.Place.{Place}
use Rattle.nm_base.specs.declared.key.Place.TheVariants.{Arrive, Complete, Fire}
use Rattle.nm_base.specs.declared.event.Event.{Event}
use Rattle.nm_base.specs.declared.event.Event.TheVariants.{Delivery, Completion}
use Rattle.nm_base.specs.declared.event.Origin.TheVariants.{Arrival, Source}
use Rattle.nm_base.specs.Event.{event_place}
use Rattle.nm_model.specs.Port.{Busy, Port, offered, next_transmitting, completed}
use Rattle.nm_model.specs.Network.{Net, IsNet, node_of}
use Rattle.nm_model.proofs.ListLemmas.{some_inj, not_some}
use Rattle.nm_model.specs.Run.{Effect, at_iface, turned_by, sent_on, reacted, by_source, effect}

pub record EffectIs {P N : Type 0} (net : Net P N) (ports : ℕ → Port P) (time : ℕ) (place : Place) (number : ℕ) (event : Event P) (e : Effect P N) : Type 0 where
  pub turn_owner : (w : ℕ × Port P) → e.turn ≡ Some w → net.owner w.0 ≡ node_of net place
  pub transmission_turn : (s : ℕ × P) → e.transmission ≡ Some s → (w : Port P) × (e.turn ≡ Some (s.0, w)) × (w.busy ≢ None)
  pub transmission_free : (s : ℕ × P) → e.transmission ≡ Some s → ((ports s.0).busy ≡ None) ⊎ (place ≡ Complete s.0)
  pub turn_idle : (w : ℕ × Port P) → e.turn ≡ Some w → w.1.busy ≡ None → place ≡ Complete w.0
  -- a port that is busy after was given a packet to transmit, or goes on
  pub turn_busy : (w : ℕ × Port P) → e.turn ≡ Some w → (b : Busy P) → w.1.busy ≡ Some b → ((x : P) × (e.transmission ≡ Some (w.0, x)) × (b.completes ≡ time + net.tx w.0 x)) ⊎ ((c : Busy P) × (e.transmission ≡ None) × ((ports w.0).busy ≡ Some c) × (b.completes ≡ c.completes) × (place ≡ Complete w.0 → event ≡ Completion w.0 → ⊥))
  pub completes : (i : ℕ) → place ≡ Complete i → event ≡ Completion i → (w : Port P) × (e.turn ≡ Some (i, w))
  pub follows_is : (f : ℕ × ℕ × P) → e.follows ≡ Some f → (place ≡ Fire f.0) × (net.source f.0 (suc number) ≡ Some (f.1, f.2))
  pub came_is : (a : ℕ × P) → e.came ≡ Some a → (place ≡ Arrive a.0) × (event ≡ Delivery (Arrival a.0) a.1)
  pub came_has : (i : ℕ) (x : P) → place ≡ Arrive i → event ≡ Delivery (Arrival i) x → e.came ≡ Some (i, x)

some_none : {A : Type 0} (x : A) → Some x ≢ None
some_none x e = not_some x (sym e)

module _ {A : Type 0} where
  some_first : (i : ℕ) (v : A) (w : ℕ × A) → Some (i, v) ≡ Some w → i ≡ w.0
  some_first i v w e = let f : (i, v) ≡ w = cc in ap (λ z. z.0) f

  some_second : (i : ℕ) (v : A) (w : ℕ × A) → Some (i, v) ≡ Some w → v ≡ w.1
  some_second i v w e = let f : (i, v) ≡ w = cc in ap (λ z. z.1) f

  at_iface_is : (i : ℕ) (o : Option A) (s : ℕ × A) → at_iface i o ≡ Some s → (i ≡ s.0) × (o ≡ Some s.1)
  at_iface_is i None s e = absurd (cc)
  at_iface_is i (Some x) s e = (some_first i x s e, ap Some (some_second i x s e))

module _ {P : Type 0} (room : List P → P → Bool) (tx : P → ℕ) (now : ℕ) where
  offered_busy : (x : P) (d : ℕ) (q : Option (Busy P)) → (offered room tx now x d q).0.busy ≢ None
  offered_busy x d None = λ e. cc
  offered_busy x d (Some b) = go (room b.waiting x)
    where
      go : (z : Bool) → (cond {A = Port P × Option P} z (record { busy = Some (record { completes = b.completes; waiting = b.waiting ++ x ∷ [] }); dropped = d }, None) (record { busy = Some b; dropped = d + 1 }, None)).0.busy ≢ None
      go true = some_none _
      go false = some_none _

  offered_starts : (x : P) (d : ℕ) (q : Option (Busy P)) (y : P) → (offered room tx now x d q).1 ≡ Some y → q ≡ None
  offered_starts x d None y e = refl
  offered_starts x d (Some b) y e = go (room b.waiting x) e
    where
      go : (z : Bool) → (cond {A = Port P × Option P} z (record { busy = Some (record { completes = b.completes; waiting = b.waiting ++ x ∷ [] }); dropped = d }, None) (record { busy = Some b; dropped = d + 1 }, None)).1 ≡ Some y → Some b ≡ None
      go true f = absurd (cc)
      go false f = absurd (cc)

  offered_keeps : (x : P) (d : ℕ) (q : Option (Busy P)) (b : Busy P) → (offered room tx now x d q).0.busy ≡ Some b → ((y : P) × ((offered room tx now x d q).1 ≡ Some y) × (b.completes ≡ now + tx y)) ⊎ ((c : Busy P) × ((offered room tx now x d q).1 ≡ None) × (q ≡ Some c) × (b.completes ≡ c.completes))
  offered_keeps x d None b e = inl (x, refl, ap (λ z. z.completes) (sym (some_inj _ b e)))
  offered_keeps x d (Some c) b e = inr (go (room c.waiting x) e)
    where
      go : (z : Bool) → (cond {A = Port P × Option P} z (record { busy = Some (record { completes = c.completes; waiting = c.waiting ++ x ∷ [] }); dropped = d }, None) (record { busy = Some c; dropped = d + 1 }, None)).0.busy ≡ Some b → (c' : Busy P) × ((cond {A = Port P × Option P} z (record { busy = Some (record { completes = c.completes; waiting = c.waiting ++ x ∷ [] }); dropped = d }, None) (record { busy = Some c; dropped = d + 1 }, None)).1 ≡ None) × (Some c ≡ Some c') × (b.completes ≡ c'.completes)
      go true f = (c, refl, refl, ap (λ z. z.completes) (sym (some_inj _ b f)))
      go false f = (c, refl, refl, ap (λ z. z.completes) (sym (some_inj _ b f)))

  next_starts : (d : ℕ) (q : List P) (y : P) → (next_transmitting tx now d q).1 ≡ Some y → (next_transmitting tx now d q).0.busy ≢ None
  next_starts d [] y e = absurd (cc)
  next_starts d (x ∷ q) y e = some_none _

  completed_starts : (d : ℕ) (q : Option (Busy P)) (y : P) → (completed tx now d q).1 ≡ Some y → (completed tx now d q).0.busy ≢ None
  completed_starts d None y e = absurd (cc)
  completed_starts d (Some b) y e = next_starts d b.waiting y e

  next_keeps : (d : ℕ) (q : List P) (b : Busy P) → (next_transmitting tx now d q).0.busy ≡ Some b → (y : P) × ((next_transmitting tx now d q).1 ≡ Some y) × (b.completes ≡ now + tx y)
  next_keeps d [] b e = absurd (cc)
  next_keeps d (x ∷ q) b e = (x, refl, ap (λ z. z.completes) (sym (some_inj _ b e)))

  completed_keeps : (d : ℕ) (q : Option (Busy P)) (b : Busy P) → (completed tx now d q).0.busy ≡ Some b → (y : P) × ((completed tx now d q).1 ≡ Some y) × (b.completes ≡ now + tx y)
  completed_keeps d None b e = absurd (cc)
  completed_keeps d (Some c) b e = next_keeps d c.waiting b e

module _ {P N : Type 0} (net : Net P N) (ports : ℕ → Port P) (time : ℕ) (place : Place) (number : ℕ) (event : Event P) (came : Option (ℕ × P)) (came_is : (a : ℕ × P) → came ≡ Some a → (place ≡ Arrive a.0) × (event ≡ Delivery (Arrival a.0) a.1)) (came_has : (i : ℕ) (x : P) → place ≡ Arrive i → event ≡ Delivery (Arrival i) x → came ≡ Some (i, x)) (other : (i : ℕ) → place ≡ Complete i → event ≡ Completion i → ⊥) where
  no_send : (n : N) (follows : Option (ℕ × ℕ × P)) → ((f : ℕ × ℕ × P) → follows ≡ Some f → (place ≡ Fire f.0) × (net.source f.0 (suc number) ≡ Some (f.1, f.2))) → EffectIs net ports time place number event (sent_on net ports time came n None follows)
  no_send n follows h = record {
    turn_owner = λ w e. absurd (cc);
    transmission_turn = λ s e. absurd (cc);
    transmission_free = λ s e. absurd (cc);
    turn_idle = λ w e i. absurd (cc);
    turn_busy = λ w e b i. absurd (cc);
    completes = λ i e f. absurd (other i e f);
    follows_is = h;
    came_is = came_is;
    came_has = came_has;
  }

  one_send : (n : N) (t : ℕ × P) (follows : Option (ℕ × ℕ × P)) → net.owner t.0 ≡ node_of net place → ((f : ℕ × ℕ × P) → follows ≡ Some f → (place ≡ Fire f.0) × (net.source f.0 (suc number) ≡ Some (f.1, f.2))) → EffectIs net ports time place number event (sent_on net ports time came n (Some t) follows)
  one_send n t follows own h =
      let r = offered (net.room t.0) (net.tx t.0) time t.1 (ports t.0).dropped (ports t.0).busy in
      let full = offered_busy (net.room t.0) (net.tx t.0) time t.1 (ports t.0).dropped (ports t.0).busy in
      record {
        turn_owner = λ w e. ap net.owner (sym (some_first t.0 r.0 w e)) ∙ own;
        transmission_turn = λ s e. let a = at_iface_is t.0 r.1 s e in (r.0, ap (λ i. Some (i, r.0)) a.0, full);
        transmission_free = λ s e. let a = at_iface_is t.0 r.1 s e in inl (ap (λ i. (ports i).busy) (sym a.0) ∙ offered_starts (net.room t.0) (net.tx t.0) time t.1 (ports t.0).dropped (ports t.0).busy s.1 a.1);
        turn_idle = λ w e i. absurd (full (ap (λ z. z.busy) (some_second t.0 r.0 w e) ∙ i));
        turn_busy = λ w e b i. keeps w.0 (some_first t.0 r.0 w e) b (offered_keeps (net.room t.0) (net.tx t.0) time t.1 (ports t.0).dropped (ports t.0).busy b (ap (λ z. z.busy) (some_second t.0 r.0 w e) ∙ i));
        completes = λ i e f. absurd (other i e f);
        follows_is = h;
        came_is = came_is;
        came_has = came_has;
      }
    where
      o : Port P × Option P
      o = offered (net.room t.0) (net.tx t.0) time t.1 (ports t.0).dropped (ports t.0).busy

      keeps : (v : ℕ) → t.0 ≡ v → (b : Busy P) → ((y : P) × ((offered (net.room t.0) (net.tx t.0) time t.1 (ports t.0).dropped (ports t.0).busy).1 ≡ Some y) × (b.completes ≡ time + net.tx t.0 y)) ⊎ ((c : Busy P) × ((offered (net.room t.0) (net.tx t.0) time t.1 (ports t.0).dropped (ports t.0).busy).1 ≡ None) × ((ports t.0).busy ≡ Some c) × (b.completes ≡ c.completes)) → ((x : P) × (at_iface t.0 (offered (net.room t.0) (net.tx t.0) time t.1 (ports t.0).dropped (ports t.0).busy).1 ≡ Some (v, x)) × (b.completes ≡ time + net.tx v x)) ⊎ ((c : Busy P) × (at_iface t.0 (offered (net.room t.0) (net.tx t.0) time t.1 (ports t.0).dropped (ports t.0).busy).1 ≡ None) × ((ports v).busy ≡ Some c) × (b.completes ≡ c.completes) × (place ≡ Complete v → event ≡ Completion v → ⊥))
      keeps v e b (inl a) = inl (a.0, ap (at_iface t.0) a.1 ∙ ap (λ i. Some (i, a.0)) e, a.2 ∙ ap (λ i. time + net.tx i a.0) e)
      keeps v e b (inr a) = inr (a.0, ap (at_iface t.0) a.1, ap (λ i. (ports i).busy) (sym e) ∙ a.2, a.3, other v)

  reacted_is : (r : N × Option (ℕ × P)) (follows : Option (ℕ × ℕ × P)) → ((s : ℕ × P) → r.1 ≡ Some s → net.owner s.0 ≡ node_of net place) → ((f : ℕ × ℕ × P) → follows ≡ Some f → (place ≡ Fire f.0) × (net.source f.0 (suc number) ≡ Some (f.1, f.2))) → EffectIs net ports time place number event (reacted net ports time came r follows)
  reacted_is r follows own h = go r.1 own
    where
      go : (o : Option (ℕ × P)) → ((s : ℕ × P) → o ≡ Some s → net.owner s.0 ≡ node_of net place) → EffectIs net ports time place number event (sent_on net ports time came r.0 o follows)
      go None own = no_send r.0 follows h
      go (Some t) own = one_send r.0 t follows (own t refl) h

module _ {P N : Type 0} (net : Net P N) (ports : ℕ → Port P) (time : ℕ) where
  complete_is : (i number : ℕ) (n : N) → EffectIs net ports time (Complete i) number (Completion i) (turned_by net None n i (completed (net.tx i) time (ports i).dropped (ports i).busy) None)
  complete_is i number n =
      let r = completed (net.tx i) time (ports i).dropped (ports i).busy in
      record {
        turn_owner = λ w e. ap net.owner (sym (some_first i r.0 w e));
        transmission_turn = λ s e. let a = at_iface_is i r.1 s e in (r.0, ap (λ j. Some (j, r.0)) a.0, completed_starts (net.room i) (net.tx i) time (ports i).dropped (ports i).busy s.1 a.1);
        transmission_free = λ s e. let a = at_iface_is i r.1 s e in inr (ap Complete a.0);
        turn_idle = λ w e z. ap Complete (some_first i r.0 w e);
        turn_busy = λ w e b z.
            let k = completed_keeps (net.room i) (net.tx i) time (ports i).dropped (ports i).busy b (ap (λ v. v.busy) (some_second i r.0 w e) ∙ z) in
            let f = some_first i r.0 w e in
            inl (k.0, ap (at_iface i) k.1 ∙ ap (λ j. Some (j, k.0)) f, k.2 ∙ ap (λ j. time + net.tx j k.0) f);
        completes = λ j e f. (r.0, ap (λ z. Some (z, r.0)) (let g : i ≡ j = cc in g));
        follows_is = λ f e. absurd (cc);
        came_is = λ a e. absurd (cc);
        came_has = λ j x e f. absurd (cc);
      }

module _ {P N : Type 0} (net : Net P N) where
  by_source_is : (j number : ℕ) (o : Option (ℕ × P)) → net.source j (suc number) ≡ o → (f : ℕ × ℕ × P) → by_source j o ≡ Some f → (Fire j ≡ Fire f.0) × (net.source f.0 (suc number) ≡ Some (f.1, f.2))
  by_source_is j number None h f e = absurd (cc)
  by_source_is j number (Some a) h f e =
      let g : f ≡ (j, a.0, a.1) = cc in
      (ap (λ z. Fire z.0) (sym g), ap (λ z. net.source z.0 (suc number)) g ∙ h ∙ ap (λ z. Some (z.1, z.2)) (sym g))

  -- at the place of the event
  effect_at : IsNet net → (nodes : ℕ → N) (ports : ℕ → Port P) (time number : ℕ) (event : Event P) → EffectIs net ports time (event_place event) number event (effect net nodes ports time number event)
  effect_at ok nodes ports time number (Delivery (Arrival i) x) = reacted_is net ports time (Arrive i) number (Delivery (Arrival i) x) (Some (i, x)) (λ a e. (ap Arrive (some_first i x a e), ap₂ (λ u v. Delivery (Arrival u) v) (some_first i x a e) (some_second i x a e))) (λ j y e f. (let g : i ≡ j = cc in let h : x ≡ y = cc in ap₂ (λ u v. Some (u, v)) g h)) (λ j e f. absurd (cc)) (net.react (net.owner i) (nodes (net.owner i)) (Arrival i) x) None (λ s e. ok.own (net.owner i) (nodes (net.owner i)) (Arrival i) x s e) (λ f e. absurd (cc))
  effect_at ok nodes ports time number (Delivery (Source j) x) = reacted_is net ports time (Fire j) number (Delivery (Source j) x) None (λ a e. absurd (cc)) (λ i y e f. absurd (cc)) (λ i e f. absurd (cc)) (net.react (net.source_node j) (nodes (net.source_node j)) (Source j) x) (by_source j (net.source j (suc number))) (λ s e. ok.own (net.source_node j) (nodes (net.source_node j)) (Source j) x s e) (by_source_is j number (net.source j (suc number)) refl)
  effect_at ok nodes ports time number (Completion i) = complete_is net ports time i number _

  pub effect_is : IsNet net → (nodes : ℕ → N) (ports : ℕ → Port P) (time : ℕ) (place : Place) (number : ℕ) (event : Event P) → place ≡ event_place event → EffectIs net ports time place number event (effect net nodes ports time number event)
  effect_is ok nodes ports time place number event placed = subst (λ q. EffectIs net ports time q number event (effect net nodes ports time number event)) (sym placed) (effect_at ok nodes ports time number event)

-- the frame law: an effect reads its node's state and that node's ports alone
module _ {P N : Type 0} (net : Net P N) (ports there : ℕ → Port P) (time : ℕ) where
  reacted_local : (came : Option (ℕ × P)) (v : ℕ) (r : N × Option (ℕ × P)) (follows : Option (ℕ × ℕ × P)) → ((s : ℕ × P) → r.1 ≡ Some s → net.owner s.0 ≡ v) → ((i : ℕ) → net.owner i ≡ v → ports i ≡ there i) → reacted net ports time came r follows ≡ reacted net there time came r follows
  reacted_local came v r follows own same = go r.1 own
    where
      go : (o : Option (ℕ × P)) → ((s : ℕ × P) → o ≡ Some s → net.owner s.0 ≡ v) → sent_on net ports time came r.0 o follows ≡ sent_on net there time came r.0 o follows
      go None own = refl
      go (Some t) own = ap (λ w. turned_by net came r.0 t.0 (offered (net.room t.0) (net.tx t.0) time t.1 w.dropped w.busy) follows) (same t.0 (own t refl))

  local_at : IsNet net → (nodes others : ℕ → N) (number : ℕ) (event : Event P) → nodes (node_of net (event_place event)) ≡ others (node_of net (event_place event)) → ((i : ℕ) → net.owner i ≡ node_of net (event_place event) → ports i ≡ there i) → effect net nodes ports time number event ≡ effect net others there time number event
  local_at ok nodes others number (Delivery (Arrival i) x) e same =
      ap (λ n. reacted net ports time (Some (i, x)) (net.react (net.owner i) n (Arrival i) x) None) e
      ∙ reacted_local (Some (i, x)) (net.owner i) (net.react (net.owner i) (others (net.owner i)) (Arrival i) x) None (λ s h. ok.own (net.owner i) (others (net.owner i)) (Arrival i) x s h) same
  local_at ok nodes others number (Delivery (Source j) x) e same =
      ap (λ n. reacted net ports time None (net.react (net.source_node j) n (Source j) x) (by_source j (net.source j (suc number)))) e
      ∙ reacted_local None (net.source_node j) (net.react (net.source_node j) (others (net.source_node j)) (Source j) x) (by_source j (net.source j (suc number))) (λ s h. ok.own (net.source_node j) (others (net.source_node j)) (Source j) x s h) same
  local_at ok nodes others number (Completion i) e same =
      ap₂ (λ n w. turned_by net None n i (completed (net.tx i) time w.dropped w.busy) None) e (same i refl)

  pub effect_local : IsNet net → (nodes others : ℕ → N) (place : Place) (number : ℕ) (event : Event P) → place ≡ event_place event → nodes (node_of net place) ≡ others (node_of net place) → ((i : ℕ) → net.owner i ≡ node_of net place → ports i ≡ there i) → effect net nodes ports time number event ≡ effect net others there time number event
  effect_local ok nodes others place number event placed e same = local_at ok nodes others number event
      (subst (λ q. nodes (node_of net q) ≡ others (node_of net q)) placed e)
      (λ i f. same i (f ∙ ap (node_of net) (sym placed)))
