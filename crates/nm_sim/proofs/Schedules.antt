-- What an event makes is new, and stands at places of the topology.
use Rattle.std.proofs.Common.{◌≡◌, ◌≢◌, ℕ, zero, suc, ◌+◌, ◌<◌, ◌≤◌, Bool, true, false, cond, List, [], ◌∷◌, ◌++◌, length, Option, Some, None, refl, sym, ap, ◌∙◌, subst, arith, ⊎_elim, length-append}
use Rattle.std.specs.FinMap.{FinMap, get, insert, remove}
use Rattle.std.specs.Option.{IfSome}
use Rattle.nm_base.specs.declared.event.Event.{Event}
use Rattle.nm_base.specs.declared.key.Key.{Key}
use Rattle.nm_base.specs.declared.key.Place.{Place}
use Rattle.nm_base.specs.declared.key.Place.TheVariants.{Arrive, Complete, Fire}
use Rattle.nm_base.specs.declared.event.Event.TheVariants.{Delivery}
use Rattle.nm_base.specs.declared.event.Origin.TheVariants.{Source}
use Rattle.nm_base.specs.Key.{key_cmp, key_of}
use Rattle.nm_topology.specs.Accepted.{IsInOrder}
use Rattle.nm_topology.specs.TopologyValue.{TopologyValue}
use Rattle.nm_model.specs.EventList.{schedule}
use Rattle.nm_model.specs.Lists.{nth, set_at}
use Rattle.nm_model.specs.Run.{next_events, sent_after, transmission_events}
use Rattle.nm_sim.specs.Effects.{IsPlaceIn}
use Rattle.nm_sim.specs.Network.{net_of}
use Rattle.nm_sim.specs.Timelines.{AreFresh, everywhere}
use Rattle.nm_sim.proofs.Beginnings.{far_end_is}
use Rattle.nm_model.proofs.Keys.{insert_other, key_decides, remove_other, remove_same}
use Rattle.nm_model.proofs.ListLemmas.{same_number, set_here, set_there, some_inj}
use Rattle.std.proofs.lemmas.Option.{slice_get_cases}

nth_after : {A : Type 0} (xs ys : List A) (m : ℕ) → nth (xs ++ ys) (length xs + m) ≡ nth ys m
nth_after {A} [] ys m = let e : length {A = A} [] + m ≡ m = omega arith in ap (nth ys) e
nth_after (x ∷ xs) ys m = let e : length (x ∷ xs) + m ≡ suc (length xs + m) = omega arith in ap (nth (x ∷ xs ++ ys)) e ∙ nth_after xs ys m

nth_before : {A : Type 0} (xs ys : List A) (m : ℕ) (x : A) → nth xs m ≡ Some x → (m < length xs) × (nth (xs ++ ys) m ≡ Some x)
nth_before [] ys m x e = absurd cc
nth_before (y ∷ xs) ys zero x e = (omega arith, e)
nth_before (y ∷ xs) ys (suc m) x e = let h = nth_before xs ys m x e in (omega (arith, h.0), h.1)

pub schedule_append : (here : Place → Bool) (xs ys : List (Key × Event (List ℕ))) (m : FinMap key_cmp (Event (List ℕ)))
    → schedule here (xs ++ ys) m ≡ schedule here xs (schedule here ys m)
schedule_append here [] ys m = refl
schedule_append here (x ∷ xs) ys m = ap (λ l. cond (here x.0.place) (insert l x.0 x.1) l) (schedule_append here xs ys m)

-- what follows at a place that is here
pub next_here : (here : Place → Bool) (number : ℕ) (o : Option (ℕ × ℕ × List ℕ)) (m : FinMap key_cmp (Event (List ℕ))) → IfSome o (λ f. here (Fire f.0) ≡ true)
    → schedule everywhere (next_events number o) m ≡ schedule here (next_events number o) m
next_here here number None m h = refl
next_here here number (Some f) m h = sym (ap (λ b. cond b (insert m (key_of f.1 (Fire f.0) (suc number)) (Delivery (Source f.0) f.2)) m) h)

-- events in two lists, of which the second is that of a source, are new one after another
module _ (pending : FinMap key_cmp (Event (List ℕ))) (xs : List (Key × Event (List ℕ))) (number : ℕ) (follows : Option (ℕ × ℕ × List ℕ))
    (fresh : AreFresh pending (xs ++ next_events number follows))
    (apart : (m n : ℕ) (f g : Key × Event (List ℕ)) → m < n → nth (xs ++ next_events number follows) m ≡ Some f
    → nth (xs ++ next_events number follows) n ≡ Some g → f.0 ≢ g.0) where
  pub second_fresh : AreFresh pending (next_events number follows)
  second_fresh m f e = fresh (length xs + m) f (nth_after xs (next_events number follows) m ∙ e)

  pub first_fresh : AreFresh (schedule everywhere (next_events number follows) pending) xs
  first_fresh m f e =
      let b = nth_before xs (next_events number follows) m f e in
      go follows refl (fresh m f b.1)
      (λ g h. apart m (length xs + 0) f g (omega (arith, b.0)) b.1 (nth_after xs (next_events number follows) 0 ∙ h))
    where
      go : (o : Option (ℕ × ℕ × List ℕ)) → o ≡ follows → get pending f.0 ≡ None → ((g : Key × Event (List ℕ)) → nth (next_events number o) 0 ≡ Some g → f.0 ≢ g.0)
          → get (schedule everywhere (next_events number o) pending) f.0 ≡ None
      go None h n a = n
      go (Some y) h n a = insert_other pending _ _ f.0 (a _ refl) ∙ n

-- whatever is pending after events are put stands at one of the places
module _ (P : Place → Type 0) where
  pub placed_insert : (m : FinMap key_cmp (Event (List ℕ))) (k : Key) (v : Event (List ℕ)) → P k.place
      → ((q : Key) (y : Event (List ℕ)) → get m q ≡ Some y → P q.place)
      → (q : Key) (y : Event (List ℕ)) → get (insert m k v) q ≡ Some y → P q.place
  placed_insert m k v p h q y e = ⊎_elim
      (λ same. subst (λ z. P z.place) (sym same) p)
      (λ other. h q y (sym (insert_other m k v q other) ∙ e))
      (key_decides q k)

  pub placed_schedule : (here : Place → Bool) (es : List (Key × Event (List ℕ))) (m : FinMap key_cmp (Event (List ℕ)))
      → ((i : ℕ) (f : Key × Event (List ℕ)) → nth es i ≡ Some f → P f.0.place)
      → ((q : Key) (y : Event (List ℕ)) → get m q ≡ Some y → P q.place)
      → (q : Key) (y : Event (List ℕ)) → get (schedule here es m) q ≡ Some y → P q.place
  placed_schedule here [] m h k q y e = k q y e
  placed_schedule here (x ∷ es) m h k q y e = go (placed_schedule here es m (λ i f g. h (suc i) f g) k) (here x.0.place) e
    where
      go : ((r : Key) (z : Event (List ℕ)) → get (schedule here es m) r ≡ Some z → P r.place)
          → (b : Bool) → get (cond b (insert (schedule here es m) x.0 x.1) (schedule here es m)) q ≡ Some y → P q.place
      go rest true g = placed_insert (schedule here es m) x.0 x.1 (h 0 x refl) rest q y g
      go rest false g = rest q y g

  pub placed_remove : (m : FinMap key_cmp (Event (List ℕ))) (r : Key) → ((q : Key) (y : Event (List ℕ)) → get m q ≡ Some y → P q.place)
      → (q : Key) (y : Event (List ℕ)) → get (remove m r) q ≡ Some y → P q.place
  placed_remove m r k q y e = ⊎_elim
      (λ same. absurd (let n = remove_same m r in let z : get (remove m r) r ≡ Some y = ap (get (remove m r)) (sym same) ∙ e in cc))
      (λ other. k q y (sym (remove_other m r q other) ∙ e))
      (key_decides q r)

module _ (t : TopologyValue) (order : IsInOrder t.nodes t.ifaces t.links) where
  far_end_there : (i : ℕ) → i < length t.ifaces → (net_of t).far_end i < length t.ifaces
  far_end_there i h = ⊎_elim
      (λ g. subst (λ p. p < length t.ifaces) (sym (far_end_is t i g.0 g.2)) (order.linked i g.0 g.2).within)
      (λ g. absurd (omega (arith, g.0, h)))
      ((slice_get_cases t.ifaces i).1)

  pub placed_transmission : (time : ℕ) (sent : ℕ → List (ℕ × List ℕ)) (o : Option (ℕ × List ℕ)) → IfSome o (λ z. z.0 < length t.ifaces)
      → (i : ℕ) (f : Key × Event (List ℕ)) → nth (transmission_events (net_of t) time sent o) i ≡ Some f → IsPlaceIn t f.0.place
  placed_transmission time sent None h i f e = absurd cc
  placed_transmission time sent (Some z) h zero f e = let s : Complete z.0 ≡ f.0.place = ap (λ (g : Key × Event (List ℕ)). g.0.place) (some_inj _ f e) in subst (IsPlaceIn t) s h
  placed_transmission time sent (Some z) h (suc zero) f e = let s : Arrive ((net_of t).far_end z.0) ≡ f.0.place = ap (λ (g : Key × Event (List ℕ)). g.0.place) (some_inj _ f e) in subst (IsPlaceIn t) s (far_end_there z.0 h)
  placed_transmission time sent (Some z) h (suc (suc i)) f e = absurd cc

pub placed_next : (P : Place → Type 0) (number : ℕ) (o : Option (ℕ × ℕ × List ℕ)) → IfSome o (λ f. P (Fire f.0))
    → (i : ℕ) (f : Key × Event (List ℕ)) → nth (next_events number o) i ≡ Some f → P f.0.place
placed_next P number None h i f e = absurd cc
placed_next P number (Some z) h zero f e = let s : Fire z.0 ≡ f.0.place = ap (λ (g : Key × Event (List ℕ)). g.0.place) (some_inj _ f e) in subst P s h
placed_next P number (Some z) h (suc i) f e = absurd cc

-- one more packet at most is put on an interface
pub one_more : (t : TopologyValue) (time n : ℕ) (sent : ℕ → List (ℕ × List ℕ)) (o : Option (ℕ × List ℕ)) → ((c : ℕ) → length (sent c) ≤ n)
    → (c : ℕ) → length (sent_after (net_of t) time sent o c) ≤ n + 1
one_more t time n sent None h c = let l = h c in omega arith
one_more t time n sent (Some z) h c = ⊎_elim
    (λ same. let l = h ((net_of t).far_end z.0) in
    let e = ap (λ j. length (set_at sent ((net_of t).far_end z.0) put j)) same ∙ ap length (set_here sent ((net_of t).far_end z.0) put) ∙ length-append (sent ((net_of t).far_end z.0)) (message ∷ []) in
    omega (arith, l, e))
    (λ other. let l = h c in let e = ap length (set_there sent ((net_of t).far_end z.0) put c other) in omega (arith, l, e))
    (same_number c ((net_of t).far_end z.0))
  where
    message : ℕ × List ℕ
    message = (time + (net_of t).tx z.0 z.1 + (net_of t).delay z.0, z.1)

    put : List (ℕ × List ℕ)
    put = sent ((net_of t).far_end z.0) ++ message ∷ []
