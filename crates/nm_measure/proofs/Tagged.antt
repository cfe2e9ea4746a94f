-- The run over packets with tags, one event later.
use Rattle.std.proofs.Common.{◌≡◌, ◌≢◌, ℕ, zero, suc, ◌+◌, ◌≤◌, Bool, true, false, cond, List, [], ◌∷◌, ◌++◌, map, length, drop, Option, Some, None, refl, sym, ap, ◌∙◌, subst, ⊎_elim}
use Rattle.std.proofs.lemmas.List.{drop-append-le, map-append}
use Rattle.nm_model.specs.Lists.{nth, set_at}
use Rattle.nm_model.specs.Network.{IsNet, Net}
use Rattle.nm_model.specs.Offers.{offering_at, offering_of}
use Rattle.nm_model.specs.Port.{Busy, Port, offered, waiting_of}
use Rattle.nm_model.specs.Run.{sent_after, sent_on, turned, turned_by}
use Rattle.nm_model.specs.declared.offering.Offering.TheVariants.{Waits, Dropped}
use Rattle.nm_model.proofs.ListLemmas.{not_some, same_number, set_here, set_there, some_inj}
use Rattle.nm_measure.specs.declared.tag.Tag.{Tag}
use Rattle.nm_measure.specs.Lanes.{with_offer}

-- a list from a place on
pub drop_nth : {X : Type 0} (xs : List X) (n : ℕ) (y : X) → nth xs n ≡ Some y → drop n xs ≡ y ∷ drop (suc n) xs
drop_nth [] n y e = absurd (not_some y e)
drop_nth (x ∷ xs) zero y e = ap (λ z. z ∷ xs) (some_inj x y e)
drop_nth (x ∷ xs) (suc n) y e = drop_nth xs n y e

module _ {P N : Type 0} (net : Net (Tag × P) N) where
  -- the tags at each interface
  abbrev pub lanes_of : (ℕ → Port (Tag × P)) → (ℕ → List (ℕ × (Tag × P))) → (ℕ → ℕ) → ℕ → List Tag × List Tag
  lanes_of ports sent arrived i = (
    map (λ m. m.1.0) (drop (arrived (net.far_end i)) (sent (net.far_end i))),
    map (λ x. x.0) (waiting_of (ports i).busy),
  )

  far_apart : IsNet net → (i k : ℕ) → i ≢ k → net.far_end i ≢ net.far_end k
  far_apart ok i k apart same = apart (sym (ok.twice i) ∙ ap net.far_end same ∙ ok.twice k)

  -- a packet arrives at interface c
  pub lanes_arrived : IsNet net → (ports : ℕ → Port (Tag × P)) (sent : ℕ → List (ℕ × (Tag × P))) (arrived : ℕ → ℕ) (c : ℕ) (m : ℕ × (Tag × P)) → nth (sent c) (arrived c) ≡ Some m
      → (on : List Tag) × ((lanes_of ports sent arrived (net.far_end c)).0 ≡ m.1.0 ∷ on)
      × ((i : ℕ) → lanes_of ports sent (set_at arrived c (suc (arrived c))) i ≡ set_at (lanes_of ports sent arrived) (net.far_end c) (on, (lanes_of ports sent arrived (net.far_end c)).1) i)
  lanes_arrived ok ports sent arrived c m at = (on, first, each)
    where
      on : List Tag
      on = map (λ m. m.1.0) (drop (suc (arrived c)) (sent c))

      first : (lanes_of ports sent arrived (net.far_end c)).0 ≡ m.1.0 ∷ on
      first = ap (λ d. map (λ (z : ℕ × (Tag × P)). z.1.0) (drop (arrived d) (sent d))) (ok.twice c) ∙ ap (map (λ (z : ℕ × (Tag × P)). z.1.0)) (drop_nth (sent c) (arrived c) m at)

      each : (i : ℕ) → lanes_of ports sent (set_at arrived c (suc (arrived c))) i ≡ set_at (lanes_of ports sent arrived) (net.far_end c) (on, (lanes_of ports sent arrived (net.far_end c)).1) i
      each i = ⊎_elim
          (λ (eq : i ≡ net.far_end c).
          subst (λ k. lanes_of ports sent (set_at arrived c (suc (arrived c))) k ≡ set_at (lanes_of ports sent arrived) (net.far_end c) (on, (lanes_of ports sent arrived (net.far_end c)).1) k) (sym eq)
          (ap (λ d. (map (λ (z : ℕ × (Tag × P)). z.1.0) (drop (set_at arrived c (suc (arrived c)) d) (sent d)), map (λ (x : Tag × P). x.0) (waiting_of (ports (net.far_end c)).busy))) (ok.twice c)
          ∙ ap (λ n. (map (λ (z : ℕ × (Tag × P)). z.1.0) (drop n (sent c)), map (λ (x : Tag × P). x.0) (waiting_of (ports (net.far_end c)).busy))) (set_here arrived c (suc (arrived c)))
          ∙ sym (set_here (lanes_of ports sent arrived) (net.far_end c) _)))
          (λ apart.
          ap (λ n. (map (λ (z : ℕ × (Tag × P)). z.1.0) (drop n (sent (net.far_end i))), map (λ (x : Tag × P). x.0) (waiting_of (ports i).busy)))
          (set_there arrived c (suc (arrived c)) (net.far_end i) (λ e. apart (sym (ok.twice i) ∙ ap net.far_end e)))
          ∙ sym (set_there (lanes_of ports sent arrived) (net.far_end c) _ i apart))
          (same_number i (net.far_end c))

  module _ (ok : IsNet net) (ports : ℕ → Port (Tag × P)) (sent : ℕ → List (ℕ × (Tag × P))) (arrived : ℕ → ℕ) (low : (c : ℕ) → arrived c ≤ length (sent c)) where
    -- the transmission of a packet starts at interface k, where then so many wait
    pub lanes_started : (k time : ℕ) (w : Port (Tag × P)) (x : Tag × P) (i : ℕ)
        → lanes_of (set_at ports k w) (set_at sent (net.far_end k) (sent (net.far_end k) ++ (time, x) ∷ [])) arrived i
        ≡ set_at (lanes_of ports sent arrived) k ((lanes_of ports sent arrived k).0 ++ x.0 ∷ [], map (λ z. z.0) (waiting_of w.busy)) i
    lanes_started k time w x i = ⊎_elim
        (λ (eq : i ≡ k). subst (λ m. lanes_of (set_at ports k w) put arrived m ≡ set_at (lanes_of ports sent arrived) k new m) (sym eq) (here ∙ sym (set_here (lanes_of ports sent arrived) k new)))
        (λ apart.
        (λ j. (map (λ (z : ℕ × (Tag × P)). z.1.0) (drop (arrived (net.far_end i)) (set_there sent (net.far_end k) longer (net.far_end i) (far_apart ok i k apart) j)), map (λ (z : Tag × P). z.0) (waiting_of (set_there ports k w i apart j).busy)))
        ∙ sym (set_there (lanes_of ports sent arrived) k new i apart))
        (same_number i k)
      where
        longer : List (ℕ × (Tag × P))
        longer = sent (net.far_end k) ++ (time, x) ∷ []

        put : ℕ → List (ℕ × (Tag × P))
        put = set_at sent (net.far_end k) (sent (net.far_end k) ++ (time, x) ∷ [])

        new : List Tag × List Tag
        new = ((lanes_of ports sent arrived k).0 ++ x.0 ∷ [], map (λ z. z.0) (waiting_of w.busy))

        here : lanes_of (set_at ports k w) put arrived k ≡ new
        here = (λ j. (map (λ (z : ℕ × (Tag × P)). z.1.0) (drop (arrived (net.far_end k)) (set_here sent (net.far_end k) longer j)), map (λ (z : Tag × P). z.0) (waiting_of (set_here ports k w j).busy)))
            ∙ ap (λ l. (l, map (λ (z : Tag × P). z.0) (waiting_of w.busy)))
            (ap (map (λ (z : ℕ × (Tag × P)). z.1.0)) (drop-append-le (arrived (net.far_end k)) (sent (net.far_end k)) ((time, x) ∷ []) (low (net.far_end k)))
            ∙ map-append (λ (z : ℕ × (Tag × P)). z.1.0) (drop (arrived (net.far_end k)) (sent (net.far_end k))) ((time, x) ∷ []))

    -- only what waits at interface k is another
    pub lanes_turned : (k : ℕ) (w : Port (Tag × P)) (i : ℕ)
        → lanes_of (set_at ports k w) sent arrived i ≡ set_at (lanes_of ports sent arrived) k ((lanes_of ports sent arrived k).0, map (λ z. z.0) (waiting_of w.busy)) i
    lanes_turned k w i = ⊎_elim
        (λ (eq : i ≡ k). subst (λ m. lanes_of (set_at ports k w) sent arrived m ≡ set_at (lanes_of ports sent arrived) k new m) (sym eq)
        (ap (λ (v : Port (Tag × P)). ((lanes_of ports sent arrived k).0, map (λ z. z.0) (waiting_of v.busy))) (set_here ports k w) ∙ sym (set_here (lanes_of ports sent arrived) k new)))
        (λ apart. ap (λ (v : Port (Tag × P)). ((lanes_of ports sent arrived i).0, map (λ z. z.0) (waiting_of v.busy))) (set_there ports k w i apart) ∙ sym (set_there (lanes_of ports sent arrived) k new i apart))
        (same_number i k)
      where
        new : List Tag × List Tag
        new = ((lanes_of ports sent arrived k).0, map (λ z. z.0) (waiting_of w.busy))

    -- as it was
    pub set_as : {A : Type 0} (f : ℕ → A) (k : ℕ) (v : A) → v ≡ f k → (i : ℕ) → set_at f k v i ≡ f i
    set_as f k v same i = ⊎_elim
        (λ (eq : i ≡ k). subst (λ m. set_at f k v m ≡ f m) (sym eq) (set_here f k v ∙ same))
        (λ apart. set_there f k v i apart)
        (same_number i k)

    -- what a node sends is offered
    pub lanes_offered : (time : ℕ) (came : Option (ℕ × (Tag × P))) (n : N) (out : Option (ℕ × (Tag × P))) (follows : Option (ℕ × ℕ × (Tag × P))) (tag : Tag)
        → ((x : ℕ × (Tag × P)) → out ≡ Some x → x.1.0 ≡ tag) → (i : ℕ)
        → lanes_of (turned ports (sent_on net ports time came n out follows).turn) (sent_after net time sent (sent_on net ports time came n out follows).transmission) arrived i
        ≡ with_offer (offering_of net ports out) tag (lanes_of ports sent arrived) i
    lanes_offered time came n None follows tag is i = refl
    lanes_offered time came n (Some s) follows tag is i = by_busy (ports s.0).busy refl
      where
        k : ℕ
        k = s.0

        states : Option (Busy (Tag × P)) → Type 0
        states o =
            lanes_of (turned ports (turned_by net came n s.0 (offered (net.room s.0) (net.tx s.0) time s.1 (ports s.0).dropped o) follows).turn)
            (sent_after net time sent (turned_by net came n s.0 (offered (net.room s.0) (net.tx s.0) time s.1 (ports s.0).dropped o) follows).transmission) arrived i
            ≡ with_offer (offering_at (net.room s.0) s.0 s.1 o) tag (lanes_of ports sent arrived) i

        with_room : (b : Busy (Tag × P)) → (ports s.0).busy ≡ Some b → (q : Bool)
            → lanes_of (turned ports (turned_by net came n s.0 (cond q (record { busy = Some (record { completes = b.completes; waiting = b.waiting ++ s.1 ∷ [] }); dropped = (ports s.0).dropped }, None) (record { busy = Some b; dropped = (ports s.0).dropped + 1 }, None)) follows).turn)
            (sent_after net time sent (turned_by net came n s.0 (cond q (record { busy = Some (record { completes = b.completes; waiting = b.waiting ++ s.1 ∷ [] }); dropped = (ports s.0).dropped }, None) (record { busy = Some b; dropped = (ports s.0).dropped + 1 }, None)) follows).transmission) arrived i
            ≡ with_offer (cond q (Waits s.0) (Dropped s.0)) tag (lanes_of ports sent arrived) i
        with_room b e true = lanes_turned s.0 (record { busy = Some (record { completes = b.completes; waiting = b.waiting ++ s.1 ∷ [] }); dropped = (ports s.0).dropped }) i
            ∙ ap (λ l. set_at (lanes_of ports sent arrived) s.0 ((lanes_of ports sent arrived s.0).0, l) i)
            (map-append (λ (z : Tag × P). z.0) b.waiting (s.1 ∷ []) ∙ (λ j. map (λ (z : Tag × P). z.0) (waiting_of (sym e j)) ++ is s refl j ∷ []))
        with_room b e false = lanes_turned s.0 (record { busy = Some b; dropped = (ports s.0).dropped + 1 }) i
            ∙ set_as (lanes_of ports sent arrived) s.0 ((lanes_of ports sent arrived s.0).0, map (λ z. z.0) b.waiting) (ap (λ o. ((lanes_of ports sent arrived s.0).0, map (λ (z : Tag × P). z.0) (waiting_of o))) (sym e)) i

        by_busy : (o : Option (Busy (Tag × P))) → (ports s.0).busy ≡ o → states (ports s.0).busy
        by_busy None e = subst states (sym e) (lanes_started s.0 _ _ s.1 i
            ∙ (λ j. set_at (lanes_of ports sent arrived) s.0 ((lanes_of ports sent arrived s.0).0 ++ is s refl j ∷ [], map (λ (z : Tag × P). z.0) (waiting_of (sym e j))) i))
        by_busy (Some b) e = subst states (sym e) (with_room b e (net.room s.0 b.waiting s.1))
