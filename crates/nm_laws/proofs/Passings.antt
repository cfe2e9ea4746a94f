-- The records of an interface and of the far end of its link.
use Rattle.std.proofs.Common.{◌≡◌, ℕ, zero, suc, ◌+◌, ◌<◌, ◌≤◌, Bool, true, false, cond, ◌==◌, ◌&&◌, ltb, All, map, List, [], ◌∷◌, Some, refl, sym, ap, ◌∙◌, subst, arith}
use Rattle.std.proofs.lemmas.Bool.Decides.{nat_tests}
use Rattle.std.proofs.lemmas.List.Elements.{All-head, All-tail}
use Rattle.nm_base.specs.declared.record.Dir.{Dir}
use Rattle.nm_base.specs.declared.record.Dir.TheVariants.{In, Out}
use Rattle.nm_base.specs.declared.record.Record.{Record}
use Rattle.nm_model.specs.Lists.{nth, IsPrefix, keep_where}
use Rattle.nm_model.specs.Network.{Net, IsNet}
use Rattle.nm_model.specs.Run.{one_list, pends_before}
use Rattle.nm_model.specs.Trace.{passed, same_dir}
use Rattle.nm_model.proofs.ListLemmas.{some_inj, not_some, number_tied}
use Rattle.nm_model.proofs.RecordTimes.{records_before}

module _ {A : Type 0} where
  -- what has the same members as the beginning of a list is a prefix of it
  prefix_from : (xs ys : List A) → ((n : ℕ) (y : A) → nth xs n ≡ Some y → nth ys n ≡ Some y) → IsPrefix xs ys
  prefix_from [] ys h = (ys, refl)
  prefix_from (x ∷ xs) [] h = absurd (not_some x (h 0 x refl))
  prefix_from (x ∷ xs) (y ∷ ys) h =
      let r = prefix_from xs ys (λ n z e. h (suc n) z e) in
      let e : y ≡ x = some_inj y x (h 0 x refl) in
      (r.0, λ i. sym e i ∷ r.1 i)

  -- those of a list that pass a test are another one
  kept_is : (p : A → Bool) (xs ys : List A) → ((n : ℕ) (y : A) → nth xs n ≡ Some y → (nth ys n ≡ Some y) × (p y ≡ true)) → ((n : ℕ) (y : A) → nth ys n ≡ Some y → p y ≡ true → nth xs n ≡ Some y) → keep_where p ys ≡ xs
  kept_is p [] [] h g = refl
  kept_is p (x ∷ xs) [] h g = absurd (not_some x (h 0 x refl).0)
  kept_is p [] (y ∷ ys) h g = go (p y) refl (kept_is p [] ys (λ n z e. absurd (not_some z e)) (λ n z e f. g (suc n) z e f))
    where
      go : (b : Bool) → p y ≡ b → keep_where p ys ≡ [] → cond b (y ∷ keep_where p ys) (keep_where p ys) ≡ []
      go true e rest = absurd (not_some y (g 0 y refl e))
      go false e rest = rest
  kept_is p (x ∷ xs) (y ∷ ys) h g =
      let first = h 0 x refl in
      let same : y ≡ x = some_inj y x first.0 in
      let rest = kept_is p xs ys (λ n z e. h (suc n) z e) (λ n z e f. g (suc n) z e f) in
      ap (λ b. cond b (y ∷ keep_where p ys) (keep_where p ys)) (ap p same ∙ first.1) ∙ (λ i. same i ∷ rest i)

  pub all_nth : (P : A → Type 0) (l : List A) (n : ℕ) (a : A) → All P l → nth l n ≡ Some a → P a
  all_nth P [] n a h e = absurd (not_some a e)
  all_nth P (x ∷ l) zero a h e = subst P (some_inj x a e) (All-head P x l h)
  all_nth P (x ∷ l) (suc n) a h e = all_nth P l n a (All-tail P x l h) e

-- functions that give the same of each member
pub map_same : {A B : Type 0} (f g : A → B) (l : List A) → ((n : ℕ) (x : A) → nth l n ≡ Some x → f x ≡ g x) → map f l ≡ map g l
map_same f g [] h = refl
map_same f g (x ∷ l) h = let e = h 0 x refl in let r = map_same f g l (λ n y q. h (suc n) y q) in λ i. e i ∷ r i

module _ {A B : Type 0} (f : A → B) where
  map_nth : (l : List A) (n : ℕ) (x : A) → nth l n ≡ Some x → nth (map f l) n ≡ Some (f x)
  map_nth [] n x e = absurd (not_some x e)
  map_nth (z ∷ l) zero x e = ap Some (ap f (some_inj z x e))
  map_nth (z ∷ l) (suc n) x e = map_nth l n x e

  nth_map : (l : List A) (n : ℕ) (y : B) → nth (map f l) n ≡ Some y → (x : A) × (nth l n ≡ Some x) × (f x ≡ y)
  nth_map [] n y e = absurd (not_some y e)
  nth_map (z ∷ l) zero y e = (z, refl, some_inj (f z) y e)
  nth_map (z ∷ l) (suc n) y e = nth_map l n y e

dir_tied : (d : Dir) → same_dir d d ≡ true
dir_tied In = refl
dir_tied Out = refl

module _ {P : Type 0} where
  passes : (d : Dir) (i : ℕ) (a : Record P) → a.dir ≡ d → a.iface ≡ i → (same_dir a.dir d && (i == a.iface)) ≡ true
  passes d i a e f = ap (λ z. same_dir z d && (i == a.iface)) e ∙ ap (λ z. z && (i == a.iface)) (dir_tied d) ∙ ap (λ z. i == z) f ∙ number_tied i

  -- a record stands among those of its interface and direction
  pub position : (d : Dir) (i : ℕ) (l : List (Record P)) (n : ℕ) (a : Record P) → nth l n ≡ Some a → a.dir ≡ d → a.iface ≡ i → (k : ℕ) × (nth (passed d i l) k ≡ Some (a.time, a.packet))
  position d i [] n a e f g = absurd (not_some a e)
  position d i (r ∷ l) zero a e f g =
      let same : a ≡ r = sym (some_inj r a e) in
      (0, ap (λ b. nth (cond b ((r.time, r.packet) ∷ passed d i l) (passed d i l)) 0) (subst (λ (z : Record P). (same_dir z.dir d && (i == z.iface)) ≡ true) same (passes d i a f g)) ∙ ap (λ (z : Record P). Some (z.time, z.packet)) (sym same))
  position d i (r ∷ l) (suc n) a e f g = go (same_dir r.dir d && (i == r.iface)) (position d i l n a e f g)
    where
      go : (b : Bool) → (k : ℕ) × (nth (passed d i l) k ≡ Some (a.time, a.packet)) → (k : ℕ) × (nth (cond b ((r.time, r.packet) ∷ passed d i l) (passed d i l)) k ≡ Some (a.time, a.packet))
      go true h = (suc h.0, h.1)
      go false h = h

  -- and two in their order
  positions : (d : Dir) (i : ℕ) (l : List (Record P)) (m n : ℕ) (a b : Record P) → m < n → nth l m ≡ Some a → nth l n ≡ Some b → a.dir ≡ d → b.dir ≡ d → a.iface ≡ i → b.iface ≡ i → (j : ℕ) × (k : ℕ) × (j < k) × (nth (passed d i l) j ≡ Some (a.time, a.packet)) × (nth (passed d i l) k ≡ Some (b.time, b.packet))
  positions d i [] m n a b lt e f da db ia ib = absurd (not_some a e)
  positions d i (r ∷ l) m zero a b lt e f da db ia ib = absurd (omega arith)
  positions d i (r ∷ l) zero (suc n) a b lt e f da db ia ib =
      let same : a ≡ r = sym (some_inj r a e) in
      let pass : (same_dir r.dir d && (i == r.iface)) ≡ true = subst (λ (z : Record P). (same_dir z.dir d && (i == z.iface)) ≡ true) same (passes d i a da ia) in
      let later = position d i l n b f db ib in (
        0,
        suc later.0,
        omega arith,
        ap (λ c. nth (cond c ((r.time, r.packet) ∷ passed d i l) (passed d i l)) 0) pass ∙ ap (λ (z : Record P). Some (z.time, z.packet)) (sym same),
        ap (λ c. nth (cond c ((r.time, r.packet) ∷ passed d i l) (passed d i l)) (suc later.0)) pass ∙ later.1,
      )
  positions d i (r ∷ l) (suc m) (suc n) a b lt e f da db ia ib = go (same_dir r.dir d && (i == r.iface)) (positions d i l m n a b (omega arith) e f da db ia ib)
    where
      go : (c : Bool) → (j : ℕ) × (k : ℕ) × (j < k) × (nth (passed d i l) j ≡ Some (a.time, a.packet)) × (nth (passed d i l) k ≡ Some (b.time, b.packet))
          → (j : ℕ) × (k : ℕ) × (j < k) × (nth (cond c ((r.time, r.packet) ∷ passed d i l) (passed d i l)) j ≡ Some (a.time, a.packet)) × (nth (cond c ((r.time, r.packet) ∷ passed d i l) (passed d i l)) k ≡ Some (b.time, b.packet))
      go true h = (suc h.0, suc h.1, omega (arith, h.2), h.3, h.4)
      go false h = h

  -- what passes an interface is the packet of a record, at its time
  pub passed_from : (d : Dir) (i : ℕ) (l : List (Record P)) (n : ℕ) (a : ℕ × P) → nth (passed d i l) n ≡ Some a → (m : ℕ) × (r : Record P) × (nth l m ≡ Some r) × ◌≡◌ {A = ℕ × P} (r.time, r.packet) a
  passed_from d i [] n a e = absurd (not_some a e)
  passed_from d i (r ∷ l) n a e = go (same_dir r.dir d && (i == r.iface)) n e (λ m f. passed_from d i l m a f)
    where
      later : (m : ℕ) × (q : Record P) × (nth l m ≡ Some q) × ◌≡◌ {A = ℕ × P} (q.time, q.packet) a → (m : ℕ) × (q : Record P) × (nth (r ∷ l) m ≡ Some q) × ◌≡◌ {A = ℕ × P} (q.time, q.packet) a
      later h = (suc h.0, h.1, h.2, h.3)

      go : (b : Bool) (n : ℕ) → nth (cond b ((r.time, r.packet) ∷ passed d i l) (passed d i l)) n ≡ Some a
          → ((m : ℕ) → nth (passed d i l) m ≡ Some a → (k : ℕ) × (q : Record P) × (nth l k ≡ Some q) × ◌≡◌ {A = ℕ × P} (q.time, q.packet) a)
          → (m : ℕ) × (q : Record P) × (nth (r ∷ l) m ≡ Some q) × ◌≡◌ {A = ℕ × P} (q.time, q.packet) a
      go true zero f rest = (0, r, refl, some_inj (r.time, r.packet) a f)
      go true (suc n) f rest = later (rest n f)
      go false n f rest = later (rest n f)

  passed_before : (t : ℕ) (d : Dir) (i : ℕ) (l : List (Record P)) (n : ℕ) (a : ℕ × P) → All (λ r. r.time < t) l → nth (passed d i l) n ≡ Some a → a.0 < t
  passed_before t d i l n a h e = let r = passed_from d i l n a e in subst (λ (z : ℕ × P). z.0 < t) r.3 (all_nth (λ r. r.time < t) l r.0 r.1 h r.2)

-- the arrival at the far end that follows a start at interface i
abbrev pub arrival_after : {P N : Type 0} → Net P N → ℕ → ℕ × P → ℕ × P
arrival_after net i s = (s.0 + net.tx i s.1 + net.delay i, s.1)

module _ {P N : Type 0} (net : Net P N) (ok : IsNet net) (n : ℕ) where
  abbrev R : List (Record P)
  R = (one_list net n).records

  pub apart : ((i m k s t : ℕ) (x y : P) → m < k → nth (passed Out i R) m ≡ Some (s, x) → nth (passed Out i R) k ≡ Some (t, y) → s + net.tx i x ≤ t)
      → (j k : ℕ) (a b : Record P) → j < k → nth R j ≡ Some a → nth R k ≡ Some b → a.dir ≡ Out → b.dir ≡ Out → a.iface ≡ b.iface → a.time + net.tx a.iface a.packet ≤ b.time
  apart law j k a b lt e f da db same =
      let at = positions Out a.iface R j k a b lt e f da db refl (sym same) in
      law a.iface at.0 at.1 a.time b.time a.packet b.packet at.2 at.3 at.4

  module _ (came : (i m t : ℕ) (x : P) → nth (passed In i R) m ≡ Some (t, x) → (s : ℕ) × (nth (passed Out (net.far_end i) R) m ≡ Some (s, x)) × (t ≡ s + net.tx (net.far_end i) x + net.delay (net.far_end i))) (i : ℕ) where
    -- the transmissions at the far end, each as it arrives
    abbrev due : List (ℕ × P)
    due = map (arrival_after net (net.far_end i)) (passed Out (net.far_end i) R)

    from_start : (m : ℕ) (a : ℕ × P) → nth (passed In i R) m ≡ Some a → nth due m ≡ Some a
    from_start m a e =
        let c = came i m a.0 a.1 e in
        map_nth (arrival_after net (net.far_end i)) (passed Out (net.far_end i) R) m (c.0, a.1) c.1 ∙ ap (λ z. Some (z, a.1)) (sym c.2)

    pub arrivals_begin : IsPrefix (passed In i R) due
    arrivals_begin = prefix_from (passed In i R) due from_start

    pub arrivals_are : (t : ℕ) → ((m : ℕ) → m < n → pends_before t (one_list net m) ≡ true)
        → ((j m s : ℕ) (x : P) → nth (passed Out j R) m ≡ Some (s, x) → s + net.tx j x + net.delay j < t → nth (passed In (net.far_end j) R) m ≡ Some (s + net.tx j x + net.delay j, x))
        → passed In i R ≡ keep_where (λ a. ltb a.0 t) due
    arrivals_are t early arrives = sym (kept_is (λ a. ltb a.0 t) (passed In i R) due
        (λ m a e. (from_start m a e, before_is a.0 (passed_before t In i R m a (records_before net t n early) e)))
        (λ m a e f.
        let s = nth_map (arrival_after net (net.far_end i)) (passed Out (net.far_end i) R) m a e in
        let time : s.0.0 + net.tx (net.far_end i) s.0.1 + net.delay (net.far_end i) ≡ a.0 = ap (λ (z : ℕ × P). z.0) s.2 in
        let lt = is_before a.0 f in
        ap (λ j. nth (passed In j R) m) (sym (ok.twice i)) ∙ arrives (net.far_end i) m s.0.0 s.0.1 s.1 (omega arith) ∙ ap Some s.2))
      where
        before_is : (u : ℕ) → u < t → ltb u t ≡ true
        before_is u h = grind (arith, nat_tests)

        is_before : (u : ℕ) → ltb u t ≡ true → u < t
        is_before u h = grind (arith, nat_tests)
