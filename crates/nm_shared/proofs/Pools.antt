-- What a pool's done jobs say, as lists of numbers.
use Rattle.std.proofs.Common.{◌≡◌, ℕ, zero, suc, ◌+◌, ◌-◌, ◌<◌, ◌≤◌, ◌^◌, take, List, [], ◌∷◌, ◌++◌, length, map, get_or, Bool, true, false, cond, refl, sym, ap, ◌∙◌, subst, arith}
use Rattle.std.specs.Prelude.{slice_get, slice_index, slice_set, Option, Some, None, Result, Ok}
use Rattle.std.specs.declared.vec.Vec.{Vec}
use Rattle.std.proofs.lemmas.List.{map-append, length-map, take_more}
use Rattle.std.proofs.Math.Bridge.{le_prop}
use Rattle.std.proofs.Math.Logic.{∥∥₁_elim}
use mathlib.Core.Logic.{dite}
use native.Mathlib.Decide.{ℕ_discrete}
use Rattle.nm_topology.specs.TopologyValue.{TopologyValue}
use Rattle.nm_model.specs.Knowledge.{Knowledge}
use Rattle.nm_model.specs.Replica.{from_scratch, safe_time}
use Rattle.nm_model.specs.Run.{pends_before}
use Rattle.nm_model.specs.World.{advance}
use Rattle.nm_sim.specs.Network.{net_of}
use Rattle.nm_book.specs.Book.{BookValue, knowledge}
use Rattle.nm_book.specs.Running.{Runs}
use Rattle.nm_book.specs.declared.running.Ran.{Ran}
use Rattle.nm_book.specs.declared.running.Ran.TheVariants.{All, Limit, Memory}
use Rattle.nm_shared.specs.Counted.{Rises}
use Rattle.nm_shared.specs.Known.{ran}
use Rattle.nm_shared.specs.Pool.{HadMemory, IsRunAnswer, done_by, put_in_places}

-- reports that are put behind others
pub put_behind : {A : Type 0} (place_of : A → ℕ) (slots : List (Option A)) (xs ys : List A) → put_in_places place_of (put_in_places place_of slots xs) ys ≡ put_in_places place_of slots (xs ++ ys)
unfolding put_in_places
put_behind place_of slots [] ys = refl
put_behind place_of slots (x ∷ xs) ys = put_behind place_of (slice_set slots (place_of x) (Some x)) xs ys

-- none
pub put_none : {A : Type 0} (place_of : A → ℕ) (slots : List (Option A)) (xs : List A) → length xs ≡ 0 → put_in_places place_of slots xs ≡ slots
unfolding put_in_places
put_none place_of slots [] none = refl
put_none place_of slots (x ∷ xs) none = absurd (omega arith)

-- of no threads
pub done_none : {A Y E : Type 0} (results : List (Result (Vec A Y) E)) → length results ≡ 0 → done_by results ≡ []
unfolding done_by
done_none [] none = refl
done_none (r ∷ rs) none = absurd (omega arith)

pub had_memory_none : {A Y E : Type 0} (results : List (Result (Vec A Y) E)) → length results ≡ 0 → HadMemory results
unfolding HadMemory
had_memory_none [] none = tt
had_memory_none (r ∷ rs) none = absurd (omega arith)

pub had_memory_more : {A Y E : Type 0} (done : Vec A Y) (results : List (Result (Vec A Y) E)) → HadMemory results → HadMemory (Ok done ∷ results)
unfolding HadMemory
had_memory_more done results h = h

pub index_map : {A : Type 0} (f : A → ℕ) (xs : List A) (k : ℕ) (d : A) (ns : List ℕ) → ns ≡ map f xs → k < length xs → slice_index ns k ≡ f (get_or xs k d)
index_map f xs k d ns e lt = ap (λ l. slice_index l k) e ∙ at f xs k d lt
  where
    at : {A : Type 0} (f : A → ℕ) (xs : List A) (k : ℕ) (d : A) → k < length xs → slice_index (map f xs) k ≡ f (get_or xs k d)
    at f [] k d lt = absurd (omega arith)
    at f (x ∷ xs) zero d lt = refl
    at f (x ∷ xs) (suc k) d lt = at f xs k d (omega arith)

advance_most : (t : TopologyValue) (p : ℕ) (K : Knowledge (List ℕ)) (n k : ℕ) → advance (net_of t) p K n k ≤ k + n
advance_most t p K zero k = omega arith
advance_most t p K (suc n) k = pick (pends_before (safe_time (net_of t) p K) (from_scratch (net_of t) p K k)) (advance_most t p K n (suc k))
  where
    pick : (q : Bool) → advance (net_of t) p K n (suc k) ≤ suc k + n → cond q (advance (net_of t) p K n (suc k)) k ≤ k + suc n
    pick true h = omega arith
    pick false h = omega arith

-- a run adds the events that it answers
pub run_adds : (limit : ℕ) (b : BookValue) (r : Ran) (c : BookValue) → Runs b c limit r → c.events ≡ b.events + ran r
run_adds limit b (All n) c h = h.run.0
run_adds limit b (Limit n) c h = h.run.0
run_adds limit b (Memory n) c h = h.run.0

-- and no more than its limit
pub run_within : (limit : ℕ) (b : BookValue) (r : Ran) (c : BookValue) → Runs b c limit r → ran r ≤ limit
run_within limit b (All n) c h = let most = advance_most b.topology b.partition (knowledge b) limit b.events in omega (arith, most, h.run.0, h.run.1)
run_within limit b (Limit n) c h = omega (arith, h.run.2)
run_within limit b (Memory n) c h = omega (arith, h.run.2)

-- and so any answer of a run
pub answer_within : (limit : ℕ) (r : Ran) → IsRunAnswer limit r → ran r ≤ limit
answer_within limit r is = ∥∥₁_elim is le_prop (λ (b, c, runs). run_within limit b r c runs)

pub counted_is : (exact : Bool) (limit : ℕ) (b : BookValue) (r : Ran) (c : BookValue) (old new n : ℕ) → Runs b c limit r → old ≡ 0 → Rises exact old (c.events - b.events) new → n ≡ ran r → n < 2 ^ 64 → new ≡ ran r
counted_is exact limit b r c old new n runs none rises is fits =
    let e = run_adds limit b r c runs in
    let n' = rises (λ _. omega arith) in
    omega arith

-- one more pass, of the k-th book
pub take_book : {A : Type 0} (f : A → ℕ) (xs : List A) (ns : List ℕ) (k : ℕ) (x : A) → map f xs ≡ take k ns → k < length ns → f x ≡ slice_index ns k → map f (xs ++ x ∷ []) ≡ take (k + 1) ns
take_book f xs ns k x so lt is =
    let l : map f (xs ++ x ∷ []) ≡ map f xs ++ f x ∷ [] = map-append f xs (x ∷ []) in
    l ∙ (λ i. so i ++ is i ∷ []) ∙ sym (take_more ns k 0 lt)

pub map_both : {A B : Type 0} (f : A → ℕ) (g : B → ℕ) (xs : List A) (ys : List B) (x : A) (y : B) → map f xs ≡ map g ys → f x ≡ g y → map f (xs ++ x ∷ []) ≡ map g (ys ++ y ∷ [])
map_both f g xs ys x y e is =
    let l : map f (xs ++ x ∷ []) ≡ map f xs ++ f x ∷ [] = map-append f xs (x ∷ []) in
    let r : map g (ys ++ y ∷ []) ≡ map g ys ++ g y ∷ [] = map-append g ys (y ∷ []) in
    l ∙ (λ i. e i ++ is i ∷ []) ∙ sym r

-- what holds of each member at its place holds with one more
pub all_more : {A : Type 0} (P : ℕ → A → Type 0) (xs : List A) (x : A) → ((j : ℕ) (a : A) → slice_get xs j ≡ Some a → P j a) → P (length xs) x
    → (j : ℕ) (a : A) → slice_get (xs ++ x ∷ []) j ≡ Some a → P j a
all_more P [] x all is zero a e = let same : x ≡ a = cc in subst (P 0) same is
all_more P [] x all is (suc j) a e = absurd (let none : None ≡ Some a = e in cc)
all_more P (y ∷ xs) x all is zero a e = all zero a e
all_more P (y ∷ xs) x all is (suc j) a e = all_more (λ n b. P (suc n) b) xs x (λ i b h. all (suc i) b h) is j a e

index_front : (ns : List ℕ) (m j : ℕ) → j < length ns → slice_index (ns ++ m ∷ []) j ≡ slice_index ns j
index_front [] m j lt = absurd (omega arith)
index_front (n ∷ ns) m zero lt = refl
index_front (n ∷ ns) m (suc j) lt = index_front ns m j (omega arith)

index_last : (ns : List ℕ) (m j : ℕ) → j ≡ length ns → slice_index (ns ++ m ∷ []) j ≡ m
index_last [] m zero e = refl
index_last [] m (suc j) e = absurd (omega arith)
index_last (n ∷ ns) m zero e = absurd (omega arith)
index_last (n ∷ ns) m (suc j) e = index_last ns m j (omega arith)

pub within_more : {A : Type 0} (f : A → ℕ) (xs : List A) (limits : List ℕ) (k : ℕ) (x : A) → length xs ≡ k → ((j : ℕ) → j < k → slice_index (map f xs) j ≤ slice_index limits j) → f x ≤ slice_index limits k → (j : ℕ) → j < k + 1 → slice_index (map f (xs ++ x ∷ [])) j ≤ slice_index limits j
within_more f xs limits k x len so is j lt =
    let l : map f (xs ++ x ∷ []) ≡ map f xs ++ f x ∷ [] = map-append f xs (x ∷ []) in
    let ls : length (map f xs) ≡ length xs = length-map xs f in
    dite (ℕ_discrete j k)
    (λ e. let v : slice_index (map f (xs ++ x ∷ [])) j ≡ f x = ap (λ ns. slice_index ns j) l ∙ index_last (map f xs) (f x) j (omega arith) in
    subst (λ n. n ≤ slice_index limits j) (sym v) (subst (λ i. f x ≤ slice_index limits i) (sym e) is))
    (λ ne. let below : j < k = omega arith in
    let v : slice_index (map f (xs ++ x ∷ [])) j ≡ slice_index (map f xs) j = ap (λ ns. slice_index ns j) l ∙ index_front (map f xs) (f x) j (omega arith) in
    subst (λ n. n ≤ slice_index limits j) (sym v) (so j below))
