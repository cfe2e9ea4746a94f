-- Routes laid out by the keys of their prefixes.
use Rattle.std.proofs.Common.{◌≡◌, ℕ, ◌+◌, ◌<◌, ◌≤◌, ◌++◌, ◌≢◌, Bool, true, false, List, [], ◌∷◌, length, set, refl, sym, ap, ◌∙◌, subst, arith, add-one, ⊎_elim, Some, None, Option, cond}
use Rattle.std.specs.Prelude.{find, slice_index_or}
use Rattle.std.specs.Option.{option_map, option_or}
use Rattle.std.specs.HashMap.{get}
use Rattle.std.proofs.lemmas.Bool.Decides.{nat_tests}
use Rattle.std.proofs.lemmas.Bool.{cases_eq, cases_Bool}
use Rattle.std.proofs.lemmas.List.Folds.{find-append}
use Rattle.std.proofs.lemmas.List.{get_or-set_same, get_or-set_other}
use Rattle.nm_topology.specs.declared.parts.Route.{Route}
use Rattle.nm_forward.specs.declared.routes.PrefixKey.{PrefixKey}
use Rattle.nm_forward.specs.Routes.{leads, longest_below, prefix_key, route_of, same_key, IsLaidOut, Vias}

-- keys that are the same in both numbers are one
pub one_key : (k q : PrefixKey) → same_key k q ≡ true → k ≡ q
one_key k q e =
    let both : (k.length ≡ q.length) × (k.network ≡ q.network) = grind (arith, nat_tests, e) in
    λ i. record { length = both.0 i; network = both.1 i }

-- the key of a route's prefix is that of the prefix of n bits that holds the address exactly where
-- the route leads there
pub leads-key : (n a : ℕ) (r : Route)
    → leads n a r ≡ same_key (prefix_key r.to.length r.to.address) (prefix_key n a)
leads-key n a r =
    ⊎_elim
    (λ (e : r.to.length ≡ n). grind (arith, nat_tests, e))
    (λ (d : r.to.length ≢ n). grind (arith, nat_tests, d))
    (cases_eq r.to.length n)

pub longest-zero : (routes : List Route) (a : ℕ) → longest_below 0 routes a ≡ None
unfolding longest_below
longest-zero routes a = refl

pub longest-more : (n : ℕ) (routes : List Route) (a : ℕ)
    → longest_below (n + 1) routes a ≡ option_or (find (leads n a) routes)
    (longest_below n routes a)
unfolding longest_below
longest-more n routes a = rw add-one refl

or_none : (o : Option Route) → option_or o None ≡ o
or_none None = refl
or_none (Some r) = refl

mapped-none : (o : Option Route) → option_map (λ r. r.via) o ≡ None → o ≡ None
mapped-none None e = refl
mapped-none (Some r) e = cc

mapped-or : (o : Option Route) (r : Route) → (option_map (λ r. r.via) o ≡ None → ⊥)
    → option_map (λ r. r.via) (option_or o (Some r)) ≡ option_map (λ r. r.via) o
mapped-or None r h = absurd (h refl)
mapped-or (Some q) r h = refl

-- one more route
module _ (routes : List Route) (occurs : List Bool) (vias : Vias) (r : Route)
    (laid : IsLaidOut routes occurs vias) where
  -- it does not lead there
  off : (n a : ℕ) → leads n a r ≡ false
      → find (leads n a) (routes ++ r ∷ []) ≡ find (leads n a) routes
  off n a e =
      find-append (leads n a) routes (r ∷ [])
      ∙ ap (λ b. option_or (find (leads n a) routes) (cond b (Some r) None)) e
      ∙ or_none (find (leads n a) routes)

  -- it does, after those that do
  on : (n a : ℕ) → leads n a r ≡ true
      → find (leads n a) (routes ++ r ∷ []) ≡ option_or (find (leads n a) routes) (Some r)
  on n a e =
      find-append (leads n a) routes (r ∷ [])
      ∙ ap (λ b. option_or (find (leads n a) routes) (cond b (Some r) None)) e

  other : (n a : ℕ) → r.to.length ≢ n → leads n a r ≡ false
  other n a d = grind (arith, nat_tests, d)

  -- a route whose prefix has too many bits leads nowhere
  pub laid_out-long : 33 ≤ r.to.length → IsLaidOut (routes ++ r ∷ []) occurs vias
  laid_out-long h = record {
    lengths = λ n a hn e. off n a (other n a (omega arith)) ∙ laid.lengths n a hn e;
    leading = λ n a hn. laid.leading n a hn
        ∙ ap (option_map (λ r. r.via)) (sym (off n a (other n a (omega arith))));
  }

  module _ (k : ℕ) (is : k ≡ r.to.length) (full : length occurs ≡ 33)
      (h : r.to.length < 33) where
    abbrev key : PrefixKey
    key = prefix_key r.to.length r.to.address

    lengths : (n a : ℕ) → n < 33 → slice_index_or (set occurs k true) n false ≡ false
        → find (leads n a) (routes ++ r ∷ []) ≡ None
    lengths n a hn e =
        ⊎_elim
        (λ (same : k ≡ n).
        let at : slice_index_or (set occurs k true) k false ≡ true =
        get_or-set_same occurs k true false (omega arith) in
        let at_n : slice_index_or (set occurs k true) n false ≡ true =
        subst (λ m. slice_index_or (set occurs k true) m false ≡ true) same at in
        cc)
        (λ (d : k ≢ n).
        let apart : n ≢ k = λ e. d (sym e) in
        let kept : slice_index_or (set occurs k true) n false ≡ slice_index_or occurs n false =
        get_or-set_other occurs k n true false apart in
        off n a (other n a (λ e. d (is ∙ e))) ∙ laid.lengths n a hn (sym kept ∙ e))
        (cases_eq k n)

    -- a route to a prefix to which another leads already
    pub laid_out-known : (get same_key vias key ≡ None → ⊥)
        → IsLaidOut (routes ++ r ∷ []) (set occurs k true) vias
    laid_out-known known = record {
      lengths = lengths;
      leading = λ n a hn.
          ⊎_elim
          (λ (e : same_key key (prefix_key n a) ≡ true).
          let same : key ≡ prefix_key n a = one_key key (prefix_key n a) e in
          let there : option_map (λ r. r.via) (find (leads n a) routes) ≡ None → ⊥ =
          λ e. known (ap (get same_key vias) same ∙ laid.leading n a hn ∙ e) in
          laid.leading n a hn ∙ sym (mapped-or (find (leads n a) routes) r there)
          ∙ ap (option_map (λ r. r.via)) (sym (on n a (leads-key n a r ∙ e))))
          (λ (e : same_key key (prefix_key n a) ≡ false).
          laid.leading n a hn
          ∙ ap (option_map (λ r. r.via)) (sym (off n a (leads-key n a r ∙ e))))
          (cases_Bool (same_key key (prefix_key n a)));
    }

    -- the first route to a prefix
    pub laid_out-first : (more : Vias) → get same_key vias key ≡ None
        → ((q : PrefixKey) → get same_key more q ≡ cond (same_key key q) (Some r.via) (get same_key vias q))
        → IsLaidOut (routes ++ r ∷ []) (set occurs k true) more
    laid_out-first more fresh puts = record {
      lengths = lengths;
      leading = λ n a hn.
          ⊎_elim
          (λ (e : same_key key (prefix_key n a) ≡ true).
          let same : key ≡ prefix_key n a = one_key key (prefix_key n a) e in
          let none : find (leads n a) routes ≡ None =
          mapped-none (find (leads n a) routes)
          (sym (laid.leading n a hn) ∙ ap (get same_key vias) (sym same) ∙ fresh) in
          puts (prefix_key n a)
          ∙ ap (λ t. cond t (Some r.via) (get same_key vias (prefix_key n a))) e
          ∙ ap (λ o. option_map (λ r. r.via) (option_or o (Some r))) (sym none)
          ∙ ap (option_map (λ r. r.via)) (sym (on n a (leads-key n a r ∙ e))))
          (λ (e : same_key key (prefix_key n a) ≡ false).
          puts (prefix_key n a)
          ∙ ap (λ t. cond t (Some r.via) (get same_key vias (prefix_key n a))) e
          ∙ laid.leading n a hn
          ∙ ap (option_map (λ r. r.via)) (sym (off n a (leads-key n a r ∙ e))))
          (cases_Bool (same_key key (prefix_key n a)));
    }

-- no routes
pub laid_out-none : (vias : Vias) → ((q : PrefixKey) → get same_key vias q ≡ None) → (occurs : List Bool)
    → IsLaidOut [] occurs vias
laid_out-none vias e occurs =
    record { lengths = λ n a hn e. refl; leading = λ n a hn. e (prefix_key n a) }

-- a look-up that goes down the lengths, at the length m
module _ (routes : List Route) (occurs : List Bool) (vias : Vias)
    (laid : IsLaidOut routes occurs vias) (a n m : ℕ)
    (is : n ≡ m + 1) (h : m < 33)
    (so_far : route_of routes a ≡ option_map (λ r. r.via) (longest_below n routes a)) where
  step : route_of routes a ≡ option_map (λ r. r.via)
      (option_or (find (leads m a) routes) (longest_below m routes a))
  step = so_far ∙ ap (λ k. option_map (λ r. r.via) (longest_below k routes a)) is
      ∙ ap (option_map (λ r. r.via)) (longest-more m routes a)

  found : (o : Option Route) (v : ℕ) → option_map (λ r. r.via) o ≡ Some v
      → option_map (λ r. r.via) (option_or o (longest_below m routes a)) ≡ Some v
  found None v e = cc
  found (Some r) v e = e

  -- a prefix of this length leads there
  pub look-found : (v : ℕ) → get same_key vias (prefix_key m a) ≡ Some v
      → Some v ≡ route_of routes a
  look-found v e = sym (step ∙ found (find (leads m a) routes) v (sym (laid.leading m a h) ∙ e))

  past : find (leads m a) routes ≡ None
      → route_of routes a ≡ option_map (λ r. r.via) (longest_below m routes a)
  past e = step ∙ ap (λ o. option_map (λ r. r.via) (option_or o (longest_below m routes a))) e

  -- none of this length does
  pub look-past : get same_key vias (prefix_key m a) ≡ None
      → route_of routes a ≡ option_map (λ r. r.via) (longest_below m routes a)
  look-past e = past (mapped-none (find (leads m a) routes) (sym (laid.leading m a h) ∙ e))

  -- none has this length
  pub look-absent : slice_index_or occurs m false ≡ false
      → route_of routes a ≡ option_map (λ r. r.via) (longest_below m routes a)
  look-absent e = past (laid.lengths m a h e)
