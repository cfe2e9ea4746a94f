-- Rising numbers, and what is kept of them.
use Rattle.std.proofs.Common.{◌≡◌, ◌≢◌, ℕ, ◌+◌, ◌<◌, ◌≤◌, ◌==◌, ◌&&◌, not, Bool, true, false, cond, true≢false, eqb-true, List, [], ◌∷◌, ◌++◌, count_by, refl, sym, ap, ◌∙◌, arith, ⊎_elim}
use Rattle.std.proofs.lemmas.List.Sums.{sum_by-cons, sum_by_push}
use Rattle.std.proofs.lemmas.Bool.{cases_lt}
use Rattle.nm_model.proofs.ListLemmas.{number_apart, number_tied, same_number}
use Rattle.nm_model.specs.Lists.{keep_where}
use Rattle.nm_measure.specs.declared.tag.Tag.{Tag}
use Rattle.nm_measure.specs.Counted.{counts_for}
use Rattle.nm_measure.specs.Rising.{AllAbove, Rise}
use Rattle.nm_measure.specs.Courses.{is_packet}

pub both : (a b : Bool) → (a && b) ≡ true → (a ≡ true) × (b ≡ true)
both true b h = (refl, h)
both false b h = absurd (true≢false (sym h))

pub never : (b : Bool) → (b && false) ≡ false
never true = refl
never false = refl

-- how often a number is among others
abbrev pub times_in : ℕ → List ℕ → ℕ
times_in k ks = count_by (λ m. m == k) ks

times_cons : (k m : ℕ) (ks : List ℕ) → times_in k (m ∷ ks) ≡ cond (m == k) 1 0 + times_in k ks
times_cons k m ks = sum_by-cons (λ n. cond (n == k) 1 0) m ks

pub times_push : (k m : ℕ) (ks : List ℕ) → times_in k (ks ++ m ∷ []) ≡ times_in k ks + cond (m == k) 1 0
times_push k m ks = sum_by_push (λ n. cond (n == k) 1 0) ks m

one_same : (k m : ℕ) → m ≡ k → ◌≡◌ {A = ℕ} (cond (m == k) 1 0) 1
one_same k m e = ap (λ n. cond (n == k) 1 0) e ∙ ap (λ b. cond b 1 0) (number_tied k)

one_apart : (k m : ℕ) → m ≢ k → ◌≡◌ {A = ℕ} (cond (m == k) 1 0) 0
one_apart k m e = ap (λ b. cond b 1 0) (number_apart m k e)

above_none : (k m : ℕ) (ks : List ℕ) → k ≤ m → AllAbove m ks → times_in k ks ≡ 0
above_none k m [] low h = refl
above_none k m (n ∷ ks) low h =
    let a = times_cons k n ks in
    let up = h.0 in
    let b = one_apart k n (λ e. omega (arith, e, up, low)) in
    let c = above_none k m ks low h.1 in
    omega (arith, a, b, c)

-- each stands there at most once
pub times_few : (k : ℕ) (ks : List ℕ) → Rise ks → times_in k ks ≤ 1
times_few k [] rise = omega arith
times_few k (m ∷ ks) rise = ⊎_elim
    (λ (eq : m ≡ k).
    let a = times_cons k m ks in
    let b = one_same k m eq in
    let c = above_none k m ks (omega (arith, eq)) rise.0 in
    omega (arith, a, b, c))
    (λ apart.
    let a = times_cons k m ks in
    let b = one_apart k m apart in
    let c = times_few k ks rise.1 in
    omega (arith, a, b, c))
    (same_number m k)

-- a greater one behind them
above_pushed : (k m : ℕ) (ks : List ℕ) → AllAbove k ks → k < m → AllAbove k (ks ++ m ∷ [])
above_pushed k m [] h low = (low, tt)
above_pushed k m (n ∷ ks) h low = (h.0, above_pushed k m ks h.1 low)

pub rise_pushed : (m : ℕ) (ks : List ℕ) → Rise ks → ((k : ℕ) → m ≤ k → times_in k ks ≡ 0) → Rise (ks ++ m ∷ [])
rise_pushed m [] rise none = (tt, tt)
rise_pushed m (k ∷ ks) rise none = (
  above_pushed k m ks rise.0 (⊎_elim
      (λ h. h)
      (λ past. absurd (let a = times_cons k k ks in let b = one_same k k refl in let c = none k past in omega (arith, a, b, c)))
      (cases_lt k m)),
  rise_pushed m ks rise.1 (λ n past. let a = times_cons n k ks in let c = none n past in omega (arith, a, c)),
)

-- some of them
above_kept : (p : ℕ → Bool) (k : ℕ) (ks : List ℕ) → AllAbove k ks → AllAbove k (keep_where p ks)
above_kept p k [] h = tt
above_kept p k (m ∷ ks) h = go (p m) (above_kept p k ks h.1)
  where
    go : (b : Bool) → AllAbove k (keep_where p ks) → AllAbove k (cond b (m ∷ keep_where p ks) (keep_where p ks))
    go true rest = (h.0, rest)
    go false rest = rest

pub rise_kept : (p : ℕ → Bool) (ks : List ℕ) → Rise ks → Rise (keep_where p ks)
rise_kept p [] rise = tt
rise_kept p (k ∷ ks) rise = go (p k) (rise_kept p ks rise.1)
  where
    go : (b : Bool) → Rise (keep_where p ks) → Rise (cond b (k ∷ keep_where p ks) (keep_where p ks))
    go true rest = (above_kept p k ks rise.0, rest)
    go false rest = rest

-- which packet a tag is of
module _ (j : ℕ) (tag : Tag) where
  pub packet_number : (k : ℕ) → is_packet j k tag ≡ true → tag.number ≡ k
  packet_number k is = eqb-true tag.number k (both (counts_for j tag) (tag.number == k) is).1

  pub packet_other : (k m : ℕ) → is_packet j k tag ≡ true → k ≢ m → is_packet j m tag ≡ false
  packet_other k m is apart = ap (λ b. counts_for j tag && b) (number_apart tag.number m (λ e. apart (sym (packet_number k is) ∙ e))) ∙ never (counts_for j tag)

  pub packet_own : counts_for j tag ≡ true → is_packet j tag.number tag ≡ true
  packet_own own = ap (λ b. b && (tag.number == tag.number)) own ∙ number_tied tag.number

  pub packet_none : counts_for j tag ≡ false → (k : ℕ) → is_packet j k tag ≡ false
  packet_none none k = ap (λ b. b && (tag.number == k)) none

  abbrev others : List ℕ → List ℕ
  others ks = keep_where (λ m. not (is_packet j m tag)) ks

  -- of the others none is gone
  pub times_left : (k : ℕ) (ks : List ℕ) → is_packet j k tag ≡ false → times_in k (others ks) ≡ times_in k ks
  times_left k [] is = refl
  times_left k (m ∷ ks) is = go (is_packet j m tag) refl (times_left k ks is)
    where
      go : (b : Bool) → is_packet j m tag ≡ b → times_in k (others ks) ≡ times_in k ks → times_in k (cond (not (is_packet j m tag)) (m ∷ others ks) (others ks)) ≡ times_in k (m ∷ ks)
      go true e rest =
          let a = times_cons k m ks in
          let b = one_apart k m (λ (eq : m ≡ k). true≢false (sym e ∙ ap (λ n. is_packet j n tag) eq ∙ is)) in
          ap (λ b. times_in k (cond (not b) (m ∷ others ks) (others ks))) e ∙ omega (arith, a, b, rest)
      go false e rest =
          let a = times_cons k m ks in
          let b = times_cons k m (others ks) in
          ap (λ b. times_in k (cond (not b) (m ∷ others ks) (others ks))) e ∙ omega (arith, a, b, rest)

  -- and it is not among them
  pub times_gone : (k : ℕ) (ks : List ℕ) → is_packet j k tag ≡ true → times_in k (others ks) ≡ 0
  times_gone k [] is = refl
  times_gone k (m ∷ ks) is = go (is_packet j m tag) refl (times_gone k ks is)
    where
      go : (b : Bool) → is_packet j m tag ≡ b → times_in k (others ks) ≡ 0 → times_in k (cond (not (is_packet j m tag)) (m ∷ others ks) (others ks)) ≡ 0
      go true e rest = ap (λ b. times_in k (cond (not b) (m ∷ others ks) (others ks))) e ∙ rest
      go false e rest =
          let a = times_cons k m (others ks) in
          let b = one_apart k m (λ (eq : m ≡ k). true≢false (sym is ∙ ap (λ n. is_packet j n tag) (sym eq) ∙ e)) in
          ap (λ b. times_in k (cond (not b) (m ∷ others ks) (others ks))) e ∙ omega (arith, a, b, rest)

  abbrev own : List ℕ → List ℕ
  own ks = keep_where (λ m. is_packet j m tag) ks

  above_own : (k : ℕ) (ks : List ℕ) → is_packet j k tag ≡ true → AllAbove k ks → own ks ≡ []
  above_own k [] is h = refl
  above_own k (m ∷ ks) is h = ap (λ b. cond b (m ∷ own ks) (own ks)) (packet_other k m is (λ e. let up = h.0 in omega (arith, e, up))) ∙ above_own k ks is h.1

  pub own_none : counts_for j tag ≡ false → (ks : List ℕ) → own ks ≡ []
  own_none none [] = refl
  own_none none (m ∷ ks) = ap (λ b. cond b (m ∷ own ks) (own ks)) (packet_none none m) ∙ own_none none ks

  -- it is found once
  pub own_one : counts_for j tag ≡ true → (ks : List ℕ) → Rise ks → 1 ≤ times_in tag.number ks → own ks ≡ tag.number ∷ []
  own_one mine [] rise some = absurd (omega (arith, some))
  own_one mine (m ∷ ks) rise some = go (is_packet j m tag) refl (own_one mine ks rise.1)
    where
      go : (b : Bool) → is_packet j m tag ≡ b → (1 ≤ times_in tag.number ks → own ks ≡ tag.number ∷ []) → cond (is_packet j m tag) (m ∷ own ks) (own ks) ≡ tag.number ∷ []
      go true e rest =
          ap (λ b. cond b (m ∷ own ks) (own ks)) e
          ∙ (λ i. sym (packet_number m e) i ∷ above_own m ks e rise.0 i)
      go false e rest =
          let a = times_cons tag.number m ks in
          let b = one_apart tag.number m (λ (eq : m ≡ tag.number). true≢false (sym (packet_own mine) ∙ ap (λ n. is_packet j n tag) (sym eq) ∙ e)) in
          ap (λ b. cond b (m ∷ own ks) (own ks)) e ∙ rest (omega (arith, a, b, some))
