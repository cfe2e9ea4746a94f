-- How many packets wait, and for how long, one event later.
use Rattle.std.proofs.Common.{◌≡◌, ℕ, zero, suc, ◌+◌, ◌-◌, ◌*◌, ◌^◌, ◌≤◌, min, max, sym, ap, ◌∙◌, subst, arith}
use Rattle.std.proofs.Math.Nat.{mul-add}
use Rattle.nm_measure.specs.Queues.{greatest_of}
use Rattle.nm_measure.specs.Waited.{waited_at}

module _ (level : ℕ → ℕ) (first : ℕ) where
  -- the last of the levels is at most the greatest
  last_within : (more : ℕ) → level (first + more) ≤ greatest_of level first more
  last_within zero = let e : first + zero ≡ first = omega arith in subst (λ n. level n ≤ level first) (sym e) (omega arith)
  last_within (suc more) = omega arith

module _ (level : ℕ → ℕ) where
  -- the first alone
  pub greatest_now : (n : ℕ) → greatest_of level n (n - n) ≡ level n
  greatest_now n = let e : n - n ≡ 0 = omega arith in ap (greatest_of level n) e

  module _ (first n : ℕ) (since : first ≤ n) where
    -- one more
    pub greatest_next : greatest_of level first (suc n - first) ≡ max (greatest_of level first (n - first)) (level (suc n))
    greatest_next =
        let e : suc n - first ≡ suc (n - first) = omega (arith, since) in
        let f : first + suc (n - first) ≡ suc n = omega (arith, since) in
        ap (greatest_of level first) e ∙ ap (λ m. max (greatest_of level first (n - first)) (level m)) f

    -- which is as the one before
    pub greatest_same : level (suc n) ≡ level n → greatest_of level first (suc n - first) ≡ greatest_of level first (n - first)
    greatest_same same =
        let g = greatest_next in
        let f : first + (n - first) ≡ n = omega (arith, since) in
        let h = last_within level first (n - first) in
        let k = ap level f in
        omega (arith, g, h, k, same)

-- as many wait all the time
times_add : (k a b c : ℕ) → a ≤ b → b ≤ c → k * (c - a) ≡ k * (b - a) + k * (c - b)
times_add k a b c h g = let e : c - a ≡ (b - a) + (c - b) = omega arith in ap (λ n. k * n) e ∙ mul-add k (b - a) (c - b)

stop_at : (w a b total : ℕ) → min (w + a) (2 ^ 128 - 1) ≡ min total (2 ^ 128 - 1) → min (w + (a + b)) (2 ^ 128 - 1) ≡ min (total + b) (2 ^ 128 - 1)
stop_at w a b total h = omega arith

pub waited_on : (w k since now later total : ℕ) → since ≤ now → now ≤ later → waited_at w k since now ≡ min total (2 ^ 128 - 1)
    → waited_at w k since later ≡ min (total + k * (later - now)) (2 ^ 128 - 1)
waited_on w k since now later total h g is =
    ap (λ n. min (w + n) (2 ^ 128 - 1)) (times_add k since now later h g) ∙ stop_at w (k * (now - since)) (k * (later - now)) total is

pub waited_from : (w k now total : ℕ) → w ≡ min total (2 ^ 128 - 1) → waited_at w k now now ≡ min total (2 ^ 128 - 1)
waited_from w k now total h =
    let e : now - now ≡ 0 = omega arith in
    ap (λ n. min (w + k * n) (2 ^ 128 - 1)) e ∙ none (k * 0) (omega arith)
  where
    none : (z : ℕ) → z ≡ 0 → min (w + z) (2 ^ 128 - 1) ≡ min total (2 ^ 128 - 1)
    none z e = omega arith
