-- Numbers rounded down to their eight highest bits.
use Rattle.std.proofs.Common.{◌≡◌, ⊎_elim, ℕ, zero, suc, ◌+◌, ◌-◌, ◌*◌, ◌/◌, ◌%◌, ◌^◌, ◌<◌, ◌≤◌, sym, subst, ap, ◌∙◌, arith}
use Rattle.std.proofs.Math.Nat.{div-mul-le_self, le-div_iff_mul-le, le_trans, lt_of_lt_of_le, mod-lt, mul-le-mul_right, one-le-pow, one-mul}
use Rattle.std.proofs.Math.Pow.{pow_mono, pow_pos, shl_exact}
use Rattle.std.proofs.lemmas.Bool.{cases_lt}
use Rattle.std.proofs.lemmas.Nat.{div-add-mod', leading_top, pow-add}
use Rattle.std.specs.Int.Count.{count_leading_zeros, leading_of_zero}
use Rattle.nm_base.specs.Count.{saturated}
use Rattle.nm_measure.specs.Spread.{rounded_down, top_of}

rest_of : (d r w s : ℕ) → r < s → w + r ≡ d → 128 * s ≤ w → 128 * (d - (d - r)) ≤ d - r
rest_of d r w s l e m = omega arith

-- a number that has a step 128 times is rounded down to a multiple of it by at most 1/128
multiple_near : (d s : ℕ) → 0 < s → 128 * s ≤ d → 128 * (d - (d - d % s)) ≤ d - d % s
multiple_near d s p h = rest_of d (d % s) (d / s * s) s (mod-lt d p) (div-add-mod' d s) (mul-le-mul_right s ((le-div_iff_mul-le p).1 h))

-- the step that the program takes is there 128 times
pub rounded_near : (d : ℕ) → d < 2 ^ 64 → 8 < 64 - count_leading_zeros 64 d
    → let s = 1 * 2 ^ (64 - count_leading_zeros 64 d - 8) % 18446744073709551616 in 128 * (d - (d - d % s)) ≤ d - d % s
rounded_near zero fits many = let none = leading_of_zero 64 in absurd (omega (arith, many, none))
rounded_near (suc n) fits many =
    let top = leading_top 64 (suc n) (omega arith) fits in
    let places = top.1 in
    let least = top.2 in
    let k = 64 - count_leading_zeros 64 (suc n) - 8 in
    let exact : 1 * 2 ^ k % 18446744073709551616 ≡ 1 * 2 ^ k = shl_exact 1 k 64 (omega arith) (omega (arith, places, many)) in
    let seven : 7 + k ≡ top.0 = omega (arith, places, many) in
    let big : 128 * 2 ^ k ≡ 2 ^ top.0 = sym (pow-add 2 7 k) ∙ ap (λ x. 2 ^ x) seven in
    subst (λ s. 128 * (suc n - (suc n - suc n % s)) ≤ suc n - suc n % s) (sym (exact ∙ one-mul (2 ^ k)))
    (multiple_near (suc n) (2 ^ k) (one-le-pow k 2 (omega arith)) (omega (arith, big, least)))

-- a number with eight bits or fewer stays as it is
pub rounded_small : (d : ℕ) → 64 - count_leading_zeros 64 d ≤ 8 → d ≡ rounded_down d
unfolding rounded_down
rounded_small d few =
    let none : 64 - count_leading_zeros 64 d - 8 ≡ 0 = omega (arith, few) in
    subst (λ k. d ≡ d - d % 2 ^ k) (sym none) (omega arith)

-- any other is rounded down to a multiple of the step that the program takes
pub rounded_large : (d : ℕ) → 8 < 64 - count_leading_zeros 64 d
    → d - d % (1 * 2 ^ (64 - count_leading_zeros 64 d - 8) % 18446744073709551616) ≡ rounded_down d
unfolding rounded_down
rounded_large d many =
    let k = 64 - count_leading_zeros 64 d - 8 in
    let exact : 1 * 2 ^ k % 18446744073709551616 ≡ 1 * 2 ^ k = shl_exact 1 k 64 (omega arith) (omega arith) in
    ap (λ s. d - d % s) (exact ∙ one-mul (2 ^ k))

-- numbers rounded down to a multiple of s
floor_sub : (d w r : ℕ) → w + r ≡ d → d - r ≡ w
floor_sub d w r e = omega arith

floor_is : (d s : ℕ) → d - d % s ≡ d / s * s
floor_is d s = floor_sub d (d / s * s) (d % s) (div-add-mod' d s)

floor_least : (e s c : ℕ) → 0 < s → c * s ≤ e → c * s ≤ e - e % s
floor_least e s c p h = subst (λ n. c * s ≤ n) (sym (floor_is e s)) (mul-le-mul_right s ((le-div_iff_mul-le p).1 h))

floor_rises : (d e s : ℕ) → 0 < s → d ≤ e → d - d % s ≤ e - e % s
floor_rises d e s p h = subst (λ n. n ≤ e - e % s) (sym (floor_is d s)) (floor_least e s (d / s) p (le_trans (div-mul-le_self d s) h))

-- a number with more bits is not rounded down below one with fewer
apart : (d r high e : ℕ) → d < high → high ≤ e → d - r ≤ e
apart d r high e l m = omega arith

steps_rise : (d e j i k l : ℕ) → d ≤ e → 2 ^ j ≤ d → d < 2 ^ suc j → 2 ^ i ≤ e → e < 2 ^ suc i → k ≡ suc j - 8 → l ≡ suc i - 8
    → d - d % 2 ^ k ≤ e - e % 2 ^ l
steps_rise d e j i k l h low top least most is next = ⊎_elim
    (λ less.
    let whole : 2 ^ (i - l) * 2 ^ l ≡ 2 ^ i = sym (pow-add 2 (i - l) l) ∙ ap (λ x. 2 ^ x) (omega (arith, next)) in
    let floor : 2 ^ (i - l) * 2 ^ l ≤ e - e % 2 ^ l = floor_least e (2 ^ l) (2 ^ (i - l)) (pow_pos l) (subst (λ n. n ≤ e) (sym whole) least) in
    let wide : 2 ^ suc j ≤ 2 ^ i = pow_mono (omega (arith, less)) in
    apart d (d % 2 ^ k) (2 ^ i) (e - e % 2 ^ l) (lt_of_lt_of_le top wide) (subst (λ n. n ≤ e - e % 2 ^ l) whole floor))
    (λ more.
    let same : k ≡ l = ⊎_elim
    (λ past. let wide : 2 ^ suc i ≤ 2 ^ j = pow_mono (omega (arith, past)) in absurd (not_between d e (2 ^ suc i) (2 ^ j) wide low h most))
    (λ up_to. omega (arith, is, next, more, up_to))
    (cases_lt i j) in
    subst (λ n. d - d % 2 ^ k ≤ e - e % 2 ^ n) same (floor_rises d e (2 ^ k) (pow_pos k) h))
    (cases_lt j i)
  where
    not_between : (d e top low : ℕ) → top ≤ low → low ≤ d → d ≤ e → e < top → ⊥
    not_between d e top low a b c f = omega arith

-- a greater number is not rounded down to a lesser one
pub rounded_rises : (d e : ℕ) → d ≤ e → e < 2 ^ 64 → rounded_down d ≤ rounded_down e
unfolding rounded_down
rounded_rises zero e h fits = omega arith
rounded_rises (suc n) e h fits =
    let some : 0 < e = omega (arith, h) in
    let below : suc n < 2 ^ 64 = omega (arith, h, fits) in
    let a = leading_top 64 (suc n) (omega arith) below in
    let b = leading_top 64 e some fits in
    steps_rise (suc n) e a.0 b.0 (64 - count_leading_zeros 64 (suc n) - 8) (64 - count_leading_zeros 64 e - 8) h a.2 a.3 b.2 b.3
    (let f = a.1 in omega (arith, f)) (let f = b.1 in omega (arith, f))

-- the greatest that is rounded down to a number
pub top_small : (d : ℕ) → d < 2 ^ 64 → 64 - count_leading_zeros 64 d ≤ 8 → d ≡ top_of d
unfolding top_of
top_small d fits few =
    let none : 64 - count_leading_zeros 64 d - 8 ≡ 0 = omega (arith, few) in
    subst (λ k. d ≡ saturated (d + (2 ^ k - 1))) (sym none) (omega (arith, fits))

pub top_large : (d : ℕ) → 8 < 64 - count_leading_zeros 64 d
    → saturated (d + (1 * 2 ^ (64 - count_leading_zeros 64 d - 8) % 18446744073709551616 - 1)) ≡ top_of d
unfolding top_of
top_large d many =
    let k = 64 - count_leading_zeros 64 d - 8 in
    let exact : 1 * 2 ^ k % 18446744073709551616 ≡ 1 * 2 ^ k = shl_exact 1 k 64 (omega arith) (omega arith) in
    ap (λ s. saturated (d + (s - 1))) (exact ∙ one-mul (2 ^ k))
