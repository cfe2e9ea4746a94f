-- Laws of the Internet checksum.
use Rattle.std.proofs.Common.{◌≡◌, ℕ, zero, suc, ◌+◌, ◌-◌, ◌*◌, ◌/◌, ◌%◌, ◌<◌, ◌≤◌, ◌⊎◌, inl, inr, ⊎_elim, ◌==◌, List, [], ◌∷◌, ◌++◌, length, drop, slice_index, refl, sym, ap, ◌∙◌, arith}
use Rattle.std.proofs.Math.Nat.{mod-add-mod, mod-eq_of_lt, add-mul-mod_self_right}
use Rattle.std.proofs.lemmas.Bool.{cases_lt, cond_both, eqb-true, eqb-false}
use Rattle.nm_packet.specs.Udp.{udp_checksum_of}
use Rattle.nm_packet.specs.Octets.{long_word_at, word_at}
use Rattle.nm_packet.specs.Checksum.{word_sum, folded, checksum_of}

-- folding a part first changes nothing
pub folded-add : (a b : ℕ) → folded (folded a + b) ≡ folded (a + b)
folded-add zero b = refl
folded-add (suc m) b =
    let left : m % 65535 + 1 + b ≡ suc (m % 65535 + b) = omega arith in
    let middle : (m % 65535 + b) % 65535 + 1 ≡ (m + b) % 65535 + 1 = ap (λ (x : ℕ). x + 1) (mod-add-mod m 65535 b) in
    let right : suc (m + b) ≡ suc m + b = omega arith in
    ap folded left ∙ middle ∙ ap folded right

pub folded_small : (n : ℕ) → n ≤ 65535 → folded n ≡ n
folded_small zero h = refl
folded_small (suc m) h = ap (λ (x : ℕ). x + 1) (mod-eq_of_lt (omega arith)) ∙ omega arith

pub folded_le : (n : ℕ) → folded n ≤ 65535
folded_le zero = omega arith
folded_le (suc m) = omega arith

-- 65,535 and its multiples change nothing but a sum of 0
pub folded-add_multiple : (n k : ℕ) → 0 < n → folded (n + k * 65535) ≡ folded n
folded-add_multiple zero k some = absurd (omega arith)
folded-add_multiple (suc m) k some =
    let e : suc m + k * 65535 ≡ suc (m + k * 65535) = omega arith in
    ap folded e ∙ ap (λ (x : ℕ). x + 1) (add-mul-mod_self_right m k 65535)

-- 65,536 times a number folds to what the number does
pub folded-carried : (a b : ℕ) → folded (65536 * a + b) ≡ folded (a + b)
folded-carried zero b = ap folded (omega arith)
folded-carried (suc a) b =
    let e : 65536 * suc a + b ≡ suc a + b + suc a * 65535 = omega arith in
    ap folded e ∙ folded-add_multiple (suc a + b) (suc a) (omega arith)

pub folded-add_same : (a b c : ℕ) → folded a ≡ folded b → folded (a + c) ≡ folded (b + c)
folded-add_same a b c same = sym (folded-add a c) ∙ ap (λ (x : ℕ). folded (x + c)) same ∙ folded-add b c

-- octets that make whole words add what they add wherever they stand
pub word_sum-append : (n : ℕ) (xs ys : List ℕ) → length xs ≡ 2 * n → word_sum (xs ++ ys) ≡ word_sum xs + word_sum ys
word_sum-append n [] ys h = omega arith
word_sum-append n (x ∷ []) ys h = absurd (omega arith)
word_sum-append zero (x ∷ y ∷ xs) ys h = absurd (omega arith)
word_sum-append (suc n) (x ∷ y ∷ xs) ys h = omega (arith, word_sum-append n xs ys (omega arith))

-- the next word of a sum
pub word_sum-next : (n : ℕ) (octets : List ℕ) → n + 2 ≤ length octets
    → word_sum (drop n octets) ≡ slice_index octets n * 256 + slice_index octets (suc n) + word_sum (drop (suc (suc n)) octets)
word_sum-next zero (high ∷ low ∷ rest) long = omega arith
word_sum-next zero (high ∷ []) long = absurd (omega arith)
word_sum-next zero [] long = absurd (omega arith)
word_sum-next (suc n) (first ∷ rest) long = word_sum-next n rest (omega arith)
word_sum-next (suc n) [] long = absurd (omega arith)

-- A sum with its next word, and what follows it.
pub folded-next : (sum next word : ℕ) (octets : List ℕ) → 2 ≤ length octets → word ≡ word_at octets 0 → next ≡ folded (sum + word)
    → folded (next + word_sum (drop 2 octets)) ≡ folded (sum + word_sum octets)
folded-next sum next word octets long is added =
    let rest = word_sum (drop 2 octets) in
    ap (λ (s : ℕ). folded (s + rest)) added ∙ folded-add (sum + word) rest ∙ ap folded (omega (arith, word_sum-next 0 octets long))

-- what is written completes the sum
pub folded-checksum_of : (sum : ℕ) → folded (sum + checksum_of sum) ≡ 65535
folded-checksum_of zero = refl
folded-checksum_of (suc n) =
    let small : n % 65535 < 65535 = omega arith in
    let whole : suc n + (65535 - (n % 65535 + 1)) ≡ suc (65534 + n / 65535 * 65535) = omega arith in
    let rest : (65534 + n / 65535 * 65535) % 65535 + 1 ≡ 65535 = ap (λ (x : ℕ). x + 1) (add-mul-mod_self_right 65534 (n / 65535) 65535) in
    ap folded whole ∙ rest

-- no other checksum completes the sum, but for 65535 where 0 is written
pub one_checksum : (sum c : ℕ) → c ≤ 65535 → folded (sum + c) ≡ 65535 → (c ≡ checksum_of sum) ⊎ ((c ≡ 65535) × (checksum_of sum ≡ 0))
one_checksum zero c small full =
    let e : folded c ≡ 65535 = ap folded (let z : c ≡ 0 + c = omega arith in z) ∙ full in
    inl (omega (arith, folded_small c small))
one_checksum (suc n) c small full =
    let e : suc n + c ≡ suc (n + c) = omega arith in
    let rest : (n + c) % 65535 + 1 ≡ 65535 = ap folded (sym e) ∙ full in
    ⊎_elim (λ h. inl (omega arith)) (λ h. inr (omega arith, omega arith)) (cases_lt (n % 65535 + c) 65535)

-- where the checksum comes out as 0, 65535 completes the sum too
folded-add_full : (sum : ℕ) → checksum_of sum ≡ 0 → folded (sum + 65535) ≡ 65535
folded-add_full zero h = refl
folded-add_full (suc n) h =
    let e : suc n + 65535 ≡ suc (n + 65535) = omega arith in
    let rest : (n + 65535) % 65535 + 1 ≡ 65535 = omega arith in
    ap folded e ∙ rest

-- UDP's checksum completes the sum, and is not 0
pub folded-udp_checksum_of : (sum : ℕ) → folded (sum + udp_checksum_of sum) ≡ 65535
folded-udp_checksum_of sum = cond_both (checksum_of sum == 0) 65535 (checksum_of sum) (λ (c : ℕ). folded (sum + c) ≡ 65535)
    (λ e. folded-add_full sum (eqb-true _ 0 e))
    (λ e. folded-checksum_of sum)

pub udp_checksum_of_pos : (sum : ℕ) → 0 < udp_checksum_of sum
udp_checksum_of_pos sum = cond_both (checksum_of sum == 0) 65535 (checksum_of sum) (λ (c : ℕ). 0 < c)
    (λ e. omega arith)
    (λ e. let other = eqb-false (checksum_of sum) 0 e in omega (arith, other))

pub udp_checksum_of_le : (sum : ℕ) → udp_checksum_of sum ≤ 65535
udp_checksum_of_le sum = cond_both (checksum_of sum == 0) 65535 (checksum_of sum) (λ (c : ℕ). c ≤ 65535)
    (λ e. omega arith)
    (λ e. omega arith)

-- A sum without d, where the whole completes with the checksum c, folds as the difference that c gives.
pub folded-difference : (sum c d : ℕ) → 0 < sum → c ≤ 65535 → d < 65535 → folded (sum + d + c) ≡ 65535 → folded sum ≡ folded (65535 - c + (65535 - d))
folded-difference zero c d some small less full = absurd (omega arith)
folded-difference (suc n) c d some small less full =
    let e : suc n + d + c ≡ suc (n + d + c) = omega arith in
    let whole : (n + d + c) % 65535 + 1 ≡ 65535 = ap folded (sym e) ∙ full in
    let f : 65535 - c + (65535 - d) ≡ suc (131069 - c - d) = omega arith in
    let same : n % 65535 + 1 ≡ (131069 - c - d) % 65535 + 1 = omega arith in
    same ∙ ap folded (sym f)

-- Four words that are added at once, the first of them highest. Then what follows them.
pub folded-next_four : (sum four wide : ℕ) (octets : List ℕ) → 8 ≤ length octets
    → four ≡ long_word_at octets 0 * 4294967296 + long_word_at octets 4 → folded wide ≡ folded (sum + four)
    → folded (wide + word_sum (drop 8 octets)) ≡ folded (sum + word_sum octets)
folded-next_four sum four wide octets long is added =
    let next = λ (n : ℕ) (h : n + 2 ≤ length octets). word_sum-next n octets h in
    let w = λ (n : ℕ). word_at octets n in
    let rest = sum + word_sum (drop 8 octets) in
    let e1 : sum + four + word_sum (drop 8 octets) ≡ 65536 * ((w 0 * 65536 + w 2) * 65536 + w 4) + (w 6 + rest) = omega arith in
    let e2 : (w 0 * 65536 + w 2) * 65536 + w 4 + (w 6 + rest) ≡ 65536 * (w 0 * 65536 + w 2) + (w 4 + w 6 + rest) = omega arith in
    let e3 : w 0 * 65536 + w 2 + (w 4 + w 6 + rest) ≡ 65536 * w 0 + (w 2 + w 4 + w 6 + rest) = omega arith in
    let all : w 0 + (w 2 + w 4 + w 6 + rest) ≡ sum + word_sum octets = omega (arith, next 0 (omega arith), next 2 (omega arith), next 4 (omega arith), next 6 (omega arith)) in
    folded-add_same wide (sum + four) (word_sum (drop 8 octets)) added
    ∙ ap folded e1 ∙ folded-carried _ _ ∙ ap folded e2 ∙ folded-carried _ _ ∙ ap folded e3 ∙ folded-carried _ _ ∙ ap folded all

-- The five times two words that each header has, added two at a time. Then what follows them.
pub folded-header : (octets : List ℕ) (rest : ℕ) → 20 ≤ length octets → rest ≡ word_sum (drop 20 octets)
    → folded (long_word_at octets 0 + long_word_at octets 4 + long_word_at octets 8 + long_word_at octets 12 + long_word_at octets 16 + rest) ≡ folded (word_sum octets)
folded-header octets rest long is =
    let next = λ (n : ℕ) (h : n + 2 ≤ length octets). word_sum-next n octets h in
    let w = λ (n : ℕ). word_at octets n in
    let highs = w 0 + w 4 + w 8 + w 12 + w 16 in
    let lows = w 2 + w 6 + w 10 + w 14 + w 18 + rest in
    let e : long_word_at octets 0 + long_word_at octets 4 + long_word_at octets 8 + long_word_at octets 12 + long_word_at octets 16 + rest ≡ 65536 * highs + lows = omega arith in
    let front : word_sum octets ≡ w 0 + w 2 + w 4 + w 6 + w 8 + word_sum (drop 10 octets) =
    omega (arith, next 0 (omega arith), next 2 (omega arith), next 4 (omega arith), next 6 (omega arith), next 8 (omega arith)) in
    let back : word_sum (drop 10 octets) ≡ w 10 + w 12 + w 14 + w 16 + w 18 + rest =
    omega (arith, next 10 (omega arith), next 12 (omega arith), next 14 (omega arith), next 16 (omega arith), next 18 (omega arith)) in
    let all : highs + lows ≡ word_sum octets = omega arith in
    ap folded e ∙ folded-carried highs lows ∙ ap folded all
