-- The parts of a text, and the numbers that they write.
use Rattle.std.proofs.Common.{◌≡◌, ℕ, ◌<◌, ◌^◌, false, true, List, [], ◌∷◌, ◌++◌, length, map, decimal, refl, ap, sym, ◌∙◌, arith, length-append, append_assoc, eq-eqb, Result, Ok, Err, OnOk, OnErr}
use Rattle.std.specs.Bool.{◌==◌}
use Rattle.std.specs.Result.{is_err}
use Rattle.std.specs.List.{All}
use Rattle.std.proofs.lemmas.List.Elements.{All-head, All-tail}
use Rattle.std.proofs.lemmas.List.Splits.{slice_split_at, slice_split_none}
use Rattle.std.proofs.lemmas.List.{length-map, map-append}
use Rattle.std.proofs.lemmas.Fmt.{decimal_injective}
use Rattle.nm_base.specs.Text.{HasNo, parts_at}

abbrev pub AreSmall : List ℕ → Type 0
AreSmall numbers = All (λ n. n < 2 ^ 64) numbers

-- the first part ends at the first octet of this value
pub parts_at-split : (octet : ℕ) (text part after : List ℕ) → text ≡ part ++ octet ∷ after → HasNo octet part → parts_at octet text ≡ part ∷ parts_at octet after
parts_at-split octet text part after e none = ap (λ (t : List ℕ). parts_at octet t) e ∙ slice_split_at (λ (b : ℕ). b == octet) part octet after none (eq-eqb octet octet refl)

-- a text that has no octet of this value is one part
pub parts_at-whole : (octet : ℕ) (text : List ℕ) → HasNo octet text → parts_at octet text ≡ text ∷ []
parts_at-whole octet text none = slice_split_none (λ (b : ℕ). b == octet) text none

-- a number of one of the parts
pub part_is_number : (numbers : List ℕ) (before : List (List ℕ)) (part : List ℕ) (after : List (List ℕ)) → AreSmall numbers
    → map decimal numbers ≡ before ++ part ∷ after → (n : ℕ) × (n < 2 ^ 64) × (part ≡ decimal n)
part_is_number [] [] part after small e = absurd (cc)
part_is_number [] (x ∷ before) part after small e = absurd (cc)
part_is_number (n ∷ numbers) [] part after small e = (n, All-head (λ n. n < 2 ^ 64) n numbers small, cc)
part_is_number (n ∷ numbers) (x ∷ before) part after small e =
    part_is_number numbers before part after (All-tail (λ n. n < 2 ^ 64) n numbers small) cc

-- numbers are told apart by their texts
pub same_numbers : (xs ys : List ℕ) → AreSmall xs → AreSmall ys → map decimal xs ≡ map decimal ys → xs ≡ ys
same_numbers [] [] p q e = refl
same_numbers [] (y ∷ ys) p q e = absurd (cc)
same_numbers (x ∷ xs) [] p q e = absurd (cc)
same_numbers (x ∷ xs) (y ∷ ys) p q e =
    let one = decimal_injective x y (All-head (λ n. n < 2 ^ 64) x xs p) (All-head (λ n. n < 2 ^ 64) y ys q) cc in
    let more = same_numbers xs ys (All-tail (λ n. n < 2 ^ 64) x xs p) (All-tail (λ n. n < 2 ^ 64) y ys q) cc in
    cc

-- so many numbers and one more part are more parts
pub more_parts : (numbers some : List ℕ) (part : List ℕ) (after : List (List ℕ)) → map decimal numbers ≡ map decimal some ++ part ∷ after → length some < length numbers
more_parts numbers some part after e =
    let l = ap (λ (x : List (List ℕ)). length x) e in
    omega (arith, simp (length-append, length-map) at l)

-- where the numbers are those of all parts, and some are read: the next part follows them, or the last one does
pub next_part : (text rest part after some numbers : List ℕ) → parts_at 32 text ≡ map decimal some ++ parts_at 32 rest → rest ≡ part ++ 32 ∷ after → HasNo 32 part
    → parts_at 32 text ≡ map decimal numbers → map decimal numbers ≡ map decimal some ++ part ∷ parts_at 32 after
next_part text rest part after some numbers read cut none e =
    sym e ∙ read ∙ ap (λ (parts : List (List ℕ)). map decimal some ++ parts) (parts_at-split 32 rest part after cut none)

pub last_part : (text rest some numbers : List ℕ) → parts_at 32 text ≡ map decimal some ++ parts_at 32 rest → HasNo 32 rest
    → parts_at 32 text ≡ map decimal numbers → map decimal numbers ≡ map decimal some ++ rest ∷ []
last_part text rest some numbers read none e =
    sym e ∙ read ∙ ap (λ (parts : List (List ℕ)). map decimal some ++ parts) (parts_at-whole 32 rest none)

-- a part that writes a number is one more of those that are read
pub one_more : (some : List ℕ) (n : ℕ) (part : List ℕ) (after : List (List ℕ)) → part ≡ decimal n → map decimal some ++ part ∷ after ≡ map decimal (some ++ n ∷ []) ++ after
one_more some n part after e =
    ap (λ (p : List ℕ). map decimal some ++ p ∷ after) e
    ∙ sym (append_assoc (map decimal some) (decimal n ∷ []) after)
    ∙ ap (λ (parts : List (List ℕ)). parts ++ after) (sym (map-append decimal some (n ∷ [])))

-- what holds where a call failed, and where it did not
pub from_err : {T E : Type 0} (P : Type 0) (r : Result T E) → OnErr r P → true ≡ is_err r → P
from_err P (Ok x) h e = absurd (cc)
from_err P (Err x) h e = h

pub from_ok : {T E : Type 0} (P : Type 0) (r : Result T E) → OnOk r P → false ≡ is_err r → P
from_ok P (Ok x) h e = h
from_ok P (Err x) h e = absurd (cc)
