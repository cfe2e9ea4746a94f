-- The values of a source, one more.
use Rattle.std.proofs.Common.{◌≡◌, ℕ, zero, suc, ◌+◌, ◌^◌, ◌<◌, List, [], ◌∷◌, ◌++◌, length, take, Some, slice_get, get_or, map, refl, sym, ap, ◌∙◌, arith, append_assoc, append-nil, codes, decimal}
use Rattle.std.specs.Borrow.{Bor}
use Rattle.nm_base.specs.Count.{saturated}
use Rattle.nm_report.specs.Sources.{row_values, source_lines}
use Rattle.nm_report.specs.Values.{value_line}

some_is : {X : Type 0} (x y : X) → Some x ≡ Some y → x ≡ y
some_is x y e = cc

-- a line more
lines_push : (name : List ℕ) (ms : List (List ℕ)) (vs : List ℕ) (n v : ℕ) (m : List ℕ) → slice_get ms n ≡ Some m → slice_get vs n ≡ Some v
    → source_lines name (take (n + 1) ms) vs ≡ source_lines name (take n ms) vs ++ value_line (codes "source") name m v
lines_push name [] vs n v m at is = absurd (cc)
lines_push name (k ∷ ms) [] n v m at is = absurd (cc)
lines_push name (k ∷ ms) (w ∷ vs) zero v m at is =
    append-nil (value_line (codes "source") name k w) ∙ (λ i. value_line (codes "source") name (some_is k m at i) (some_is w v is i))
lines_push name (k ∷ ms) (w ∷ vs) (suc n) v m at is =
    let e : suc n + 1 ≡ suc (n + 1) = omega arith in
    let first = value_line (codes "source") name k w in
    ap (λ i. source_lines name (take i (k ∷ ms)) (w ∷ vs)) e ∙ ap (λ l. first ++ l) (lines_push name ms vs n v m at is)
    ∙ sym (append_assoc first (source_lines name (take n ms) vs) (value_line (codes "source") name m v))

pub lines_more : (name : List ℕ) (ms : List (List ℕ)) (vs : List ℕ) (n v : ℕ) (m front old new : List ℕ) → slice_get ms n ≡ Some m → slice_get vs n ≡ Some v
    → old ≡ front ++ source_lines name (take n ms) vs → new ≡ old ++ value_line (codes "source") name m v
    → new ≡ front ++ source_lines name (take (n + 1) ms) vs
lines_more name ms vs n v m front old new at is so_far more =
    more ∙ ap (λ l. l ++ value_line (codes "source") name m v) so_far
    ∙ append_assoc front (source_lines name (take n ms) vs) (value_line (codes "source") name m v)
    ∙ ap (λ l. front ++ l) (sym (lines_push name ms vs n v m at is))

-- a cell more
row_push : (vs : List ℕ) (n v : ℕ) → slice_get vs n ≡ Some v → row_values (take (n + 1) vs) ≡ row_values (take n vs) ++ (codes "," ++ decimal v)
row_push [] n v is = absurd (cc)
row_push (w ∷ vs) zero v is = append-nil (codes "," ++ decimal w) ∙ (λ i. codes "," ++ decimal (some_is w v is i))
row_push (w ∷ vs) (suc n) v is =
    let e : suc n + 1 ≡ suc (n + 1) = omega arith in
    let first = codes "," ++ decimal w in
    ap (λ i. row_values (take i (w ∷ vs))) e ∙ ap (λ l. first ++ l) (row_push vs n v is)
    ∙ sym (append_assoc first (row_values (take n vs)) (codes "," ++ decimal v))

behind : (a b c d : List ℕ) → ((a ++ b) ++ c) ++ d ≡ a ++ (b ++ (c ++ d))
behind a b c d = simp append_assoc

pub row_more : (vs : List ℕ) (n v : ℕ) (front old mid new : List ℕ) → slice_get vs n ≡ Some v → old ≡ front ++ row_values (take n vs)
    → mid ≡ old ++ codes "," → new ≡ mid ++ decimal v → new ≡ front ++ row_values (take (n + 1) vs)
row_more vs n v front old mid new is so_far comma more =
    more ∙ ap (λ l. l ++ decimal v) (comma ∙ ap (λ l. l ++ codes ",") so_far)
    ∙ behind front (row_values (take n vs)) (codes ",") (decimal v)
    ∙ ap (λ l. front ++ l) (sym (row_push vs n v is))

-- the text that stands in this place
pub text_at : (xs : List (Bor (List ℕ))) (i : ℕ) (d : Bor (List ℕ)) → i < length xs → slice_get (map (λ (r : Bor (List ℕ)). r.now) xs) i ≡ Some (get_or xs i d).now
text_at [] i d low = absurd (omega arith)
text_at (x ∷ xs) zero d low = refl
text_at (x ∷ xs) (suc i) d low = text_at xs i d (omega arith)

-- five parts of a list
pub five_parts : (a b c d e one two three four five : List ℕ) → one ≡ a → two ≡ one ++ b → three ≡ two ++ c → four ≡ three ++ d → five ≡ four ++ e
    → five ≡ ((a ++ b) ++ c) ++ (d ++ e)
five_parts a b c d e one two three four five h1 h2 h3 h4 h5 =
    h5 ∙ ap (λ l. l ++ e) (h4 ∙ ap (λ l. l ++ d) (h3 ∙ ap (λ l. l ++ c) (h2 ∙ ap (λ l. l ++ b) h1))) ∙ append_assoc ((a ++ b) ++ c) d e

-- a count that is not at its greatest
pub same_count : (count n : ℕ) → count ≡ saturated n → n < 2 ^ 64 → count ≡ n
same_count count n e few = omega arith
