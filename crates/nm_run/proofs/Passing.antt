-- Passes that come back.
use Rattle.std.proofs.Common.{◌≡◌, ℕ, zero, suc, ◌+◌, ◌<◌, List, [], ◌∷◌, ◌++◌, length, map, slice_index, slice_index_or, slice_set, refl, ap, sym, ◌∙◌, arith}
use Rattle.std.specs.List.{flat_map, range_with_len, sum_by}
use Rattle.std.proofs.lemmas.List.{append-nil}
use Rattle.std.proofs.lemmas.List.Sums.{sum_by-set}
use Rattle.nm_run.specs.Passes.{more_of, one_more}

-- one more in one of some lists
pub one_pass_more : {V : Type 0} (count : V → ℕ) (lists : List V) (book : ℕ) (new old : V) → book < length lists → slice_index_or lists book old ≡ old → count new ≡ count old + 1
    → sum_by count (slice_set lists book new) ≡ sum_by count lists + 1
one_pass_more count lists book new old low at more =
    let set = sum_by-set count lists book new old low in
    let same : count (slice_index_or lists book old) ≡ count old = ap count at in
    omega (arith, set, same, more)

-- what is counted of some lists, where one has one more
pub one_there : {V : Type 0} (count : V → ℕ) (lists : List V) (book : ℕ) (new old : V) → book < length lists → slice_index_or lists book old ≡ old → count new ≡ count old + 1
    → map count (slice_set lists book new) ≡ slice_set (map count lists) book (slice_index (map count lists) book + 1)
one_there count [] book new old low at more = absurd (omega (arith, low))
one_there count (list ∷ lists) zero new old low at more = ap (λ n. n ∷ map count lists) (more ∙ ap (λ l. count l + 1) (sym at))
one_there count (list ∷ lists) (suc book) new old low at more = ap (λ l. count list ∷ l) (one_there count lists book new old (omega (arith, low)) at more)

-- behind some, one more
pub more_behind : (counts books : List ℕ) (book : ℕ) → more_of counts (books ++ book ∷ []) ≡ one_more (more_of counts books) book
more_behind counts [] book = refl
more_behind counts (first ∷ books) book = more_behind (one_more counts first) books book

-- and after those, others
pub more_after : (counts first books : List ℕ) → more_of counts (first ++ books) ≡ more_of (more_of counts first) books
more_after counts [] books = refl
more_after counts (book ∷ first) books = more_after (one_more counts book) first books

numbers_more : (a n : ℕ) → range_with_len a (n + 1) ≡ range_with_len a n ++ (a + n) ∷ []
numbers_more a zero = ap (λ x. x ∷ []) (omega arith)
numbers_more a (suc n) =
    let next : suc n + 1 ≡ suc (n + 1) = omega arith in
    ap (range_with_len a) next ∙ ap (λ l. a ∷ l) (numbers_more (a + 1) n ∙ ap (λ x. range_with_len (a + 1) n ++ x ∷ []) (omega arith))

-- one more of each of the first so many books, and of the next
pub more_in_order : (counts : List ℕ) (n : ℕ) → more_of counts (range_with_len 0 (n + 1)) ≡ one_more (more_of counts (range_with_len 0 n)) n
more_in_order counts n = ap (more_of counts) (numbers_more 0 n ∙ ap (λ x. range_with_len 0 n ++ x ∷ []) (omega arith)) ∙ more_behind counts (range_with_len 0 n) n

-- what each of some gives back, and one more of them
pub more_of_each : {X : Type 0} (books : X → List ℕ) (counts : List ℕ) (xs : List X) (x : X)
    → more_of counts (flat_map books (xs ++ x ∷ [])) ≡ more_of (more_of counts (flat_map books xs)) (books x)
more_of_each books counts [] x = ap (more_of counts) (append-nil (books x))
more_of_each books counts (y ∷ xs) x =
    more_after counts (books y) (flat_map books (xs ++ x ∷ []))
    ∙ more_of_each books (more_of counts (books y)) xs x
    ∙ ap (λ l. more_of l (books x)) (sym (more_after counts (books y) (flat_map books xs)))
