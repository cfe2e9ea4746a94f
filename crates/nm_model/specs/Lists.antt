-- Lists read at a number, their beginnings, and functions changed at a number.
use Rattle.std.specs.Prelude.{◌≡◌, ℕ, zero, suc, ◌<◌, Bool, if◌then◌else◌, ◌==◌, List, [], ◌∷◌, ◌++◌, Option, Some, None}

-- member n, counted from 0
abbrev pub nth : {A : Type 0} → List A → ℕ → Option A
nth [] n = None
nth (x ∷ xs) zero = Some x
nth (x ∷ xs) (suc n) = nth xs n

abbrev pub IsPrefix : {A : Type 0} → List A → List A → Type 0
IsPrefix {A} xs ys = (rest : List A) × (xs ++ rest ≡ ys)

-- f, with v at i
unfoldable pub set_at : {A : Type 0} → (ℕ → A) → ℕ → A → ℕ → A
set_at f i v j = if j == i then v else f j

abbrev pub keep_where : {A : Type 0} → (A → Bool) → List A → List A
keep_where p [] = []
keep_where p (x ∷ xs) = if p x then x ∷ keep_where p xs else keep_where p xs

-- messages (time, packet) whose times strictly rise
abbrev pub IsRising : {P : Type 0} → List (ℕ × P) → Type 0
IsRising {P} l = (m n : ℕ) (a b : ℕ × P) → m < n → nth l m ≡ Some a → nth l n ≡ Some b → a.0 < b.0
