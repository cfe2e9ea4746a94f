-- Files that are made.
use Rattle.std.specs.Prelude.{◌≡◌, ℕ, List, [], ◌∷◌, ◌++◌, map, Option, Some}

-- files, each with its name and its octets
abbrev pub Files : Type 0
Files = List (List ℕ × List ℕ)

-- a file took nothing so far, and has that as its octets, if it is known which files were placed
abbrev pub IsEmpty : Option Files → Option (List ℕ) → Type 0
IsEmpty made taken = (first : Files) → made ≡ Some first → taken ≡ Some []

-- a closed file is to have this name, and has what was taken
abbrev pub IsClosed : List ℕ → Option (List ℕ) → Option (List ℕ × List ℕ) → Type 0
IsClosed name taken closed = (octets : List ℕ) → taken ≡ Some octets → closed ≡ Some (name, octets)

-- behind the files that were placed before come these, if it is known which they are
abbrev pub HasMade : Option Files → Option Files → Files → Type 0
HasMade before after files = (first : Files) → before ≡ Some first → after ≡ Some (first ++ files)

-- behind them come the first of these
abbrev pub HasMadeSome : Option Files → Option Files → Files → Type 0
HasMadeSome before after files = (first : Files) → before ≡ Some first
    → (done : Files) × (rest : Files) × (files ≡ done ++ rest) × (after ≡ Some (first ++ done))

-- behind the files that were placed before comes this one
abbrev pub HasPlaced : Option Files → Option Files → Option (List ℕ × List ℕ) → Type 0
HasPlaced before after closed =
    (file : List ℕ × List ℕ) → closed ≡ Some file → HasMade before after (file ∷ [])

-- a closed file is this one, if it is known which files were placed
abbrev pub IsWhole : Option Files → Option (List ℕ × List ℕ) → List ℕ × List ℕ → Type 0
IsWhole made closed file = (first : Files) → made ≡ Some first → closed ≡ Some file

-- closed files are these, in order
abbrev pub AreWhole : Option Files → List (Option (List ℕ × List ℕ)) → Files → Type 0
AreWhole made closed files =
    (first : Files) → made ≡ Some first → closed ≡ map (λ file. Some file) files
