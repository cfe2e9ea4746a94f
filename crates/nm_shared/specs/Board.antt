-- A clock board: its words, the seats of its callers, and its final words.
use Rattle.std.specs.Prelude.{◌≡◌, ℕ, List, map, slice_index, vec_len}
use mathlib.Core.Option.{some}
use lib.ListN.{get_elem?}
use Rattle.atomic_table.specs.Seated.{TableId}
use Rattle.nm_shared.specs.declared.board.ClockBoard.{ClockBoard}
use Rattle.nm_shared.specs.declared.board.OwnerSeat.{OwnerSeat}
use Rattle.nm_shared.specs.declared.board.Seat.{Seat}
use Rattle.nm_shared.specs.declared.word.View.{View}
use Rattle.nm_shared.specs.declared.word.WordSeat.{WordSeat}
use Rattle.nm_shared.specs.declared.word.Word.{Word}
use Rattle.nm_shared.specs.Clock.{Fits, looked, owner}

-- how many words there are, and the word of an owner
abbrev pub word_count : ClockBoard → ℕ
word_count board = vec_len board.words

abbrev pub owned_word : OwnerSeat → ℕ
owned_word o = o.word

-- the table of a word or a seat, and what a seat knows
abbrev pub word_id : Word → TableId
word_id w = w.table.shared.table_id

abbrev pub id_of : WordSeat → TableId
id_of p = p.seat.table_id

abbrev pub view_of : WordSeat → View
view_of p = p.seat.me.0

-- the seat is at the word k
abbrev pub SitsAt : List Word → ℕ → WordSeat → Type 0
SitsAt ws k p = get_elem? (map word_id ws) k ≡ some (id_of p)

-- a seat at each word, in order
abbrev pub Sit : List Word → List WordSeat → Type 0
Sit ws ps = map id_of ps ≡ map word_id ws

-- P holds of each element and its place
abbrev pub Each : {A : Type 0} → (ℕ → A → Type 0) → List A → Type 0
Each {A} P xs = (w : ℕ) (a : A) → get_elem? xs w ≡ some a → P w a

-- the seats are this board's
abbrev pub IsOwnerOf : ClockBoard → OwnerSeat → Type 0
IsOwnerOf board o = SitsAt board.words.items o.word o.place

abbrev pub IsSeatOf : ClockBoard → Seat → Type 0
IsSeatOf board s = Sit board.words.items s.places.items

abbrev pub AreOwnersOf : ClockBoard → List OwnerSeat → Type 0
AreOwnersOf board os = Each (λ _ o. IsOwnerOf board o) os

abbrev pub AreSeatsOf : ClockBoard → List Seat → Type 0
AreSeatsOf board ss = Each (λ _ s. IsSeatOf board s) ss

-- the greatest clock to which the owner raised its word, 0 at first
abbrev pub raised_to : OwnerSeat → ℕ
raised_to o = slice_index (view_of o.place).owned 0

-- the k-th seat owns the k-th word, and raised nothing
abbrev pub AreOwners : List Word → List OwnerSeat → Type 0
AreOwners ws os = Each (λ k o. (o.word ≡ k) × SitsAt ws k o.place × (view_of o.place ≡ owner)) os

abbrev pub AreFirstOwners : ClockBoard → List OwnerSeat → Type 0
AreFirstOwners board os = AreOwners board.words.items os

-- the word is the value that the seat owns, if it owns the word, and the seat found no more
abbrev pub FitsAt : List ℕ → ℕ → WordSeat → Type 0
FitsAt ns k p = Fits (slice_index ns k) (view_of p)

abbrev pub FitAll : List ℕ → List WordSeat → Type 0
FitAll ns ps = Each (FitsAt ns) ps

-- the seat found n at the word k, no less than it had found there, and looked once more; nothing
-- else of it changed
abbrev pub FindsAt : List WordSeat → ℕ → ℕ → List WordSeat → Type 0
FindsAt ps k n qs =
    (v : View) × (get_elem? (map view_of ps) k ≡ some v)
    × (map view_of qs ≡ lib.ListN.set (map view_of ps) k (looked n v)) × Fits n v

abbrev pub LooksAt : Seat → ℕ → ℕ → Seat → Type 0
LooksAt s k n t = FindsAt s.places.items k n t.places.items

-- the seat found this last at the word k
abbrev pub FoundAt : Seat → ℕ → ℕ → Type 0
FoundAt s k n = (v : View) × (get_elem? (map view_of s.places.items) k ≡ some v) × (v.found ≡ n)

-- each owner's word is the greatest clock to which it raised it
abbrev pub ClocksAre : List ℕ → List OwnerSeat → Type 0
ClocksAre ns os = Each (λ _ o. slice_index ns o.word ≡ raised_to o) os

-- no seat ever found more than a word has
abbrev pub NoneFoundMore : List ℕ → List Seat → Type 0
NoneFoundMore ns ss = Each (λ _ s. FitAll ns s.places.items) ss
