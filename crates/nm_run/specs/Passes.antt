-- Passes that come back, to be closed with their books.
use Rattle.std.specs.Prelude.{ℕ, ◌+◌, List, [], ◌∷◌, length, map, slice_index, slice_set}
use Rattle.std.specs.List.{range_with_len, sum_by}
use Rattle.nm_run.specs.declared.closing.Passes.{Passes}
use Rattle.nm_run.specs.declared.sides.SideEnd.{SideEnd}

-- how many there are, of all books
abbrev pub pass_count : Passes → ℕ
pass_count passes = sum_by (λ list. length list.items) passes.lists.items

-- how many there are of each book
abbrev pub pass_counts : Passes → List ℕ
pass_counts passes = map (λ list. length list.items) passes.lists.items

-- one more of each of these books, which are numbers of places
abbrev pub one_more : (counts : List ℕ) → (book : ℕ) → List ℕ
one_more counts book = slice_set counts book (slice_index counts book + 1)

abbrev pub more_of : (counts books : List ℕ) → List ℕ
more_of counts [] = counts
more_of counts (book ∷ books) = more_of (one_more counts book) books

-- the books of which a replica that has run gives passes back: its own, and each of the run
abbrev pub side_books : {S : Type 0} → SideEnd S → List ℕ
side_books end = end.index ∷ range_with_len 0 (length end.passes.items)

-- how many a replica that has run gives back: that of its book, and one of each book of the run
abbrev pub given_back : {S : Type 0} → SideEnd S → ℕ
given_back end = 1 + length end.passes.items
