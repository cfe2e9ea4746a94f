use Rattle.std.proofs.Common.{rules, ◌≡◌, ℕ, ◌+◌, ◌<◌, ◌≤◌, length, ◌/◌, true, false, [], ◌∷◌, ◌++◌, ap, sym, ◌∙◌}
use Rattle.nm_shared.specs.Board.{AreSeatsOf, IsOwnerOf, IsSeatOf}
use Rattle.nm_shared.specs.declared.board.OwnerSeat.{OwnerSeat}
use Rattle.nm_shared.specs.declared.board.Seat.{Seat}
use Rattle.nm_shared.proofs.Closings.{each_back, each_front, each_snoc}
use Rattle.nm_replica_tests.proofs.Owners.{is_owner, is_third, last_is_owner, rest_are_owners}
use Rattle.nm_replica_tests.proofs.tests.boards.what_is_raised_is_found.Goals as goal

pub raise-requires-clause-owner : goal.raise-requires-clause-owner
raise-requires-clause-owner g c =
    is_owner c.in_ok-board.board c.in_ok-board.owners.items c.pop.new.self.items c.pop-2.new.self.items
    c.in-Some-Some-Some.last c.in-Some-Some-Some.owner c.in_ok-board.ensures.owners (search rules) (search rules)

pub raise-requires-clause-channel : goal.raise-requires-clause-channel
raise-requires-clause-channel g c =
    let word = is_third c.in_ok-board.board c.in_ok-board.owners.items c.pop.new.self.items c.pop-2.new.self.items
    c.in-Some-Some-Some.last c.in-Some-Some-Some.owner c.in_ok-board.ensures.owners (search rules) (search rules) (search rules) in
    c.null.ensures ∙ ap (λ n. n / 2) (sym word)

pub look-requires-clause-seat : goal.look-requires-clause-seat
look-requires-clause-seat g c =
    let board = c.in_ok-board.board in
    let seats : AreSeatsOf board c.in_ok-board.seats.items = c.in_ok-board.ensures.seats in
    let three : c.in_ok-board.seats.items ≡ c.pop-3.new.self.items ++ c.in-Some-Some-Some.seat ∷ [] = search rules in
    each_back (λ (k : ℕ) (s : Seat). IsSeatOf board s) c.in_ok-board.seats.items c.pop-3.new.self.items c.in-Some-Some-Some.seat three seats

pub raise-requires-2-clause-channel : goal.raise-requires-2-clause-channel
raise-requires-2-clause-channel g c =
    let word = is_third c.in_ok-board.board c.in_ok-board.owners.items c.pop.new.self.items c.pop-2.new.self.items
    c.in-Some-Some-Some.last c.in-Some-Some-Some.owner c.in_ok-board.ensures.owners (search rules) (search rules) (search rules) in
    c.null-2.ensures ∙ ap (λ n. n / 2) (sym (c.raise.ensures.word ∙ word))

pub close-words-requires-clause-owners : goal.close-words-requires-clause-owners
close-words-requires-clause-owners g c =
    let these = rest_are_owners c.in_ok-board.board c.in_ok-board.owners.items c.pop.new.self.items c.pop-2.new.self.items
    c.in-Some-Some-Some.last c.in-Some-Some-Some.owner c.in_ok-board.ensures.owners (search rules) (search rules) in
    let last = last_is_owner c.in_ok-board.board c.in_ok-board.owners.items c.pop.new.self.items c.pop-2.new.self.items
    c.in-Some-Some-Some.last c.in-Some-Some-Some.owner c.in_ok-board.ensures.owners (search rules) (search rules) in
    let is_owner = λ (k : ℕ) (o : OwnerSeat). IsOwnerOf c.in_ok-board.board o in
    let put : c.push.new.self.items ≡ c.pop-2.new.self.items ++ c.raise-2.new.owner ∷ [] = search rules in
    let put_last : c.push-2.new.self.items ≡ c.push.new.self.items ++ c.in-Some-Some-Some.last ∷ [] = search rules in
    each_snoc is_owner c.push-2.new.self.items c.push.new.self.items c.in-Some-Some-Some.last put_last
    (each_snoc is_owner c.push.new.self.items c.pop-2.new.self.items c.raise-2.new.owner put these c.raise-2.ensures.owner) last

pub close-words-requires-clause-seats : goal.close-words-requires-clause-seats
close-words-requires-clause-seats g c =
    let board = c.in_ok-board.board in
    let seats : AreSeatsOf board c.in_ok-board.seats.items = c.in_ok-board.ensures.seats in
    let three : c.in_ok-board.seats.items ≡ c.pop-3.new.self.items ++ c.in-Some-Some-Some.seat ∷ [] = search rules in
    each_front (λ (k : ℕ) (s : Seat). IsSeatOf board s) c.in_ok-board.seats.items c.pop-3.new.self.items c.in-Some-Some-Some.seat three seats
