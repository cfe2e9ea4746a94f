use Rattle.std.proofs.Common.{rules, ◌/◌, ap, sym, ◌∙◌}
use Rattle.nm_replica_tests.proofs.Owners.{is_owner, is_third}
use Rattle.nm_replica_tests.proofs.tests.boards.a_board_closes_without_a_seat.Goals as goal

pub raise-requires-clause-owner : goal.raise-requires-clause-owner
raise-requires-clause-owner g c =
    is_owner c.in_ok-board-2.board c.in_ok-board-2.owners.items c.pop.new.self.items c.pop-2.new.self.items
    c.in-Some-Some.last c.in-Some-Some.owner c.in_ok-board-2.ensures.owners (search rules) (search rules)

pub raise-requires-clause-channel : goal.raise-requires-clause-channel
raise-requires-clause-channel g c =
    let word = is_third c.in_ok-board-2.board c.in_ok-board-2.owners.items c.pop.new.self.items c.pop-2.new.self.items
    c.in-Some-Some.last c.in-Some-Some.owner c.in_ok-board-2.ensures.owners (search rules) (search rules) (search rules) in
    c.null.ensures ∙ ap (λ n. n / 2) (sym word)
