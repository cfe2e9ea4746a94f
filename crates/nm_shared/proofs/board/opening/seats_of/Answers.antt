use Rattle.std.proofs.Common.{rules, ◌≡◌, List, [], ◌∷◌, ◌++◌, sym, subst}
use Rattle.nm_shared.specs.declared.board.Seat.{Seat}
use Rattle.nm_shared.specs.Closing.{SeatsSit}
use Rattle.nm_shared.proofs.Closings.{seats_more}
use Rattle.nm_shared.proofs.board.opening.seats_of.Goals as goal

pub loop-number-preserved : goal.loop-number-preserved
loop-number-preserved c =
    let i = c.loop-number.invariant in
    let ws = c.args.words.now.items in
    let pushed : c.push.new.self.items ≡ c.loop-number.seats.items ++ c.in_ok-seat.seat ∷ [] = c.in_ok-push.ensures.items in
    record {
      len = search rules;
      seats = subst (λ (l : List Seat). SeatsSit ws l) (sym pushed) (seats_more ws c.loop-number.seats.items c.in_ok-seat.seat i.seats c.in_ok-seat.ensures.seat);
      sit = c.in_ok-seat.ensures.places;
    }

pub returns-clause-seats : goal.returns-clause-seats
returns-clause-seats c = subst (λ (l : List Seat). SeatsSit c.args.words.now.items l) (sym c.in_ok-push-2.ensures.items) (seats_more c.args.words.now.items c.loop-number.seats.items (record { places = c.loop-number.places }) c.loop-number.invariant.seats c.loop-number.invariant.sit)
