use Rattle.std.proofs.Common.{◌≡◌, ◌∷◌, [], ◌++◌, All, map, sym, subst, rules}
use Rattle.nm_shared.specs.Board.{IsSeatOf}
use Rattle.nm_shared.proofs.Closings.{each_back}
use Rattle.nm_replica.specs.declared.served.Served.TheVariants as served
use Rattle.nm_run.proofs.ReplicaEndings.{all_counted}
use Rattle.nm_run.proofs.run.run_books.Goals as goal

pub run_threads-requires-clause-seat : goal.run_threads-requires-clause-seat
run_threads-requires-clause-seat g c = λ κs bounds.
    let board = c.in_ok-board.board in
    let last : c.in_ok-board.seats.items ≡ c.pop.new.self.items ++ c.in-Some.seat ∷ [] = search rules in
    subst (IsSeatOf board) (sym c.in_ok-dispatcher.ensures.seat)
    (each_back (λ _ s. IsSeatOf board s) c.in_ok-board.seats.items c.pop.new.self.items c.in-Some.seat last c.in_ok-board.ensures.seats)

pub returns-clause-counted : goal.returns-clause-counted
returns-clause-counted g c =
    let made = g.F.Outputs.made c.args.outputs.now in
    all_counted g.F.File.Sink.seen made c.in_ok-ends.ends.items
    (subst (λ ends. All (λ s. s ≡ served.Ended) (map (λ e. e.served) ends)) c.as_slice-3.ensures.value c.in_ok-check_endings.ensures)
    (c.in_ok-ends.ensures.counted made c.in_ok-sides.ensures.counted)
