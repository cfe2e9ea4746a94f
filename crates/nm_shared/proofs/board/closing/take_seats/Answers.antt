use Rattle.std.proofs.Common.{[], ◌++◌, length, sym, ap, ◌∙◌}
use Rattle.std.proofs.lemmas.List.{append-nil}
use Rattle.nm_shared.specs.Board.{FitAll}
use Rattle.nm_shared.proofs.Closings.{from_end, from_more, from_start, popped, rest_more, snoc_length}
use Rattle.nm_shared.proofs.board.closing.take_seats.Goals as goal

pub loop-seat-init : goal.loop-seat-init
loop-seat-init c = record {
  sit = c.requires.sit;
  rest = ([], sym (append-nil c.args.seats.items));
  fits = λ ns fit. (fit, from_end (λ _ s. FitAll ns s.places.items) c.args.seats.items);
}

pub take_seat-requires-clause-seat : goal.take_seat-requires-clause-seat
take_seat-requires-clause-seat c =
    let r = c.loop-seat.invariant.rest in
    let xs = c.pop.new.self.items in
    c.requires.seats (length xs) c.in-Some.seat (popped c.args.seats.items xs c.in-Some.seat r.0 (r.1 ∙ ap (λ l. l ++ r.0) c.in-Some.ensures.items))

pub loop-seat-preserved : goal.loop-seat-preserved
loop-seat-preserved c =
    let i = c.loop-seat.invariant in
    let xs = c.pop.new.self.items in
    let e = i.rest.1 ∙ ap (λ l. l ++ i.rest.0) c.in-Some.ensures.items in
    record {
      sit = c.take_seat.ensures.sit;
      rest = rest_more c.args.seats.items xs c.in-Some.seat i.rest.0 e;
      fits = λ ns fit.
          let f = c.take_seat.ensures.fits ns fit in
          let g = i.fits ns f.0 in
          (g.0, from_more (λ _ s. FitAll ns s.places.items) c.args.seats.items (length xs) (length c.loop-seat.seats.items) c.in-Some.seat (ap length c.in-Some.ensures.items ∙ snoc_length xs c.in-Some.seat) (popped c.args.seats.items xs c.in-Some.seat i.rest.0 e) g.1 f.1);
    }

pub returns-clause-fits : goal.returns-clause-fits
returns-clause-fits c ns fit =
    let g = c.loop-seat.invariant.fits ns fit in
    (g.0, from_start (λ _ s. FitAll ns s.places.items) c.args.seats.items c.loop-seat.seats.items (sym c.loop-seat.seats.ok.0 ∙ c.in_default.ensures.cases.0) g.1)
