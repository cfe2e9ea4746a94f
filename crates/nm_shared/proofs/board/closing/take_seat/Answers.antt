use Rattle.std.proofs.Common.{rules, ◌≡◌, [], ◌++◌, length, sym, ap, ◌∙◌, subst}
use Rattle.std.proofs.lemmas.List.{append-nil}
use Rattle.nm_shared.specs.Board.{FitsAt}
use Rattle.nm_shared.proofs.Boards.{sits_of}
use Rattle.nm_shared.proofs.Closings.{from_end, from_more, from_start, popped, rest_more, snoc_length}
use Rattle.nm_shared.proofs.board.closing.take_seat.Goals as goal

pub loop-place-init : goal.loop-place-init
loop-place-init c = record {
  sit = c.requires.sit;
  rest = ([], sym (append-nil c.args.seat.places.items));
  fits = λ ns fit. (fit, from_end (FitsAt ns) c.args.seat.places.items);
}

pub take_place-requires-clause-place : goal.take_place-requires-clause-place
take_place-requires-clause-place c =
    let r = c.loop-place.invariant.rest in
    let xs = c.pop.new.self.items in
    let k : c.len.result ≡ length xs = search rules in
    sits_of c.args.words.now.items c.args.seat.places.items c.len.result (length xs) c.in-Some.place c.requires.seat k (popped c.args.seat.places.items xs c.in-Some.place r.0 (r.1 ∙ ap (λ l. l ++ r.0) c.in-Some.ensures.items))

pub loop-place-preserved : goal.loop-place-preserved
loop-place-preserved c =
    let i = c.loop-place.invariant in
    let xs = c.pop.new.self.items in
    let k : c.len.result ≡ length xs = search rules in
    let e = i.rest.1 ∙ ap (λ l. l ++ i.rest.0) c.in-Some.ensures.items in
    record {
      sit = c.take_place.ensures.sit;
      rest = rest_more c.args.seat.places.items xs c.in-Some.place i.rest.0 e;
      fits = λ ns fit.
          let f = c.take_place.ensures.fits ns fit in
          let g = i.fits ns f.0 in
          (g.0, from_more (FitsAt ns) c.args.seat.places.items (length xs) (length c.loop-place.places.items) c.in-Some.place (ap length c.in-Some.ensures.items ∙ snoc_length xs c.in-Some.place) (popped c.args.seat.places.items xs c.in-Some.place i.rest.0 e) g.1 (subst (λ j. FitsAt ns j c.in-Some.place) k f.1));
    }

pub returns-clause-fits : goal.returns-clause-fits
returns-clause-fits c ns fit =
    let g = c.loop-place.invariant.fits ns fit in
    (g.0, from_start (FitsAt ns) c.args.seat.places.items c.loop-place.places.items (sym c.loop-place.places.ok.0 ∙ c.in_default.ensures.cases.0) g.1)
