use Rattle.std.proofs.Common.{[], ◌≡◌, ◌++◌, length, sym, ap, ◌∙◌}
use Rattle.std.specs.Prelude.{slice_index}
use Rattle.std.proofs.lemmas.List.{append-nil}
use Rattle.nm_shared.specs.Board.{raised_to}
use Rattle.nm_shared.proofs.Closings.{from_end, from_more, from_start, popped, rest_more, snoc_length}
use Rattle.nm_shared.proofs.board.closing.take_owners.Goals as goal

pub loop-owner-init : goal.loop-owner-init
loop-owner-init c = record {
  sit = c.requires.sit;
  rest = ([], sym (append-nil c.args.owners.items));
  fits = λ ns fit. (fit, from_end (λ _ o. slice_index ns o.word ≡ raised_to o) c.args.owners.items);
}

pub take_owner-requires-clause-owner : goal.take_owner-requires-clause-owner
take_owner-requires-clause-owner c =
    let r = c.loop-owner.invariant.rest in
    let xs = c.pop.new.self.items in
    c.requires.owners (length xs) c.in-Some.owner (popped c.args.owners.items xs c.in-Some.owner r.0 (r.1 ∙ ap (λ l. l ++ r.0) c.in-Some.ensures.items))

pub loop-owner-preserved : goal.loop-owner-preserved
loop-owner-preserved c =
    let i = c.loop-owner.invariant in
    let xs = c.pop.new.self.items in
    let e = i.rest.1 ∙ ap (λ l. l ++ i.rest.0) c.in-Some.ensures.items in
    record {
      sit = c.take_owner.ensures.sit;
      rest = rest_more c.args.owners.items xs c.in-Some.owner i.rest.0 e;
      fits = λ ns fit.
          let f = c.take_owner.ensures.fits ns fit in
          let g = i.fits ns f.0 in
          (g.0, from_more (λ _ o. slice_index ns o.word ≡ raised_to o) c.args.owners.items (length xs) (length c.loop-owner.owners.items) c.in-Some.owner (ap length c.in-Some.ensures.items ∙ snoc_length xs c.in-Some.owner) (popped c.args.owners.items xs c.in-Some.owner i.rest.0 e) g.1 f.1);
    }

pub returns-clause-fits : goal.returns-clause-fits
returns-clause-fits c ns fit =
    let g = c.loop-owner.invariant.fits ns fit in
    (g.0, from_start (λ _ o. slice_index ns o.word ≡ raised_to o) c.args.owners.items c.loop-owner.owners.items (sym c.loop-owner.owners.ok.0 ∙ c.in_default.ensures.cases.0) g.1)
