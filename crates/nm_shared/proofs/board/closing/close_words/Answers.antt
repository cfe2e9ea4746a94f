use Rattle.std.proofs.Common.{◌≡◌, ◌+◌, ◌<◌, [], ◌++◌, length, set, sym, ap, ◌∙◌, subst, arith}
use Rattle.std.specs.Prelude.{IfSome}
use Rattle.std.proofs.lemmas.List.{append-nil}
use Rattle.nm_shared.specs.Board.{FitsAt}
use Rattle.nm_shared.specs.Closing.{From}
use lib.ListN.{get_elem?}
use Rattle.nm_shared.proofs.Boards.{some_below}
use Rattle.nm_shared.proofs.Closings.{fits_more, from_end, popped, rest_more, sit_if_front, sit_if_last, snoc_length}
use Rattle.nm_shared.proofs.board.closing.close_words.Goals as goal

pub loop-closer-init : goal.loop-closer-init
loop-closer-init c = record {
  sit = c.requires.sit;
  rest = ([], sym (append-nil c.args.closers.items));
  clocks = c.requires.clocks;
  fits = from_end (λ w o. IfSome o (FitsAt c.args.clocks.items w)) c.args.closers.items;
}

pub close_word-requires : goal.close_word-requires
close_word-requires c = sit_if_last c.pop-in-Some.new.self.items c.loop-closer.words.items c.in-Some-pop.word c.pop.new.self.items c.loop-closer.closers.items c.in-Some.closer c.in-Some-pop.ensures.items c.in-Some.ensures.items c.loop-closer.invariant.sit

pub loop-closer-preserved : goal.loop-closer-preserved
loop-closer-preserved c =
    let i = c.loop-closer.invariant in
    let xs = c.pop.new.self.items in
    let e = i.rest.1 ∙ ap (λ l. l ++ i.rest.0) c.in-Some.ensures.items in
    let front = sit_if_front c.pop-in-Some.new.self.items c.loop-closer.words.items c.in-Some-pop.word xs c.loop-closer.closers.items c.in-Some.closer c.in-Some-pop.ensures.items c.in-Some.ensures.items i.sit in
    let words : c.pop-in-Some.new.self.len ≡ length c.pop-in-Some.new.self.items = c.pop-in-Some.new.self.ok.0 in
    let k : c.len.result ≡ length xs = omega (arith, c.len.ensures, front.0) in
    let more : length c.loop-closer.closers.items ≡ c.len.result + 1 = ap length c.in-Some.ensures.items ∙ snoc_length xs c.in-Some.closer ∙ ap (λ n. n + 1) (sym k) in
    let at = ap (λ j. get_elem? c.args.closers.items j) k ∙ popped c.args.closers.items xs c.in-Some.closer i.rest.0 e in
    let below = some_below c.args.closers.items c.len.result c.in-Some.closer at in
    let lt : c.len.result < length c.loop-closer.clocks.items = omega (arith, i.clocks, c.loop-closer.clocks.ok.0, c.args.words.ok.0, c.requires.sit.0) in
    let fits = fits_more c.loop-closer.clocks.items c.args.closers.items c.len.result (length c.loop-closer.closers.items) c.close_word.result c.in-Some.closer more lt at i.fits c.close_word.ensures in
    record {
      sit = front;
      rest = rest_more c.args.closers.items xs c.in-Some.closer i.rest.0 e;
      clocks = i.clocks;
      fits = subst (λ m. From (λ w o. IfSome o (FitsAt (set c.loop-closer.clocks.items c.len.result c.close_word.result) w)) m c.args.closers.items) k fits;
    }
