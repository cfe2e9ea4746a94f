use Rattle.std.proofs.Common.{rules, ◌≡◌, List, Option, None, [], ◌∷◌, ◌++◌, sym, subst}
use Rattle.std.specs.Prelude.{IfSome}
use Rattle.nm_shared.specs.declared.word.WordSeat.{WordSeat}
use Rattle.nm_shared.specs.Board.{Each, SitsAt}
use Rattle.nm_shared.proofs.Closings.{none_each, none_more}
use Rattle.nm_shared.proofs.board.closing.none_yet.Goals as goal

pub loop-number-init : goal.loop-number-init
loop-number-init c = record {
  len = search rules;
  room = c.args.closers.room;
  sit = subst (λ (l : List (Option WordSeat)). Each (λ k o. IfSome o (SitsAt c.args.words.now.items k)) l) (sym c.args.closers.empty) (none_each c.args.words.now.items);
}

pub loop-number-preserved : goal.loop-number-preserved
loop-number-preserved c =
    let pushed : c.push_reserved.new.self.items ≡ c.loop-number.places.items ++ None ∷ [] = search rules in
    record {
      len = search rules;
      room = search rules;
      sit = subst (λ (l : List (Option WordSeat)). Each (λ k o. IfSome o (SitsAt c.args.words.now.items k)) l) (sym pushed) (none_more c.args.words.now.items c.loop-number.places.items c.loop-number.invariant.sit);
    }
