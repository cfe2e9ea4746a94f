use Rattle.std.proofs.Common.{◌≡◌, ◌++◌, ◌∙◌, [], sym, ap, append-nil, rules, subst, Ok, None}
use Rattle.nm_frames.specs.Reader.{FindsWhole, LeavesOf, ReaderValue, rest_octets}
use Rattle.nm_frames.proofs.Cutting.{fed_short, feeds_left}
use Rattle.nm_frames.proofs.reader.Reader.feed.Goals as goal

pub returns-in-Ok-None : goal.returns-in-Ok-None
returns-in-Ok-None c =
    let old : ReaderValue = record { rest = rest_octets c.self.inside.rest; failed = c.self.inside.failed } in
    let whole : c.add.new.self.open.items ≡ rest_octets c.self.inside.rest ++ c.args.piece.now = search rules in
    let none : c.add.new.self.cut ≡ [] = search rules in
    let new : ReaderValue = record { rest = c.add.new.self.cut ++ c.add.new.self.open.items; failed = c.self.inside.failed } in
    let all : new.rest ≡ c.add.new.self.open.items = ap (λ l. l ++ c.add.new.self.open.items) none in
    let found : FindsWhole c.as_slice.result.now (Ok None) = subst (λ z. FindsWhole c.as_slice.result.now (Ok z)) c.in-Ok-None.field-0-is c.in-Ok-None.ensures.found in
    let shown : FindsWhole new.rest (Ok None) = subst (λ l. FindsWhole l (Ok None)) (c.as_slice.ensures ∙ sym all) found in
    rw (← c.self.view_is) (fed_short old new c.args.piece.now c.args.frames.now.items c.if-self.false (all ∙ whole) shown.0 shown.1 c.if-self.false)

pub returns : goal.returns
returns c =
    let old : ReaderValue = record { rest = rest_octets c.self.inside.rest; failed = c.self.inside.failed } in
    let whole : c.add.new.self.open.items ≡ rest_octets c.self.inside.rest ++ c.args.piece.now = search rules in
    let block : c.in-Ok.block ≡ c.add.new.self.open.items = search rules in
    let none : c.freeze.new.self.open.items ≡ [] = search rules in
    let left = c.cut_block-left.result.0 in
    let new : ReaderValue = record { rest = left ++ c.freeze.new.self.open.items; failed = c.shows_fault-self-inside.result } in
    let is : new.rest ≡ left = ap (λ l. left ++ l) none ∙ append-nil left in
    let leaves = subst (λ n. LeavesOf c.in-Ok.block n c.args.frames.now.items c.cut_block-left.new.frames.items left c.cut_block-left.result.1) c.len-held.ensures c.cut_block-left.ensures in
    rw (← c.self.view_is) (feeds_left old new c.args.piece.now c.in-Ok.block left c.args.frames.now.items c.cut_block-left.new.frames.items c.if-self.false (block ∙ whole) is c.cut_block-left.result.1 leaves c.shows_fault-self-inside.ensures)
