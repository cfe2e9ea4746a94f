use Rattle.std.proofs.Common.{◌∙◌, arith}
use Rattle.nm_events.specs.Entries.{entry_key}
use Rattle.nm_events.proofs.Times.{before_at, behind_at, there_at}
use Rattle.nm_events.proofs.entry.Entry.cmp_at_one_time.Goals as goal

pub returns-then-self-other : goal.returns-then-self-other
returns-then-self-other c =
    let a = c.args.self.now in
    let b = c.args.other.now in
    c.cmp.ensures ∙ there_at (entry_key a) (entry_key b) c.requires a.indexed b.indexed (omega (arith, a.ranked, b.ranked, c.if-self-other.true))

pub returns-then-self-other-2 : goal.returns-then-self-other-2
returns-then-self-other-2 c =
    let a = c.args.self.now in
    let b = c.args.other.now in
    before_at (entry_key a) (entry_key b) c.requires a.indexed b.indexed (omega (arith, a.ranked, b.ranked, c.if-self-other-2.true))

pub returns-else-self-other-2 : goal.returns-else-self-other-2
returns-else-self-other-2 c =
    let a = c.args.self.now in
    let b = c.args.other.now in
    behind_at (entry_key a) (entry_key b) c.requires a.indexed b.indexed (omega (arith, a.ranked, b.ranked, c.if-self-other.false, c.if-self-other-2.false))
