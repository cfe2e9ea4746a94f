use Rattle.std.proofs.Common.{◌≡◌, ◌+◌, ◌<◌, length, slice_index_or, refl, sym, ◌∙◌, ap, subst, rules}
use Rattle.nm_model.specs.Knowledge.{nothing_known}
use Rattle.nm_book.specs.Merging.{AreTold, IsTurnOf, both_know}
use Rattle.nm_book.specs.Telling.{told_each}
use Rattle.nm_book.proofs.Tellings.{read_known}
use Rattle.nm_book.proofs.merging.new_messages.Goals as goal

pub loop-number-preserved : goal.loop-number-preserved
loop-number-preserved c =
    let knows = c.args.knows.now in
    let others = c.args.others.now.knows in
    let n = c.loop-number.number in
    let below : n < length knows = search rules in
    let ours = read_known knows n n c.index-knows-number.result refl below c.index-knows-number.is in
    let theirs : slice_index_or others n nothing_known ≡ c.of-other.result.now = ap (λ d. slice_index_or others d nothing_known) (sym c.channel_number-channel.ensures) ∙ sym c.of-other.ensures in
    let channel = c.channel_number-channel.ensures in
    let turn : IsTurnOf c.args.topology.now c.args.partition knows others (both_know c.channel_number-channel.result c.index-knows-number.result c.of-other.result.now) c.loop-number.messages.items =
    subst (λ d. IsTurnOf c.args.topology.now c.args.partition knows others (both_know d c.index-knows-number.result c.of-other.result.now) c.loop-number.messages.items) (sym channel)
    (record { there = below; ours = ours; theirs = theirs; follow = c.loop-number.invariant.follow; below = c.loop-number.invariant.below }) in
    let done = c.in_ok-add_messages.ensures knows others turn in
    record {
      follow = done.0;
      below = subst (λ d. AreTold c.args.topology.now c.args.partition knows others (d + 1) (told_each knows c.add_messages.new.messages.items)) channel done.1;
    }
