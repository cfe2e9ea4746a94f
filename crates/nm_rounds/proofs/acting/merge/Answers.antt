use Rattle.std.proofs.Common.{◌≡◌, ◌*◌, ◌+◌, sym, slice_set, subst}
use Rattle.nm_model.specs.World.{sister}
use Rattle.nm_book.specs.Merging.{BookMerges}
use Rattle.nm_rounds.specs.World.{Steps}
use Rattle.nm_rounds.specs.declared.step.WorldStep.TheVariants.{Merge}
use Rattle.nm_rounds.proofs.Standing.{channel_here, is_absent, is_there, there_is}
use Rattle.nm_rounds.proofs.Mergings.{beside_one, beside_zero, merge_steps, no_merge}
use Rattle.nm_rounds.proofs.acting.merge.Goals as goal
use Rattle.nm_rounds.proofs.acting.merge.Goals.{then-replica-eq0, else-replica-eq0}

pub returns-in_default : goal.returns-in_default
returns-in_default c bag w stands = no_merge c.args.topology.now c.args.books.now.items bag w stands c.args.partition c.args.replica (is_absent _ _ (sym c.in_default.ensures))

pub returns : goal.returns
returns c bag w stands =
    let t = c.args.topology.now in
    let p = c.args.partition in
    let r = c.args.replica in
    let found = is_there _ _ _ (sym c.in-Some.ensures) in
    let two = (there_is t p r found.0).1 in
    let beside : c.if-replica-eq0.sister ≡ 2 * p + sister r = elim c.if-replica-eq0.branch [
      | then-replica-eq0 b ↦ beside_zero p r c.in-Some.place c.if-replica-eq0.sister found.1 b.if-replica-eq0.true b.sister-is
      | else-replica-eq0 b ↦ beside_one p r c.in-Some.place c.if-replica-eq0.sister found.1 two b.if-replica-eq0.false b.sister-is
    ] in
    subst (λ z. Steps t w (Merge p r) z (slice_set c.args.books.now.items c.in-Some.place c.merge-result.new.self) bag) (sym c.merge_answer.ensures)
    (merge_steps t c.args.books.now.items bag w stands p r found.0 c.in-Some.place found.1 c.index_mut.result.now c.index_mut.ensures.value c.if-replica-eq0.sister beside c.index.result.now c.index.ensures
    c.merge-result.new.self
    (channel_here t c.channels_are_numbered_by_their_receivers.ensures.inverse c.channels_are_numbered_by_their_receivers.ensures.there)
    c.accepted_topologies_are_in_order.ensures.receivers.rising c.channels_are_numbered_by_their_receivers.ensures.there c.packets_are_told_apart.ensures.same
    c.merge-result.result (subst (λ k. BookMerges c.index_mut.result.now c.merge-result.new.self k c.merge-result.result) c.in_ok-knowledge.ensures c.merge-result.ensures))
