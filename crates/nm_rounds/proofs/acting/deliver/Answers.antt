use Rattle.std.proofs.Common.{sym, ◌∙◌, subst, slice_set}
use Rattle.nm_rounds.specs.World.{Steps}
use Rattle.nm_rounds.specs.declared.step.WorldStep.TheVariants.{Deliver}
use Rattle.nm_rounds.proofs.Deliveries.{accepted, no_frame, no_receiver, no_stranger, past_the_bag, refused}
use Rattle.nm_rounds.proofs.Standing.{channel_here}
use Rattle.nm_rounds.proofs.acting.deliver.Goals as goal

pub returns-in_default : goal.returns-in_default
returns-in_default c w stands = no_frame c.args.topology.now c.args.books.now.items c.args.bag.now w stands c.args.frame c.args.replica (past_the_bag c.args.bag.now c.args.frame (sym c.in_default.ensures.lookup.0))

pub returns-in_default-place_of : goal.returns-in_default-place_of
returns-in_default-place_of c w stands =
    no_receiver c.args.topology.now c.args.books.now.items c.args.bag.now w stands c.args.frame c.args.replica c.in-Some.message.now c.in-Some.ensures.lookup.0 c.in-Some.ensures.lookup.1
    c.channel.result c.receiver_of-partition.result c.channel.ensures c.receiver_of-partition.ensures (sym c.place_of.ensures ∙ c.in_default-place_of.is)

pub returns-in-Ok : goal.returns-in-Ok
returns-in-Ok c w stands =
    let network = c.channels_are_those_of_the_network.ensures in
    let numbers = c.channels_are_numbered_by_their_receivers.ensures in
    accepted c.args.topology.now c.args.books.now.items c.args.bag.now w stands c.args.frame c.args.replica c.in-Some.message.now c.in-Some.ensures.lookup.0 c.in-Some.ensures.lookup.1
    c.channel.result c.receiver_of-partition.result c.channel.ensures c.receiver_of-partition.ensures c.in-Some-place_of.place (sym c.place_of.ensures ∙ c.in-Some-place_of.is)
    c.index_mut.result.now c.accept.new.self c.index_mut.ensures.value network.comes (channel_here c.args.topology.now numbers.inverse numbers.there) c.in-Ok.accepted c.in-Ok.ensures

pub returns-in-Err-Known : goal.returns-in-Err-Known
returns-in-Err-Known c w stands =
    let network = c.channels_are_those_of_the_network.ensures in
    let numbers = c.channels_are_numbered_by_their_receivers.ensures in
    subst (λ z. Steps c.args.topology.now w (Deliver c.args.frame c.args.replica) z (slice_set c.args.books.now.items c.in-Some-place_of.place c.accept.new.self) c.args.bag.now) (sym c.refused.ensures)
    (refused c.args.topology.now c.args.books.now.items c.args.bag.now w stands c.args.frame c.args.replica c.in-Some.message.now c.in-Some.ensures.lookup.0 c.in-Some.ensures.lookup.1
    c.channel.result c.receiver_of-partition.result c.channel.ensures c.receiver_of-partition.ensures c.in-Some-place_of.place (sym c.place_of.ensures ∙ c.in-Some-place_of.is)
    c.index_mut.result.now c.accept.new.self c.index_mut.ensures.value network.comes (channel_here c.args.topology.now numbers.inverse numbers.there) c.in-Err-Known.fault (rw c.in-Err-Known.field-0-is at c.in-Err-Known.ensures))

pub returns-in-Err-Stranger : goal.returns-in-Err-Stranger
returns-in-Err-Stranger c w stands =
    let network = c.channels_are_those_of_the_network.ensures in
    let numbers = c.channels_are_numbered_by_their_receivers.ensures in
    absurd (no_stranger c.args.topology.now c.args.books.now.items c.args.bag.now w stands c.args.frame c.args.replica c.in-Some.message.now c.in-Some.ensures.lookup.0 c.in-Some.ensures.lookup.1
    c.channel.result c.receiver_of-partition.result c.channel.ensures c.receiver_of-partition.ensures c.in-Some-place_of.place (sym c.place_of.ensures ∙ c.in-Some-place_of.is)
    c.index_mut.result.now c.accept.new.self c.index_mut.ensures.value network.comes (channel_here c.args.topology.now numbers.inverse numbers.there) (rw c.in-Err-Stranger.field-0-is at c.in-Err-Stranger.ensures))
