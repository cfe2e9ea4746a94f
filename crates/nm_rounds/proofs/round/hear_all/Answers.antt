use Rattle.std.proofs.Common.{◌≡◌, ◌<◌, ◌≤◌, ◌+◌, suc, arith, length, map, slice_get, slice_set, Some, refl, sym, ◌∙◌, ap, subst, rules}
use Rattle.std.proofs.lemmas.List.{length-map}
use Rattle.std.proofs.lemmas.Option.{slice_get-map, slice_get_read}
use Rattle.std.specs.Option.{option_map}
use Rattle.nm_topology.specs.Topology.{receiving_iface}
use Rattle.nm_model.specs.Partition.{receiver_of}
use Rattle.nm_sim.specs.Network.{net_of}
use Rattle.nm_rounds.specs.Rounds.{AreNewsOf}
use Rattle.nm_rounds.proofs.RoundBooks.{receiver_there}
use Rattle.nm_rounds.proofs.RoundHears.{HaveHeard, heard_all, heard_none, heard_step}
use Rattle.nm_rounds.proofs.Standing.{channel_here}
use Rattle.nm_rounds.proofs.round.hear_all.Goals as goal

pub loop-number-init : goal.loop-number-init
loop-number-init c x are news =
    let t = c.args.topology.now in
    heard_none t x (channel_here t c.channels_are_numbered_by_their_receivers.ensures.inverse c.channels_are_numbered_by_their_receivers.ensures.there) c.args.books.now.items are

pub channel_number-requires : goal.channel_number-requires
channel_number-requires c =
    let news = c.requires.2 in
    let below : c.loop-number.number < length c.args.news.now = search rules in
    let m = news.count in let n = length-map c.args.news.now (λ messages. messages.items) in omega (arith, below, m, n)

pub index_mut-requires : goal.index_mut-requires
index_mut-requires c =
    let t = c.args.topology.now in
    let k = c.loop-number.number in
    let news = c.requires.2 in
    let have = c.loop-number.invariant c.requires.0 c.requires.1 news in
    let below : k < length c.args.news.now = search rules in
    let low : k < length t.receivers = let m = news.count in let n = length-map c.args.news.now (λ messages. messages.items) in omega (arith, below, m, n) in
    let there = receiver_there t c.every_topology_is_a_network.ensures.network c.every_topology_is_a_network.ensures.parted (receiving_iface t k)
    (c.channels_are_numbered_by_their_receivers.ensures.there k low) in
    let at : c.index.result ≡ receiver_of (net_of t) (receiving_iface t k) = c.index.ensures ∙ c.receiver_of-receiver.ensures ∙ ap (λ z. receiver_of (net_of t) (receiving_iface t z)) c.channel_number.ensures in
    let count = have.count in
    omega (arith, there, at, count, c.loop-number.books.ok.0)

pub loop-number-preserved : goal.loop-number-preserved
loop-number-preserved c x are news =
    let t = c.args.topology.now in
    let k = c.loop-number.number in
    let have = c.loop-number.invariant x are news in
    let below : k < length c.args.news.now = search rules in
    let low : k < length t.receivers = let m = news.count in let n = length-map c.args.news.now (λ messages. messages.items) in omega (arith, below, m, n) in
    let there = receiver_there t c.every_topology_is_a_network.ensures.network c.every_topology_is_a_network.ensures.parted (receiving_iface t k)
    (c.channels_are_numbered_by_their_receivers.ensures.there k low) in
    let at : c.index.result ≡ receiver_of (net_of t) (receiving_iface t k) = c.index.ensures ∙ c.receiver_of-receiver.ensures ∙ ap (λ z. receiver_of (net_of t) (receiving_iface t z)) c.channel_number.ensures in
    let told : slice_get (map (λ messages. messages.items) c.args.news.now) k ≡ Some c.index-news-number.result.items =
    slice_get-map (λ messages. messages.items) c.args.news.now k
    ∙ ap (option_map (λ messages. messages.items)) (slice_get_read c.args.news.now (length c.args.news.now) k c.index-news-number.result refl below c.index-news-number.is) in
    let next : suc k ≡ k + 1 = omega arith in
    subst (λ n. HaveHeard t x n (slice_set c.loop-number.books.items c.index.result c.tell_all.new.book)) next
    (heard_step t x (channel_here t c.channels_are_numbered_by_their_receivers.ensures.inverse c.channels_are_numbered_by_their_receivers.ensures.there)
    k low (c.channels_are_those_of_the_network.ensures.comes k low) c.loop-number.books.items have there c.index.result at c.index_mut.result.now c.tell_all.new.book c.index_mut.ensures.value
    c.deref.result.now (subst (AreNewsOf t x k) (sym c.deref.ensures.value) (news.each k c.index-news-number.result.items told)) c.in_ok-tell_all.ensures)

pub returns : goal.returns
returns c x are news =
    let t = c.args.topology.now in
    let past : length c.args.news.now ≤ c.loop-number.number = search rules in
    let all : length t.receivers ≤ c.loop-number.number = let m = news.count in let n = length-map c.args.news.now (λ messages. messages.items) in omega (arith, past, m, n) in
    heard_all t x (λ p i comes. let f = c.channels_are_those_of_the_network.ensures.numbered p i comes in (f.0, f.1, f.2)) c.args.books.now.items c.loop-number.books.items are c.loop-number.number all
    (c.loop-number.invariant x are news)
    (channel_here t c.channels_are_numbered_by_their_receivers.ensures.inverse c.channels_are_numbered_by_their_receivers.ensures.there)
