use Rattle.std.proofs.Common.{◌≡◌, ◌≤◌, ◌<◌, ℕ, List, Some, None, length, arith, sym, ◌∙◌, ap, refl, subst}
use Rattle.std.specs.FinMap.{get}
use Rattle.nm_base.specs.declared.key.Place.TheVariants.{Arrive}
use Rattle.nm_base.specs.Key.{key_of}
use Rattle.nm_topology.specs.Topology.{channel_from, receiving_iface}
use Rattle.nm_model.specs.Knowledge.{Know}
use Rattle.nm_model.specs.Replica.{from_scratch}
use Rattle.nm_sim.specs.Network.{net_of}
use Rattle.nm_sim.specs.Part.{Represents, with_arrival}
use Rattle.nm_book.specs.Book.{knowledge_of}
use Rattle.nm_book.specs.BookPart.{pending_in}
use Rattle.nm_book.specs.Telling.{known_of}
use Rattle.nm_book.proofs.Tellings.{known_here, more_is_over, told_data}
use Rattle.nm_book.proofs.learning.put_message.Goals as goal

-- no arrival of this number is to come yet
pub put_arrival-requires-clause-fresh : goal.put_arrival-requires-clause-fresh
put_arrival-requires-clause-fresh c =
    let t = c.args.topology.now in
    let knows = c.requires.next.0 in
    let book = c.requires.next.1 in
    let next = c.requires.next.2 in
    let m = c.args.message in
    let i = receiving_iface t m.channel in
    let within : m.channel < length t.receivers = let n = book.count in let h = next.there in omega (arith, n, h) in
    let here : channel_from 0 t.receivers i ≡ Some m.channel =
    (c.channels_are_numbered_by_their_receivers.ensures.inverse i m.channel (c.channels_are_numbered_by_their_receivers.ensures.there m.channel within)).1 refl
    in
    let at_here = known_here t knows m.channel here in
    ap (λ z. get z (key_of m.time (Arrive i) m.number)) book.represents.events
    ∙ subst (λ n. get (from_scratch (net_of t) c.args.partition (knowledge_of t knows) c.args.part.now.steps).pending (key_of m.time (Arrive i) n) ≡ None)
    (ap (λ (k : Know (List ℕ)). length k.list) at_here ∙ sym next.number)
    ((c.told_one_more.ensures (net_of t) c.every_topology_is_a_network.ensures.network c.args.partition (knowledge_of t knows) c.args.part.now.steps book.within i next.incoming).new_key
    (m.time, m.packet) (subst (λ (k : Know (List ℕ)). k.clock ≤ m.time) (sym at_here) next.later))

pub returns-clause-book : goal.returns-clause-book
returns-clause-book c = λ knows book next.
    let t = c.args.topology.now in
    let p = c.args.partition in
    let net = net_of t in
    let ok = c.every_topology_is_a_network.ensures.network in
    let m = c.args.message in
    let i = receiving_iface t m.channel in
    let within : m.channel < length t.receivers = let n = book.count in let h = next.there in omega (arith, n, h) in
    let here : channel_from 0 t.receivers i ≡ Some m.channel =
    (c.channels_are_numbered_by_their_receivers.ensures.inverse i m.channel (c.channels_are_numbered_by_their_receivers.ensures.there m.channel within)).1 refl
    in
    let s = from_scratch net p (knowledge_of t knows) c.args.part.now.steps in
    let numbered : Represents pending_in t (Some p) c.put_arrival.new.self (with_arrival i (length (known_of knows m.channel).list) m.time m.packet s) =
    subst (λ n. Represents pending_in t (Some p) c.put_arrival.new.self (with_arrival i n m.time m.packet s)) next.number
    (c.put_arrival.ensures.arrival p book.represents.is_part next.incoming (Some p) s book.represents) in
    told_data t p knows c.args.part.now c.put_arrival.new.self m.channel m.time m.packet here book next.there next.incoming
    (λ K k w j comes b h. (c.told_one_more.ensures net ok p K k w j comes).message b h)
    (λ K J u k w. (c.law_of_books.ensures net ok p K J u k w).within)
    (λ K j a u. c.more_of_one_channel_is_more.ensures net p K j a u)
    next.later (more_is_over (known_of knows m.channel) m.time m.packet next.later) numbered c.put_arrival.ensures.steps c.put_arrival.ensures.keeping
