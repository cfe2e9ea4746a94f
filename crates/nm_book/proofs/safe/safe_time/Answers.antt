use Rattle.std.proofs.Common.{◌≡◌, ◌<◌, ◌≤◌, min, ℕ, if◌then◌else◌, List, true, Some, length, slice_index_or, sym, ◌∙◌, ap, subst, arith, refl, rules}
use Rattle.nm_topology.specs.Topology.{channel_from, receiving_iface}
use Rattle.nm_model.specs.Knowledge.{Know, nothing_known}
use Rattle.nm_model.specs.Partition.{comes_in}
use Rattle.nm_model.specs.Replica.{safe_time}
use Rattle.nm_book.proofs.Safety.{above_case, next_case, pick_case}
use Rattle.nm_sim.specs.Network.{net_of}
use Rattle.nm_book.specs.Book.{knowledge_of}
use Rattle.nm_book.proofs.Incoming.{ifaces_are, stop_is}
use Rattle.nm_book.proofs.Tellings.{known_here, read_known}
use Rattle.nm_book.proofs.safe.safe_time.Goals as goal

pub loop-number-init : goal.loop-number-init
loop-number-init c =
    let t = c.args.topology.now in
    let stop = c.stop-safe.ensures in
    let most = c.safe_time_is_the_least.ensures.stop (net_of t) c.args.partition (knowledge_of t c.args.knows.now) in
    let e = stop_is t in
    record {
      stop = omega (arith, stop);
      clocks = λ n h. absurd (omega (arith, h));
      above = omega (arith, stop, most, e);
    }

pub loop-number-preserved : goal.loop-number-preserved
loop-number-preserved c =
    let t = c.args.topology.now in
    let net = net_of t in
    let p = c.args.partition in
    let n = c.loop-number.number in
    let knows = c.args.knows.now in
    let K = knowledge_of t knows in
    let I = c.loop-number.invariant in
    let i = receiving_iface t n in
    let total = c.requires in
    let below : n < length knows = search rules in
    let there : n < length t.receivers = omega (arith, total, below) in
    let inside = c.channels_are_numbered_by_their_receivers.ensures.there n there in
    let here : channel_from 0 t.receivers i ≡ Some n = (c.channels_are_numbered_by_their_receivers.ensures.inverse i n inside).1 refl in
    let known : slice_index_or knows n nothing_known ≡ c.index-knows-number.result = read_known knows n n c.index-knows-number.result refl below c.index-knows-number.is in
    let least : c.min-safe.result ≡ min c.loop-number.safe c.clock_of.result = search rules in
    let clock : c.clock_of.result ≡ (if comes_in net p i then (slice_index_or knows n nothing_known).clock else t.stop) =
    c.clock_of.ensures ∙ ap (λ d. if comes_in net p (receiving_iface t d) then c.index-knows-number.result.clock else t.stop) c.channel_number-channel.ensures
    ∙ ap (λ (k : Know (List ℕ)). if comes_in net p i then k.clock else t.stop) (sym known) in
    let known_at : K i ≡ slice_index_or knows n nothing_known = known_here t knows n here in
    let most = c.safe_time_is_the_least.ensures.stop net p K in
    let e = stop_is t in
    let clocks : comes_in net p i ≡ true → safe_time net p K ≤ (slice_index_or knows n nothing_known).clock =
    λ comes. subst (λ (k : Know (List ℕ)). safe_time net p K ≤ k.clock) known_at (c.safe_time_is_the_least.ensures.clocks net p K i (let f = ifaces_are t in omega (arith, inside, f)) comes) in
    record {
      stop = let h = I.stop in omega (arith, least, h);
      clocks = λ d h. next_case (λ d. comes_in net p (receiving_iface t d) ≡ true → c.min-safe.result ≤ (slice_index_or knows d nothing_known).clock) d n h
          (λ lt comes. let f = I.clocks d lt comes in omega (arith, least, f))
          (λ comes. let f = pick_case (comes_in net p i) (slice_index_or knows n nothing_known).clock t.stop c.clock_of.result comes clock in omega (arith, least, f));
      above = let a = I.above in let b = above_case (comes_in net p i) (safe_time net p K) (slice_index_or knows n nothing_known).clock t.stop c.clock_of.result clocks (omega (arith, most, e)) clock in omega (arith, least, a, b);
    }

pub returns : goal.returns
returns c =
    let t = c.args.topology.now in
    let net = net_of t in
    let p = c.args.partition in
    let knows = c.args.knows.now in
    let K = knowledge_of t knows in
    let I = c.loop-number.invariant in
    let above = I.above in
    let below : c.loop-number.safe ≤ safe_time net p K = c.safe_time_is_the_least.ensures.greatest net p K c.loop-number.safe (let h = I.stop in let e = stop_is t in omega (arith, h, e)) (λ i comes.
    let found = c.channels_are_those_of_the_network.ensures.numbered p i comes in
    let d = found.0 in
    let there = found.1 in
    let inside = c.channels_are_numbered_by_their_receivers.ensures.there d there in
    let here : channel_from 0 t.receivers (receiving_iface t d) ≡ Some d = (c.channels_are_numbered_by_their_receivers.ensures.inverse (receiving_iface t d) d inside).1 refl in
    let at : K i ≡ slice_index_or knows d nothing_known = ap K (sym found.2) ∙ known_here t knows d here in
    let low : d < c.loop-number.number = let total = c.requires in search rules in
    subst (λ (k : Know (List ℕ)). c.loop-number.safe ≤ k.clock) (sym at) (I.clocks d low (ap (comes_in net p) found.2 ∙ comes))) in
    omega (arith, above, below)
