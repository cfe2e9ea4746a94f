use Rattle.std.proofs.Common.{◌≡◌, ◌<◌, ◌+◌, suc, arith, subst, rules}
use Rattle.nm_knowledge.specs.Octets.{same_octets}
use Rattle.nm_model.specs.Promise.{Tight}
use Rattle.nm_sim.specs.Network.{net_of}
use Rattle.nm_rounds.specs.Rounds.{EndsRound}
use Rattle.nm_rounds.proofs.RoundEnds.{HaveRun, all_done, not_done, run_more, run_none}
use Rattle.nm_rounds.proofs.rounds.do_rounds.Goals as goal

pub loop-round-init : goal.loop-round-init
loop-round-init c by_round are = run_none c.args.topology.now by_round are c.args.books.now.items c.requires.first

pub do_round-requires : goal.do_round-requires
do_round-requires c =
    let t = c.args.topology.now in
    let r = c.there_are_rounds.ensures (net_of t) c.every_topology_is_a_network.ensures.network same_octets Tight in
    (c.loop-round.round, r.0, r.1, (c.loop-round.invariant r.0 r.1).stand)

pub returns-then-branch : goal.returns-then-branch
returns-then-branch c =
    let t = c.args.topology.now in
    let net = c.every_topology_is_a_network.ensures.network in
    let same = c.packets_are_told_apart.ensures.same in
    let r = c.there_are_rounds.ensures (net_of t) net same_octets Tight in
    let j = c.loop-round.round in
    let books = c.do_round.new.books.items in
    let low : j < c.args.max = search rules in
    all_done t r.0 r.1 (λ i p last safe e. (c.rounds_bound.ensures (net_of t) net same_octets same Tight r.0 r.1).early i p safe last e) c.args.max j c.loop-round.books.items books low (c.loop-round.invariant r.0 r.1)
    (subst (λ v. EndsRound t r.0 j v books) c.if-branch.true (c.in_ok-do_round.ensures j r.0 r.1 (c.loop-round.invariant r.0 r.1).stand))

pub loop-round-preserved : goal.loop-round-preserved
loop-round-preserved c by_round are =
    let t = c.args.topology.now in
    let j = c.loop-round.round in
    let books = c.do_round.new.books.items in
    let next : suc j ≡ j + 1 = omega arith in
    subst (λ n. HaveRun t by_round are n books) next
    (run_more t by_round are j c.loop-round.books.items books (c.loop-round.invariant by_round are)
    (subst (λ v. EndsRound t by_round j v books) c.if-branch.false (c.in_ok-do_round.ensures j by_round are (c.loop-round.invariant by_round are).stand)))

pub returns : goal.returns
returns c =
    let t = c.args.topology.now in
    let net = c.every_topology_is_a_network.ensures.network in
    let same = c.packets_are_told_apart.ensures.same in
    let r = c.there_are_rounds.ensures (net_of t) net same_octets Tight in
    let all : c.loop-round.round ≡ c.args.max = search rules in
    not_done t r.0 r.1 (c.a_lone_partition_is_safe.ensures (net_of t)) c.channels_are_those_of_the_network.ensures.numbered
    (λ lead leads i p last le e. (c.rounds_bound.ensures (net_of t) net same_octets same Tight r.0 r.1).done lead leads i p le) c.so_many_rounds_are_enough.ensures ((c.times_pass.ensures (net_of t) net).before (net_of t).stop)
    c.args.max c.loop-round.books.items c.requires.some c.loop-round.round all (c.loop-round.invariant r.0 r.1)
