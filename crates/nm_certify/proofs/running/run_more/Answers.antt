use Rattle.std.proofs.Common.{subst, sym}
use Rattle.nm_model.specs.Lists.{IsPrefix}
use Rattle.nm_model.specs.Network.{IsNet}
use Rattle.nm_model.proofs.Accepting.{under_self}
use Rattle.nm_sim.specs.Network.{net_of}
use Rattle.nm_book.specs.Book.{knowledge, state_of}
use Rattle.nm_certify.specs.declared.running.TheConstants.{STEP_EVENTS}
use Rattle.nm_certify.proofs.Runs.{ran_all, ran_on}
use Rattle.nm_certify.proofs.running.run_more.Goals as goal

pub returns-clause-grows : goal.returns-clause-grows
returns-clause-grows c =
    let b = c.args.book.now in
    let after = c.run_safe.new.self in
    let is = subst (λ t. IsNet (net_of t)) c.topology.ensures c.every_topology_is_a_network.ensures.network in
    let grown = c.what_was_done_stays.ensures (net_of b.topology) is b.partition (knowledge b) (knowledge b) (λ d comes. under_self (knowledge b d)) b.events after.events
    (ran_on b.topology b.partition (knowledge b) STEP_EVENTS b.events after.events c.run_safe.result c.run_safe.ensures.run) c.events-events.ensures.within in
    subst (λ x. IsPrefix (state_of b).records (state_of x).records) (sym c.run_safe.ensures.same) grown.records

pub returns-clause-all : goal.returns-clause-all
returns-clause-all c = ran_all c.args.book.now c.run_safe.new.self STEP_EVENTS c.run_safe.result c.run_safe.ensures.run c.run_safe.ensures.same
