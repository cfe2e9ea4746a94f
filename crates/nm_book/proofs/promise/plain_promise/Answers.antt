use Rattle.std.proofs.Common.{◌≡◌, ◌+◌, min, ap, ap₂, sym, ◌∙◌}
use Rattle.nm_topology.specs.Topology.{receiving_iface}
use Rattle.nm_model.specs.EventList.{least, next_time}
use Rattle.nm_model.specs.Replica.{from_scratch, safe_time}
use Rattle.nm_sim.specs.Network.{net_of}
use Rattle.nm_book.specs.Book.{knowledge_of}
use Rattle.nm_book.proofs.Incoming.{stop_is}
use Rattle.nm_book.proofs.promise.plain_promise.Goals as goal

pub returns : goal.returns
returns c = λ p knows book safe.
    let t = c.args.topology.now in
    let net = net_of t in
    let s = from_scratch net p (knowledge_of t knows) c.args.part.now.steps in
    let cause : c.next_cause-cause.result ≡ next_time (min net.stop (safe_time net p (knowledge_of t knows))) (least s.pending) =
    c.next_cause-cause.ensures.value p s book.represents ∙ ap₂ (λ a b. next_time (min a b) (least s.pending)) (sym (stop_is t)) safe in
    let delay : c.link_of-link.result.delay ≡ net.delay (net.far_end (receiving_iface t c.args.channel)) = c.link_of-link.ensures.delay ∙ ap net.delay c.sender.ensures.value in
    c.from_nanoseconds.ensures ∙ ap₂ (λ a b. a + b) (c.nanoseconds.ensures ∙ cause) delay
