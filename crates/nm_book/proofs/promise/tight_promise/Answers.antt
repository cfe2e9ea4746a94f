use Rattle.std.proofs.Common.{◌≡◌, ◌+◌, ◌<◌, Some, max, min, ap, ap₂, sym, ◌∙◌, arith, rules}
use Rattle.nm_topology.specs.Topology.{receiving_iface}
use Rattle.nm_model.specs.EventList.{least, next_time}
use Rattle.nm_model.specs.Port.{busy_until}
use Rattle.nm_model.specs.Replica.{from_scratch, safe_time}
use Rattle.nm_sim.specs.Network.{net_of}
use Rattle.nm_book.specs.Book.{knowledge_of}
use Rattle.nm_book.proofs.Incoming.{busy_out, ifaces_are, stop_is}
use Rattle.nm_book.proofs.promise.tight_promise.Goals as goal

pub returns : goal.returns
returns c = λ p knows book safe goes.
    let t = c.args.topology.now in
    let net = net_of t in
    let s = from_scratch net p (knowledge_of t knows) c.args.part.now.steps in
    let i = receiving_iface t c.args.channel in
    let cause : c.next_cause.result ≡ next_time (min net.stop (safe_time net p (knowledge_of t knows))) (least s.pending) =
    c.next_cause.ensures.value p s book.represents ∙ ap₂ (λ a b. next_time (min a b) (least s.pending)) (sym (stop_is t)) safe in
    let there : net.far_end i < net.ifaces = let h = c.sender.ensures.there in let v = c.sender.ensures.value in let e = ifaces_are t in omega (arith, h, v, e) in
    let busy : c.busy.result ≡ busy_until (s.port (net.far_end i)).busy = c.busy.ensures.value (Some p) s book.represents ∙ busy_out t p s c.args.channel there goes in
    let later : c.max-start.result ≡ max c.next_cause.result c.busy.result = search rules in
    let start : c.max-start.result ≡ max (next_time (min net.stop (safe_time net p (knowledge_of t knows))) (least s.pending)) (busy_until (s.port (net.far_end i)).busy) =
    later ∙ ap₂ (λ a b. max a b) cause busy in
    let tx : c.transmission_time.result ≡ net.least_tx (net.far_end i) = c.transmission_time.ensures.value ∙ c.link_of-link.ensures.least_tx ∙ ap net.least_tx c.sender.ensures.value in
    let delay : c.link_of-link.result.delay ≡ net.delay (net.far_end i) = c.link_of-link.ensures.delay ∙ ap net.delay c.sender.ensures.value in
    c.from_nanoseconds.ensures ∙ ap₂ (λ a b. a + b) (c.nanoseconds.ensures ∙ start) (ap₂ (λ a b. a + b) tx delay)
