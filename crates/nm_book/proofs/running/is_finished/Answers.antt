use Rattle.std.proofs.Common.{◌≡◌, ◌==◌, ◌&&◌, true, false, not, ap, ap₂, sym, ◌∙◌, rules}
use Rattle.nm_model.specs.Replica.{from_scratch, safe_time}
use Rattle.nm_model.specs.Run.{pends_before}
use Rattle.nm_sim.specs.Network.{net_of}
use Rattle.nm_book.specs.Book.{knowledge_of}
use Rattle.nm_book.proofs.Incoming.{stop_is}
use Rattle.nm_book.proofs.running.is_finished.Goals as goal

pub returns-then-eq : goal.returns-then-eq
returns-then-eq c = λ p knows book safe.
    let t = c.args.topology.now in
    let net = net_of t in
    let s = from_scratch net p (knowledge_of t knows) c.args.part.now.steps in
    let left : c.is_left.result ≡ pends_before net.stop s =
    c.is_left.ensures t p s book.represents ∙ ap (λ n. pends_before n s) (c.stop-then-eq.ensures ∙ sym (stop_is t)) in
    let test : (c.args.safe == t.stop) ≡ true = search rules in
    let same : (safe_time net p (knowledge_of t knows) == net.stop) ≡ true = ap₂ (λ a b. a == b) (sym safe) (stop_is t) ∙ test in
    sym (ap₂ (λ x y. x && not y) same (sym left))

pub returns-else-eq : goal.returns-else-eq
returns-else-eq c = λ p knows book safe.
    let t = c.args.topology.now in
    let net = net_of t in
    let s = from_scratch net p (knowledge_of t knows) c.args.part.now.steps in
    let test : (c.args.safe == t.stop) ≡ false = search rules in
    let ended : c.eq.result ≡ false = search rules in
    let same : (safe_time net p (knowledge_of t knows) == net.stop) ≡ false = ap₂ (λ a b. a == b) (sym safe) (stop_is t) ∙ test in
    ended ∙ sym (ap (λ x. x && not (pends_before net.stop s)) same)
