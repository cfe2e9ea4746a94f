use Rattle.std.proofs.Common.{◌≡◌, ◌∙◌, subst, false}
use Rattle.std.specs.Prelude.{IfOk}
use Rattle.nm_packet.specs.Ipv4.{quote_of}
use Rattle.nm_forward.specs.Originate.{Consequence, is_quiet}
use Rattle.nm_forward.specs.Prepared.{consequence}
use Rattle.nm_forward.proofs.Errors.{error_of-loud}
use Rattle.nm_forward.proofs.originate.error.Goals as goal

pub returns : goal.returns
returns c =
    let p = c.args.packet.now in
    let state = c.args.node.state.now in
    let quoted : c.deref.result.now ≡ quote_of p =
    c.deref.ensures.value ∙ c.in_ok-quoted.ensures.value in
    let loud : is_quiet p ≡ false = cc in
    subst (λ (x : Consequence). IfOk c.originate.result (λ p. consequence p ≡ x))
    (error_of-loud c.args.node.topology.now.ifaces state.table state.identification p
    c.args.kind c.source.result c.deref.result.now
    loud c.source.ensures quoted)
    c.originate.ensures
