use Rattle.std.proofs.Common.{◌≡◌, sym, subst, rules}
use Rattle.nm_base.specs.declared.fault.Fault.TheVariants.{Refused}
use Rattle.nm_certify.specs.declared.fault.CertifyCause.TheVariants.{Differs, Known}
use Rattle.nm_offline.specs.Certify.{IsStatusOfFiles}
use Rattle.nm_offline.specs.Input.{inputs_seen}
use Rattle.nm_offline.proofs.Verifying.{differs_named}
use Rattle.nm_offline.proofs.certify.status_of.Goals as goal

pub returns-in-Refused-Differs : goal.returns-in-Refused-Differs
returns-in-Refused-Differs g c =
    let seen = inputs_seen g.I.Inputs.seen c.args.inputs.now in
    let own = c.in-Refused-Differs.iface in
    let octet = c.in-Refused-Differs.octet in
    let is : c.args.fault.now ≡ Refused (Differs own octet) = search rules in
    subst (λ f. IsStatusOfFiles seen seen c.args.topology.now.ifaces f c.differs.result) (sym is)
    (differs_named c.args.topology.now.ifaces own octet c.differs.result (c.requires.there own octet is) c.differs.ensures)

pub returns-in-Refused-Known : goal.returns-in-Refused-Known
returns-in-Refused-Known g c =
    let before = inputs_seen g.I.Inputs.seen c.args.inputs.now in
    let after = inputs_seen g.I.Inputs.seen c.refused_status.new.inputs in
    let is : c.args.fault.now ≡ Refused (Known c.in-Refused-Known.partition c.in-Refused-Known.cause) = search rules in
    subst (λ f. IsStatusOfFiles before after c.args.topology.now.ifaces f c.refused_status.result) (sym is) (c.refused_status.ensures c.args.topology.now.ifaces)
