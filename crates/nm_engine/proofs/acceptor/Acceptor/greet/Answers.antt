use Rattle.std.proofs.Common.{◌≡◌, inl, refl, arith, Err}
use Rattle.std.proofs.lemmas.Grind.{common_steps}
use Rattle.nm_frames.specs.declared.session_fault.SessionFault.TheVariants.{Peer}
use Rattle.nm_engine.specs.Acceptor.{first_taken}
use Rattle.nm_engine.proofs.acceptor.Acceptor.greet.Goals as goal

pub returns-then-not-has_channels : goal.returns-then-not-has_channels
returns-then-not-has_channels c =
    let refused : first_taken c.args.self.now c.args.frame ≡ Err Peer = grind (arith, common_steps) in
    inl (refl, (Peer, refused))

pub returns-in-Err : goal.returns-in-Err
returns-in-Err c =
    let refused : first_taken c.args.self.now c.args.frame ≡ Err c.in-Err.field-0 = grind (arith, common_steps) in
    inl (refl, (c.in-Err.field-0, refused))
