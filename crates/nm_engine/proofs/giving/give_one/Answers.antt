use Rattle.std.proofs.Common.{◌≡◌, ◌++◌, [], Option, Some, Ok, ◌∙◌, ap, sym, subst, append-nil}
use Rattle.std.specs.Prelude.{OnErr}
use Rattle.nm_frames.specs.Frame.{frame_octets}
use Rattle.nm_frames.specs.Session.{SessionValue}
use Rattle.nm_engine.specs.Giving.{GivesFrames}
use Rattle.nm_engine.specs.Passes.{at, counted_by, owner_if}
use Rattle.nm_engine.proofs.Givings.{gives_none, gives_one}
use Rattle.nm_engine.proofs.Passes.{is_met, looked}
use Rattle.nm_engine.proofs.giving.give_one.Goals as goal

pub returns-in-Ok-clause-gives : goal.returns-in-Ok-clause-gives
returns-in-Ok-clause-gives g c =
    let C = g.C.Counts in
    let b = c.act-back.ensures.0 in
    let does = c.act-back.ensures.2 in
    let old = counted_by C.exact C.messages_of C.events_of c.args.pass.now.share in
    let new = counted_by C.exact C.messages_of C.events_of c.act-back.new.pass.share in
    let before = c.args.out.now.items in
    let after = c.put.new.self.items in
    let f = c.in-Ok-Some.frame in
    λ h.
    subst (λ (s : Option SessionValue). GivesFrames (owner_if C.exact C.home) h (at s old) (at (Some c.act-back.result.0) new) before after []) (sym (sym c.take.ensures.value ∙ c.in-Some.is))
    (gives_one (owner_if C.exact C.home) h c.in-Some.asked c.act-back.result.0 old new b f c.act-back.result.1 (c.in-Ok-Some.is ∙ ap Ok c.in-Ok-Some.field-0-is) does.1 does.2
    (is_met C.messages_of C.events_of c.args.pass.now.share c.act-back.new.pass.share C.exact C.home b c.act-back.ensures.1 c.act-back.ensures.3)
    (looked C.messages_of C.events_of c.args.pass.now.share c.act-back.new.pass.share C.exact C.home b c.act-back.ensures.1 does.0 c.act-back.ensures.3)
    c.in-Ok.ensures.fits before after [] (append-nil after ∙ c.in-Ok.ensures.ok))

pub returns-clause-gives : goal.returns-clause-gives
returns-clause-gives g c =
    let C = g.C.Counts in
    let b = c.act-back.ensures.0 in
    let does = c.act-back.ensures.2 in
    let old = counted_by C.exact C.messages_of C.events_of c.args.pass.now.share in
    let new = counted_by C.exact C.messages_of C.events_of c.act-back.new.pass.share in
    let before = c.args.out.now.items in
    let after = c.put.new.self.items in
    let f = c.in-Ok-Some.frame in
    λ h. (
      frame_octets f,
      subst (λ (s : Option SessionValue). GivesFrames (owner_if C.exact C.home) h (at s old) (at (Some c.act-back.result.0) new) before after (frame_octets f)) (sym (sym c.take.ensures.value ∙ c.in-Some.is))
          (gives_one (owner_if C.exact C.home) h c.in-Some.asked c.act-back.result.0 old new b f c.act-back.result.1 (c.in-Ok-Some.is ∙ ap Ok c.in-Ok-Some.field-0-is) does.1 does.2
          (is_met C.messages_of C.events_of c.args.pass.now.share c.act-back.new.pass.share C.exact C.home b c.act-back.ensures.1 c.act-back.ensures.3)
          (looked C.messages_of C.events_of c.args.pass.now.share c.act-back.new.pass.share C.exact C.home b c.act-back.ensures.1 does.0 c.act-back.ensures.3)
          c.in-Err-put.ensures.fits before after (frame_octets f) (ap (λ l. l ++ frame_octets f) c.in-Err-put.ensures.err)),
    )

pub returns-in-Err-clause-gives : goal.returns-in-Err-clause-gives
returns-in-Err-clause-gives g c =
    let C = g.C.Counts in
    let b = c.act-back.ensures.0 in
    let does = c.act-back.ensures.2 in
    let old = counted_by C.exact C.messages_of C.events_of c.args.pass.now.share in
    let new = counted_by C.exact C.messages_of C.events_of c.act-back.new.pass.share in
    let same : c.act-back.result.0 ≡ c.in-Some.asked = subst (λ r. OnErr r (c.act-back.result.0 ≡ c.in-Some.asked)) c.in-Err.is does.3 in
    λ h. (
      [],
      gives_none (owner_if C.exact C.home) h c.args.session.now (Some c.act-back.result.0) old new c.args.out.now.items (ap Some same ∙ sym (sym c.take.ensures.value ∙ c.in-Some.is))
          (looked C.messages_of C.events_of c.args.pass.now.share c.act-back.new.pass.share C.exact C.home b c.act-back.ensures.1 does.0 c.act-back.ensures.3),
    )
