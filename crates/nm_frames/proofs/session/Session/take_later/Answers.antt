use Rattle.std.proofs.Common.{◌∙◌, sym, ap}
use Rattle.nm_frames.proofs.Taking.{data_refused, data_taken, have_refused, null_refused, null_taken}
use Rattle.nm_frames.proofs.session.Session.take_later.Goals as goal

pub returns-then-not-goes_out-clause-taken : goal.returns-then-not-goes_out-clause-taken
returns-then-not-goes_out-clause-taken c =
    have_refused c.args.self.now c.args.frame c.in-Have.have c.deref.result.now c.goes_out.result c.in-Have.is
    (ap (λ s. s.outgoing) (sym c.self.view_is) ∙ sym c.deref.ensures.value) c.goes_out.ensures c.if-not-goes_out.true

pub returns-then-not-comes_in-clause-taken : goal.returns-then-not-comes_in-clause-taken
returns-then-not-comes_in-clause-taken c =
    data_refused c.args.self.now c.deref-in-Data.result.now c.comes_in.result (ap (λ s. s.incoming) (sym c.self.view_is) ∙ sym c.deref-in-Data.ensures.value)
    c.args.frame c.in-Data.message c.in-Data.is c.comes_in.ensures c.if-not-comes_in.true

pub returns-else-not-comes_in-clause-taken : goal.returns-else-not-comes_in-clause-taken
returns-else-not-comes_in-clause-taken c =
    data_taken c.args.self.now c.deref-in-Data.result.now c.comes_in.result (ap (λ s. s.incoming) (sym c.self.view_is) ∙ sym c.deref-in-Data.ensures.value)
    c.args.frame c.in-Data.message c.in-Data.is c.comes_in.ensures c.if-not-comes_in.false

pub returns-then-not-comes_in-2-clause-taken : goal.returns-then-not-comes_in-2-clause-taken
returns-then-not-comes_in-2-clause-taken c =
    null_refused c.args.self.now c.deref-in-Null.result.now c.comes_in-in-Null.result (ap (λ s. s.incoming) (sym c.self.view_is) ∙ sym c.deref-in-Null.ensures.value)
    c.args.frame c.in-Null.null c.in-Null.is c.comes_in-in-Null.ensures c.if-not-comes_in-2.true

pub returns-else-not-comes_in-2-clause-taken : goal.returns-else-not-comes_in-2-clause-taken
returns-else-not-comes_in-2-clause-taken c =
    null_taken c.args.self.now c.deref-in-Null.result.now c.comes_in-in-Null.result (ap (λ s. s.incoming) (sym c.self.view_is) ∙ sym c.deref-in-Null.ensures.value)
    c.args.frame c.in-Null.null c.in-Null.is c.comes_in-in-Null.ensures c.if-not-comes_in-2.false
