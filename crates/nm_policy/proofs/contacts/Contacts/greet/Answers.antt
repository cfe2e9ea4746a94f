use Rattle.std.proofs.Common.{◌≡◌, rules, sym, ◌∙◌, Some}
use Rattle.nm_policy.specs.Contacts.{contact_at}
use Rattle.nm_policy.proofs.Greets.{greets_caller}
use Rattle.nm_policy.proofs.contacts.Contacts.greet.Goals as goal

pub returns : goal.returns
returns c =
    let at : contact_at c.args.self.now.connections c.args.key ≡ Some c.in-Some-Some.contact = search rules in
    let e = greets_caller c.args.self.now c.args.key c.args.name.now c.in-Some-Some.contact at (sym c.has_greeted.ensures ∙ c.if-has_greeted.false) (sym c.is_some-is_called.ensures ∙ c.if-is_called.false) in
    c.keep-2.ensures ∙ (rw (c.met-met.ensures, c.replace.ensures) (sym e))
