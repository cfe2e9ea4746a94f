use Rattle.std.proofs.Common.{◌≡◌, ◌*◌, ◌-◌, ◌/◌, ◌%◌, ◌<◌, ◌≤◌, length, get_or, sym, ap, ap₂, ◌∙◌, rules}
use Rattle.nm_model.specs.Lists.{nth}
use Rattle.nm_knowledge.proofs.Blocks.{nth_full, nth_rest}
use Rattle.nm_knowledge.proofs.Nexts.{looked_up}
use Rattle.nm_knowledge.proofs.messages.Messages.get.Goals as goal

pub returns-in-Some : goal.returns-in-Some
returns-in-Some c =
    let below : c.args.number / 256 < length c.self.inside.full.items = search rules in
    let block : c.in-Some.block.now ≡ get_or c.self.inside.full.items (c.args.number / 256) c.in-Some.block.now = search rules in
    let messages = c.deref-in-Some-2.ensures.value ∙ ap (λ v. v.items) c.deref-in-Some.ensures in
    rw (← c.self.view_is) (looked_up c.deref-in-Some-2.result.now (c.args.number % 256) c.get-in-Some.result c.get-in-Some.ensures.lookup
    ∙ ap (λ l. nth l (c.args.number % 256)) messages
    ∙ sym (nth_full c.self.inside.full.items c.self.inside.last.items c.args.number c.in-Some.block.now c.self.invariant.each below block))

pub returns-in-None : goal.returns-in-None
returns-in-None c =
    let past : length c.self.inside.full.items ≤ c.args.number / 256 = search rules in
    let count : c.len.result ≡ length c.self.inside.full.items = search rules in
    rw (← c.self.view_is) (looked_up c.deref-in-None.result.now (c.args.number - c.len.result * 256) c.get-in-None.result c.get-in-None.ensures.lookup
    ∙ ap₂ (λ l n. nth l (c.args.number - n * 256)) c.deref-in-None.ensures.value count
    ∙ sym (nth_rest c.self.inside.full.items c.self.inside.last.items c.args.number c.self.invariant.each past))
