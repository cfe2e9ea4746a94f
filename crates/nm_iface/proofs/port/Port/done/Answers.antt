use Rattle.std.proofs.Common.{◌≡◌, ap, sym, ◌∙◌, ◌+◌, ◌≤◌, ℕ, suc, List, ◌∷◌, length, subst, arith}
use Rattle.nm_base.specs.declared.limits.TheConstants.{MAX_PACKET_OCTETS}
use Rattle.nm_iface.specs.declared.queue_item.QueueItem.{QueueItem}
use Rattle.std.proofs.lemmas.List.Elements.{All-rest}
use Rattle.std.specs.Option.{IsSome}
use Rattle.nm_iface.proofs.Waiting.{octets_of, one_goes}
use Rattle.nm_iface.proofs.port.Port.done.Goals as goal

abbrev octets : List QueueItem → ℕ
octets ws = octets_of (λ w. w.packet) ws

pub invariant_of-self : goal.invariant_of-self
invariant_of-self c =
    let I = c.self.invariant in
    let before = c.self.inside.waiting.items in
    let rest = c.pop_front.new.self.items in
    let all : octets before ≡ c.octet_count.result + octets rest =
    ap octets c.in-Some.ensures.items ∙ one_goes (λ w. w.packet) c.in-Some.item rest
    ∙ ap (λ n. n + octets rest) (sym c.octet_count.ensures.count) in (
      I.0,
      I.1,
      I.2,
      λ e. cc,
      omega (arith, all, I.4),
      All-rest (λ w. length w.packet ≤ MAX_PACKET_OCTETS) c.in-Some.item rest before c.in-Some.ensures.items I.5,
      c.transmission-start.ensures.completes,
      λ r. All-rest (λ w. IsSome w.copy) c.in-Some.item rest before c.in-Some.ensures.items (I.7 r),
    )
