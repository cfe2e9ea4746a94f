use Rattle.std.proofs.Common.{◌≡◌, ◌≤◌, inl, ℕ, Option, Some, None, sym, ap, ◌∙◌}
use Rattle.std.specs.Option.{IfSome}
use Rattle.nm_base.specs.Wanted.{is_wanted}
use Rattle.nm_base.specs.declared.wanted.Wanted.{Wanted}
use Rattle.nm_iface.specs.PortValue.{PortValue}
use Rattle.nm_sim.proofs.Sound.{IsSound}
use Rattle.nm_sim.proofs.devices.Devices.new.Goals as goal

both : (wanted other : Wanted) (i : ℕ) (o : Option PortValue) → other ≡ wanted → IfSome o (λ w. 1 ≤ w.room) → IfSome o (λ w. w.recorded ≡ is_wanted wanted i) → IfSome o (IsSound other None i)
both wanted other i None e r h = tt
both wanted other i (Some w) e r h = (inl r, h ∙ ap (λ v. is_wanted v i) (sym e))

pub invariant_of-result : goal.invariant_of-result
invariant_of-result c = λ i o e. both c.args.wanted.now c.again.result i o c.again.ensures (c.in_ok-first_ports.ensures.room i o e) (c.in_ok-first_ports.ensures.recorded i o e)
