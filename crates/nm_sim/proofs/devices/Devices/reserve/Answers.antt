use Rattle.std.proofs.Common.{◌≡◌, ap, ◌≤◌, ℕ, List, length, Option, Some, None, slice_get, slice_set, refl, sym, subst, ⊎_elim, rules, arith, length-set}
use Rattle.std.specs.Option.{IfSome}
use Rattle.std.proofs.lemmas.Option.{IfSome_then, same_Some, slice_get_read, slice_get_within}
use Rattle.nm_iface.specs.PortValue.{PortValue}
use Rattle.nm_sim.specs.contracts.devices.Devices.{the_view}
use Rattle.nm_base.specs.declared.wanted.Wanted.{Wanted}
use Rattle.nm_sim.specs.Devices.{AreSound, DevicesValue, IsSame, IsSamePort}
use Rattle.nm_sim.specs.Tables.{AllSome}
use Rattle.nm_sim.proofs.Sound.{all_sound, sound_filled}
use Rattle.nm_sim.proofs.Tables.{all_set}
use Rattle.nm_sim.proofs.devices.Devices.reserve.Goals.{then-index-len+in_ok-reserve_at, else-index-len}
use Rattle.nm_sim.proofs.devices.Devices.reserve.Goals as goal

same_port : (o : Option PortValue) → IsSamePort o o
same_port None = tt
same_port (Some w) = refl

-- one port got memory, or none did
one_changed : (d : DevicesValue) (used : Option ℕ) (k : ℕ) (o p : Option PortValue) → slice_get d.ports k ≡ Some o → IsSamePort o p
    → IsSame d (record d { ports = slice_set d.ports k p; used = used })
one_changed d used k o p e s = record {
  nodes = refl;
  port_count = length-set d.ports k p;
  ports = all_set (λ i w. (v : Option PortValue) × (slice_get d.ports i ≡ Some v) × IsSamePort v w) d.ports k p (λ i w h g. (w, g, same_port w)) (o, e, s);
  sources = refl;
  wanted = refl;
}

none_changed : (d : DevicesValue) (used : Option ℕ) → IsSame d (record d { used = used })
none_changed d used = record { nodes = refl; port_count = refl; ports = λ i w e. (w, e, same_port w); sources = refl; wanted = refl }

module _ (ports : List (Option PortValue)) (wanted : Wanted) (i : ℕ) (all : AreSound wanted (Some i) ports) where
  -- all have memory once the port whose memory was used has
  one_filled : (k : ℕ) (p : Option PortValue) → k ≡ i → IfSome p (λ w. 1 ≤ w.room) → AllSome (λ j w. 1 ≤ w.room) (slice_set ports k p)
  one_filled k p e room = all_set (λ j o. IfSome o (λ w. 1 ≤ w.room)) ports k p
      (λ j o h g. IfSome_then o (all j o g) (λ w s. ⊎_elim (λ q. q) (λ q. absurd (h cc)) s.0)) room

  -- or if there is no such port
  all_filled : length ports ≤ i → AllSome (λ j w. 1 ≤ w.room) ports
  all_filled past j o g = IfSome_then o (all j o g) (λ w s. ⊎_elim (λ q. q) (λ q. absurd (omega (arith, slice_get_within ports j o g, same_Some i j q))) s.0)

pub invariant_of-self : goal.invariant_of-self
invariant_of-self c =
    let all = subst (λ u. AreSound c.self.inside.wanted u c.self.inside.ports.items) c.in-Some.is c.self.invariant in
    let here : slice_get c.self.inside.ports.items c.index-then-index-len.result ≡ Some c.index_mut.result.now = search (rules, slice_get_read) in
    rw c.in-Some.is (sound_filled c.self.inside.wanted (Some c.in-Some.iface) c.self.inside.ports.items all c.index-then-index-len.result c.index_mut.result.now c.reserve_at.new.port
    (ap Some (sym c.index-then-index-len.ensures)) here c.reserve_at.ensures.same)

pub returns-in_err-reserve_at-clause-same : goal.returns-in_err-reserve_at-clause-same
returns-in_err-reserve_at-clause-same c = rw (← c.self.view_is) (
    let here : slice_get c.self.inside.ports.items c.index-then-index-len.result ≡ Some c.index_mut.result.now = search (rules, slice_get_read) in
    one_changed (the_view c.self.inside) c.self.inside.used c.index-then-index-len.result c.index_mut.result.now c.reserve_at.new.port here c.in_err-reserve_at.ensures.same)

pub returns-after-index-len-clause-same : goal.returns-after-index-len-clause-same
returns-after-index-len-clause-same c = rw (← c.self.view_is) (
    let same : IsSame (the_view c.self.inside) (the_view c.if-index-len.self-inside) = elim c.if-index-len.branch [
      | then-index-len+in_ok-reserve_at w ↦
          let here : slice_get c.self.inside.ports.items w.index-then-index-len.result ≡ Some w.index_mut.result.now = search (rules, slice_get_read) in
          rw w.self-inside-is (one_changed (the_view c.self.inside) c.self.inside.used w.index-then-index-len.result w.index_mut.result.now w.reserve_at.new.port here w.in_ok-reserve_at.ensures.same)
      | else-index-len w ↦ rw w.self-inside-is (none_changed (the_view c.self.inside) c.self.inside.used)
    ] in
    record { nodes = same.nodes; port_count = same.port_count; ports = same.ports; sources = same.sources; wanted = same.wanted })

pub returns-after-index-len-clause-room : goal.returns-after-index-len-clause-room
returns-after-index-len-clause-room c =
    let all = subst (λ u. AreSound c.self.inside.wanted u c.self.inside.ports.items) c.in-Some.is c.self.invariant in
    elim c.if-index-len.branch as (λ _. AllSome (λ j w. 1 ≤ w.room) c.if-index-len.self-inside.ports.items) [
      | then-index-len+in_ok-reserve_at w ↦ rw w.self-inside-is (one_filled c.self.inside.ports.items c.self.inside.wanted c.in-Some.iface all w.index-then-index-len.result w.reserve_at.new.port w.index-then-index-len.ensures w.in_ok-reserve_at.ensures.room)
      | else-index-len w ↦ rw w.self-inside-is (all_filled c.self.inside.ports.items c.self.inside.wanted c.in-Some.iface all (omega arith))
    ]

-- each port has memory then
pub invariant_of-self-in-Some : goal.invariant_of-self-in-Some
invariant_of-self-in-Some c =
    let all = subst (λ u. AreSound c.self.inside.wanted u c.self.inside.ports.items) c.in-Some.is c.self.invariant in
    elim c.if-index-len.branch as (λ _. AreSound c.if-index-len.self-inside.wanted None c.if-index-len.self-inside.ports.items) [
      | then-index-len+in_ok-reserve_at w ↦
          let here : slice_get c.self.inside.ports.items w.index-then-index-len.result ≡ Some w.index_mut.result.now = search (rules, slice_get_read) in
          let sound = sound_filled c.self.inside.wanted (Some c.in-Some.iface) c.self.inside.ports.items all w.index-then-index-len.result w.index_mut.result.now w.reserve_at.new.port
          (ap Some (sym w.index-then-index-len.ensures)) here w.in_ok-reserve_at.ensures.same in
          let room = one_filled c.self.inside.ports.items c.self.inside.wanted c.in-Some.iface all w.index-then-index-len.result w.reserve_at.new.port w.index-then-index-len.ensures w.in_ok-reserve_at.ensures.room in
          rw w.self-inside-is (all_sound c.self.inside.wanted (Some c.in-Some.iface) _ sound room None)
      | else-index-len w ↦
          rw w.self-inside-is (all_sound c.self.inside.wanted (Some c.in-Some.iface) c.self.inside.ports.items all (all_filled c.self.inside.ports.items c.self.inside.wanted c.in-Some.iface all (omega arith)) None)
    ]

pub returns-in_default-clause-room : goal.returns-in_default-clause-room
returns-in_default-clause-room c = rw (← c.self.view_is) (λ i o e. IfSome_then o (c.self.invariant i o e) (λ w s. ⊎_elim (λ q. q) (λ q. absurd (c.in_default.not-Some i q)) s.0))
