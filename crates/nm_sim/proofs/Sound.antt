-- Ports of which one changes keep memory, and record what is wanted.
use Rattle.std.proofs.Common.{◌≡◌, ◌≤◌, ◌⊎◌, inl, inr, ℕ, List, Option, Some, None, slice_get, slice_set, sym, ap, ◌∙◌, ⊎_elim, arith}
use Rattle.std.specs.Option.{IfSome}
use Rattle.nm_base.specs.Wanted.{is_wanted}
use Rattle.nm_base.specs.declared.wanted.Wanted.{Wanted}
use Rattle.nm_iface.specs.PortValue.{PortValue}
use Rattle.nm_sim.specs.Devices.{AreSound, IsSamePort}
use Rattle.nm_sim.specs.Tables.{AllSome}
use Rattle.nm_sim.proofs.Tables.{all_set}

-- what is said of each port
abbrev pub IsSound : Wanted → Option ℕ → ℕ → PortValue → Type 0
IsSound wanted used i w = ((1 ≤ w.room) ⊎ (used ≡ Some i)) × (w.recorded ≡ is_wanted wanted i)

module _ (wanted : Wanted) (used : Option ℕ) (ports : List (Option PortValue)) (sound : AreSound wanted used ports) where
  -- each port has memory: then no port need have been used
  pub all_sound : AllSome (λ i w. 1 ≤ w.room) ports → (u : Option ℕ) → AreSound wanted u ports
  all_sound room u i o e = go o (room i o e) (sound i o e)
    where
      go : (o : Option PortValue) → IfSome o (λ w. 1 ≤ w.room) → IfSome o (IsSound wanted used i) → IfSome o (IsSound wanted u i)
      go None r s = tt
      go (Some w) r s = (inl r, s.1)

  module _ (i k : ℕ) (same : k ≡ i) (v w : PortValue) (here : slice_get ports i ≡ Some (Some v)) (recorded : w.recorded ≡ v.recorded) where
    -- a port changes that has as much memory
    pub sound_changed : v.room ≤ w.room → AreSound wanted used (slice_set ports k (Some w))
    sound_changed room =
        let s = sound i (Some v) here in
        all_set (λ j o. IfSome o (IsSound wanted used j)) ports k (Some w) (λ j o h g. sound j o g)
        (⊎_elim (λ h. inl (omega (arith, h, room))) (λ h. inr (h ∙ ap Some (sym same))) s.0, recorded ∙ s.1 ∙ ap (is_wanted wanted) (sym same))

    -- a port changes that may have used its memory
    pub sound_used : AllSome (λ j w. 1 ≤ w.room) ports → AreSound wanted (Some i) (slice_set ports k (Some w))
    sound_used room =
        let all = all_sound room (Some i) in
        let s = sound i (Some v) here in
        all_set (λ j o. IfSome o (IsSound wanted (Some i) j)) ports k (Some w) (λ j o h g. all j o g)
        (inr (ap Some (sym same)), recorded ∙ s.1 ∙ ap (is_wanted wanted) (sym same))

  -- the port whose memory was used gets memory, or not
  pub sound_filled : (k : ℕ) (o p : Option PortValue) → used ≡ Some k → slice_get ports k ≡ Some o → IsSamePort o p → AreSound wanted used (slice_set ports k p)
  sound_filled k o p is here same = all_set (λ j o. IfSome o (IsSound wanted used j)) ports k p (λ j o h g. sound j o g) (go o p same (sound k o here))
    where
      go : (o p : Option PortValue) → IsSamePort o p → IfSome o (IsSound wanted used k) → IfSome p (IsSound wanted used k)
      go o None e s = tt
      go None (Some w) e s = absurd e
      go (Some v) (Some w) e s = (inr is, ap (λ (z : PortValue). z.recorded) e ∙ s.1)
