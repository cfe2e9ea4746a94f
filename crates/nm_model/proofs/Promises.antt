-- Promises are kept: what comes by a channel past what was put on it comes no earlier.
use Rattle.std.proofs.Common.{◌≡◌, ◌⊎◌, inl, inr, refl, ℕ, ◌+◌, ◌≤◌, length, Option, Some, None, sym, ap, ◌∙◌, arith, ⊎_elim, false, true}
use Rattle.nm_base.specs.declared.key.Place.TheVariants.{Arrive}
use Rattle.nm_model.specs.Lists.{nth}
use Rattle.nm_model.specs.Network.{Net, IsNet}
use Rattle.nm_model.specs.Port.{Busy, busy_until}
use Rattle.nm_model.specs.Run.{one_list, pends_before}
use Rattle.nm_model.specs.Knowledge.{Knowledge, IsValid}
use Rattle.nm_model.specs.Partition.{in_part, comes_in}
use Rattle.nm_model.specs.Replica.{from_scratch, IsWithin}
use Rattle.nm_model.specs.Promise.{Promising, Plain, Tight, promise}
use Rattle.nm_model.proofs.ListLemmas.{prefix_nth}
use Rattle.nm_model.proofs.Runs.{invariant_run}
use Rattle.nm_model.proofs.CutLaw.{cut_of, meets, since_run, out_timed}

module _ {P N : Type 0} (net : Net P N) (ok : IsNet net) (p : ℕ) (K : Knowledge P) (last : ℕ) (ends : pends_before net.stop (one_list net last) ≡ false) (valid : (c : ℕ) → comes_in net p c ≡ true → IsValid (K c) ((one_list net last).sent c)) where
  module _ (k c : ℕ) (w : IsWithin net p K k) (mc : in_part net p (Arrive (net.far_end c)) ≡ true) (i : ℕ) (b : ℕ × P) (le : length ((from_scratch net p K k).sent c) ≤ i) (e : nth ((one_list net last).sent c) i ≡ Some b) where
    -- a further transmission starts once the one under way is complete
    after_busy : (o : Option (Busy P)) → ((from_scratch net p K k).port (net.far_end c)).busy ≡ o → (busy_until o ≡ 0) ⊎ (busy_until o + net.tx (net.far_end c) b.1 + net.delay (net.far_end c) ≤ b.0)
    after_busy None f = inl (omega arith)
    after_busy (Some u) f =
        let n = meets net ok p K last ends valid k w in
        let cut = cut_of net ok p K last ends valid n.0 k w n.2 in
        let g = invariant_run net ok n.0 in
        let gl = invariant_run net ok last in
        let port = cut.agrees.port (net.far_end c) mc in
        let a = g.1.underway (net.far_end c) u (ap (λ z. z.busy) port ∙ f) in
        let line : (one_list net n.0).sent (net.far_end (net.far_end c)) ≡ (one_list net n.0).sent c = ap (one_list net n.0).sent (ok.twice c) in
        let grow = (since_run net ok p last n.0 0 n.1 (λ q y h. omega arith)).grows c in
        let at : nth ((one_list net last).sent c) a.0 ≡ Some (u.completes + net.delay (net.far_end c), a.1) = prefix_nth _ _ a.0 _ grow (ap (λ l. nth l a.0) (sym line) ∙ a.3) in
        let len = ap length line in
        let lenk = ap length (cut.agrees.sent c mc) in
        let s = gl.1.spaced c a.0 i (u.completes + net.delay (net.far_end c), a.1) b (omega (arith, a.2)) at e in
        inr (omega arith)

    pub out_later : (kind : Promising) → promise net kind p K k c ≤ b.0
    out_later Plain = let t = out_timed net ok p K last ends valid k c w mc i b le e in omega arith
    out_later Tight =
        let t = out_timed net ok p K last ends valid k c w mc i b le e in
        let u = ok.takes_least (net.far_end c) b.1 in
        ⊎_elim (λ z. omega arith) (λ z. omega arith) (after_busy ((from_scratch net p K k).port (net.far_end c)).busy refl)

pub plain_below : {P N : Type 0} (net : Net P N) (p : ℕ) (K : Knowledge P) (k c : ℕ) → promise net Plain p K k c + net.least_tx (net.far_end c) ≤ promise net Tight p K k c
plain_below net p K k c = omega arith
