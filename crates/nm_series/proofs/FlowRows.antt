-- The row of a source by its totals is that of the one event list.
use Rattle.std.proofs.Common.{◌≡◌, ℕ, suc, ◌+◌, ◌-◌, ◌/◌, ◌<◌, ◌≤◌, ◌^◌, max, List, ◌++◌, length, get_or, ap, ◌∙◌, arith, append_assoc, codes, decimal}
use Rattle.std.proofs.lemmas.Option.{slice_get-get_or}
use Rattle.nm_base.specs.Count.{saturated}
use Rattle.nm_topology.specs.TopologyValue.{TopologyValue}
use Rattle.nm_sim.specs.Network.{net_of}
use Rattle.nm_measure.specs.Counted.{HasTotals, delays_of}
use Rattle.nm_measure.specs.Delays.{greatest_behind}
use Rattle.nm_measure.specs.Sent.{sent_in}
use Rattle.nm_measure.specs.Sums.{differences_of, mean_of}
use Rattle.nm_measure.specs.Ways.{ends_in}
use Rattle.nm_measure.specs.declared.totals.FlowTotals.{FlowTotals}
use Rattle.nm_measure.proofs.Between.{delays_later, jitter_late, many_delivered, mean_late}
use Rattle.nm_measure.proofs.Starting.{delays_few}
use Rattle.nm_series.specs.Flows.{AreFlowTotals, behind, flow_had, flow_row, flow_rows, totals_row}
use Rattle.nm_series.specs.Rows.{cell}

regrouped : (a b c d e f g h i j : List ℕ) → a ++ b ++ (c ++ d ++ e ++ f) ++ (g ++ h ++ i) ++ j ≡ a ++ b ++ c ++ d ++ e ++ f ++ g ++ h ++ i ++ j
regrouped a b c d e f g h i j = simp append_assoc

module _ (t : TopologyValue) (from first n j : ℕ) (since : first ≤ n) (most : n ≤ 2 ^ 62) where
  abbrev old : List ℕ
  old = delays_of j (ends_in t first)

  abbrev new : List ℕ
  new = delays_of j (ends_in t n)

  module _ (x y : FlowTotals) (greatest : ℕ) (made : x.sent ≡ saturated (sent_in (net_of t) j first)) (was : HasTotals j (ends_in t first) x)
      (makes : y.sent ≡ saturated (sent_in (net_of t) j n)) (is : HasTotals j (ends_in t n) y) (late : greatest ≡ greatest_behind (length (delays_of j (ends_in t first))) (delays_of j (ends_in t n))) where
    few : length (delays_of j (ends_in t n)) ≤ 2 ^ 63
    few = let d = delays_few t j n in omega (arith, d, most)

    abbrev later : (more : List ℕ) × (delays_of j (ends_in t n) ≡ delays_of j (ends_in t first) ++ more)
    later = delays_later t j first n since

    had : x.delivered ≡ length (delays_of j (ends_in t first))
    had = was.delivered ∙ many_delivered j (ends_in t first)

    has : y.delivered ≡ length (delays_of j (ends_in t n))
    has = is.delivered ∙ many_delivered j (ends_in t n)

    mean : saturated ((y.delayed - x.delayed) / (y.delivered - x.delivered)) ≡ mean_of (behind (delays_of j (ends_in t first)) (delays_of j (ends_in t n)))
    mean = (λ i. saturated ((is.delayed i - was.delayed i) / (has i - had i)))
        ∙ mean_late (delays_of j (ends_in t first)) (delays_of j (ends_in t n)) later.0 later.1 is.fits few

    jitter : saturated ((y.differences - x.differences) / (y.delivered - max x.delivered 1))
        ≡ mean_of (behind (differences_of (delays_of j (ends_in t first))) (differences_of (delays_of j (ends_in t n))))
    jitter = (λ i. saturated ((is.differences i - was.differences i) / (has i - max (had i) 1)))
        ∙ jitter_late (delays_of j (ends_in t first)) (delays_of j (ends_in t n)) later.0 later.1 is.fits few

    row_is : totals_row from j x y greatest ≡ flow_row from j (flow_had t first j) (flow_had t n j)
    row_is =
        (λ i. decimal from ++ cell j ++ (cell (makes i - made i) ++ cell (is.delivered i - was.delivered i) ++ cell (is.lost i - was.lost i) ++ cell (is.octets i - was.octets i))
        ++ (cell (mean i) ++ cell (late i) ++ cell (jitter i)) ++ codes "\n")
        ∙ regrouped (decimal from) (cell j) (cell ((flow_had t n j).sent - (flow_had t first j).sent)) (cell ((flow_had t n j).delivered - (flow_had t first j).delivered))
        (cell ((flow_had t n j).lost - (flow_had t first j).lost)) (cell ((flow_had t n j).octets - (flow_had t first j).octets)) _ _ _ (codes "\n")

    -- the text with one row more
    pub row_next : (initial mid next : List ℕ) → mid ≡ initial ++ flow_rows t from first n j → next ≡ mid ++ totals_row from j x y greatest → next ≡ initial ++ flow_rows t from first n (j + 1)
    row_next initial mid next so_far more =
        let same : suc j ≡ j + 1 = omega arith in
        more ∙ ap (λ l. mid ++ l) row_is ∙ ap (λ l. l ++ flow_row from j (flow_had t first j) (flow_had t n j)) so_far
        ∙ append_assoc initial (flow_rows t from first n j) (flow_row from j (flow_had t first j) (flow_had t n j))
        ∙ ap (λ k. initial ++ flow_rows t from first n k) same

-- of the totals of all sources
pub rows_next : (t : TopologyValue) (from first n j : ℕ) → first ≤ n → n ≤ 2 ^ 62 → (before after : List FlowTotals) → AreFlowTotals t first before → AreFlowTotals t n after → j < length t.sources
    → (d e : FlowTotals) (greatest : ℕ) → greatest ≡ greatest_behind (length (delays_of j (ends_in t first))) (delays_of j (ends_in t n))
    → (initial mid next : List ℕ) → mid ≡ initial ++ flow_rows t from first n j → next ≡ mid ++ totals_row from j (get_or before j d) (get_or after j e) greatest
    → next ≡ initial ++ flow_rows t from first n (j + 1)
rows_next t from first n j since most before after was is low d e greatest late initial mid next so_far more =
    let x = was.each j (get_or before j d) (slice_get-get_or before j d (let c = was.count in omega (arith, c, low))) in
    let y = is.each j (get_or after j e) (slice_get-get_or after j e (let c = is.count in omega (arith, c, low))) in
    row_next t from first n j since most (get_or before j d) (get_or after j e) greatest x.0 x.1 y.0 y.1 late initial mid next so_far more
