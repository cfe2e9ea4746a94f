use Rattle.std.proofs.Common.{◌≡◌, ℕ, List, [], ◌∷◌, ◌++◌, ◌∙◌, length, ap}
use Rattle.nm_report.specs.Sources.{count_values}
use Rattle.nm_report.proofs.Sources.{five_parts, same_count}
use Rattle.nm_report.proofs.measures.measures_of.Goals as goal

pub returns-clause-values : goal.returns-clause-values
returns-clause-values c ds es delays trips few_ds few_es =
    let flow = c.args.flow.now in
    let times = c.args.times.now in
    let sent : List ℕ = flow.sent ∷ flow.delivered ∷ flow.refused ∷ flow.dropped ∷ flow.discarded ∷ flow.under_way ∷ [] in
    let answered : c.count.result ≡ length es = c.count.ensures ∙ same_count times.round_trips.spread.count (length es) trips.added.count few_es in
    let first : c.extend_from_slice.new.self.items ≡ sent =
    c.in_ok-extend_from_slice.ensures.items ∙ ap (λ l. l ++ c.fates.result) c.new-values.ensures.items ∙ c.fates.ensures in
    record {
      one_way = c.times_of.result;
      round = c.times_of-2.result;
      delays = c.times_of.ensures ds delays few_ds;
      trips = c.times_of-2.ensures es trips few_es;
      are = five_parts sent (c.octets.result ∷ c.rate.result ∷ []) c.times_of.result (c.count.result ∷ flow.astray ∷ []) c.times_of-2.result
          c.extend_from_slice.new.self.items c.extend_from_slice-2.new.self.items c.extend_from_slice-3.new.self.items c.extend_from_slice-4.new.self.items c.extend_from_slice-5.new.self.items
          first c.in_ok-extend_from_slice-2.ensures.items c.in_ok-extend_from_slice-3.ensures.items c.in_ok-extend_from_slice-4.ensures.items c.in_ok-extend_from_slice-5.ensures.items
          ∙ (λ i. sent ++ (c.octets.ensures i ∷ c.rate.ensures i ∷ []) ++ c.times_of.result ++ (answered i ∷ flow.astray ∷ c.times_of-2.result));
    }
