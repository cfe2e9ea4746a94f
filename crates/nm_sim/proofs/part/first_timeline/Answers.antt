use Rattle.std.proofs.Common.{◌≡◌, ◌+◌, suc, sym, ap, ◌∙◌, subst, arith}
use Rattle.std.specs.FinMap.{empty}
use Rattle.nm_model.specs.EventList.{schedule}
use Rattle.nm_model.specs.Run.{first_event, source_events}
use Rattle.nm_sim.specs.Network.{first_here, here_of, net_of}
use Rattle.nm_sim.specs.Timelines.{AreFresh, everywhere}
use Rattle.nm_sim.proofs.Openings.{opens_fresh, opened_more}
use Rattle.nm_sim.proofs.part.first_timeline.Goals as goal

pub schedule_first-requires-clause-fresh : goal.schedule_first-requires-clause-fresh
schedule_first-requires-clause-fresh g c =
    let t = c.args.topology.now in
    let part = c.args.part.now in
    let n : c.source_number-source.result ≡ c.loop-number.number = c.source_number-source.ensures ∙ omega arith in
    subst (λ m. AreFresh m (first_event c.source_number-source.result c.in_ok-first.first)) (sym (c.in_ok-reserve.ensures.events ∙ c.loop-number.invariant.0))
    (subst (λ j. AreFresh (schedule (here_of t part) (source_events (net_of t) c.loop-number.number) empty) (first_event j c.in_ok-first.first))
    (sym n) (opens_fresh t part c.loop-number.number c.in_ok-first.first))

pub loop-number-preserved : goal.loop-number-preserved
loop-number-preserved g c =
    let t = c.args.topology.now in
    let part = c.args.part.now in
    let z = c.requires in
    let n : c.source_number-source.result ≡ c.loop-number.number = c.source_number-source.ensures ∙ omega arith in
    let first : c.in_ok-first.first ≡ first_here t part c.loop-number.number = c.in_ok-first.ensures (record { part = part; node = z.0; port = z.1 }) z.2 ∙ ap (first_here t part) n in
    let events = c.in_ok-reserve.ensures.events ∙ c.loop-number.invariant.0 in
    let next : suc c.loop-number.number ≡ c.loop-number.number + 1 = omega arith in (
      c.schedule_first.ensures.events ∙ (λ i. schedule everywhere (first_event (n i) c.in_ok-first.first) (events i)) ∙ opened_more t part c.loop-number.number c.in_ok-first.first first
          ∙ ap (λ k. schedule (here_of t part) (source_events (net_of t) k) empty) next,
      ap (λ l. l.sent) c.schedule_first.ensures.others ∙ c.in_ok-reserve.ensures.sent ∙ c.loop-number.invariant.1,
    )
