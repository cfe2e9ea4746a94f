use Rattle.std.proofs.Common.{◌≡◌, ℕ, ◌+◌, ◌∙◌, None, length, sym, ap, subst}
use Rattle.nm_events.specs.Held.{Held, pending_of}
use Rattle.nm_model.specs.Run.{one_list}
use Rattle.nm_sim.specs.Network.{net_of}
use Rattle.nm_sim.specs.Part.{Advanced, PartValue}
use Rattle.nm_sim.specs.Records.{Keeping, cut}
use Rattle.nm_sim.specs.Tracing.{IsTracing, ShowsAt}
use Rattle.nm_sim.proofs.Recordings.{rest_is_all}
use Rattle.nm_sim.proofs.Tracings.{shows_after, tracing_after}
use Rattle.nm_sim.proofs.tracer.Tracer.go_on.Goals as goal

abbrev made : Keeping → ℕ → Keeping
made k n = record k { handed = n }

pub let_go-requires : goal.let_go-requires
let_go-requires c =
    let t = c.args.topology.now in
    let tracing = subst (IsTracing pending_of t) (sym c.self.view_is) c.requires in
    (t, None, one_list (net_of t) tracing.events, tracing.represents)

pub advance-requires-clause-represents : goal.advance-requires-clause-represents
advance-requires-clause-represents c =
    let t = c.args.topology.now in
    let tracing = subst (IsTracing pending_of t) (sym c.self.view_is) c.requires in
    let s = one_list (net_of t) tracing.events in
    (None, s, (c.let_go.ensures.represents t None s tracing.represents).0)

pub returns : goal.returns
returns c =
    let t = c.args.topology.now in
    let p = c.self.inside.part in
    let tracing = subst (IsTracing pending_of t) (sym c.self.view_is) c.requires in
    let s = one_list (net_of t) tracing.events in
    let mid = c.let_go.new.self in
    let gone = c.let_go.ensures.represents t None s tracing.represents in
    let on : IsTracing pending_of t mid = record { events = tracing.events; early = tracing.early; represents = gone.0 } in
    let w = p.records.keeping.wanted in
    let all = ap (λ l. p.records.keeping.handed + length l) tracing.represents.records.kept ∙ rest_is_all p.records.keeping.handed (cut w s.records) tracing.represents.records.few in
    let there : mid.records.keeping.handed ≡ length (cut mid.records.keeping.wanted s.records) =
    ap (λ k. k.handed) gone.1 ∙ ap (λ k. length (cut k.wanted s.records)) (sym gone.1) in
    let once = (c.times_pass.ensures (net_of t) c.every_topology_is_a_network.ensures.network).before_once t.stop in
    let done = subst (λ u. Advanced pending_of t (record { part = None; state = s; until = u }) mid c.advance.new.self c.advance.result) c.stop.ensures (c.advance.ensures.advance None s gone.0) in
    record {
      tracing = tracing_after pending_of t mid c.advance.new.self on c.advance.result done;
      next = λ records trace. (
        c.advance.ensures.keeping ∙ gone.1 ∙ ap (λ n. made p.records.keeping n) (sym all) ∙ ap (λ (q : PartValue Held). made q.records.keeping (q.records.keeping.handed + length q.records.kept)) c.self.view_is,
        subst (λ k. ShowsAt (cut k.wanted records) c.advance.result c.advance.new.self.records) (gone.1 ∙ ap (λ (q : PartValue Held). made q.records.keeping (length (cut q.records.keeping.wanted s.records))) c.self.view_is)
            (shows_after pending_of t mid c.advance.new.self on once there c.advance.ensures.keeping c.advance.result done records trace),
      );
    }
