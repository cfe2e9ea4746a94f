use Rattle.std.proofs.Common.{refl, sym, ap, ◌∙◌, subst}
use Rattle.nm_base.specs.declared.event.Event.TheVariants.{Completion}
use Rattle.nm_model.specs.Run.{keyed}
use Rattle.std.specs.Option.{IfSome}
use Rattle.nm_sim.specs.Effects.{IsCopied}
use Rattle.nm_sim.specs.Part.{IsReady, PartValue, states_in, to_do}
use Rattle.nm_sim.proofs.Steps.{is_busy, least_has}
use Rattle.nm_sim.specs.Told.{started_octets}
use Rattle.nm_sim.proofs.Takings.{octets_are, taken_same}
use Rattle.nm_sim.proofs.part.Part.complete.Goals as goal

pub complete-start-requires-clause-busy : goal.complete-start-requires-clause-busy
complete-start-requires-clause-busy g c =
    let part = c.requires.ready.0 in
    let s = c.requires.ready.1 in
    let ready = subst (λ (p : PartValue g.row.L.Denot). IsReady g.L.EventList.pending c.args.topology.now part (keyed c.args.due.time c.args.due.number (Completion c.args.iface)) p s) (sym c.self.view_is) c.requires.ready.2 in
    let there = least_has s.pending (keyed c.args.due.time c.args.due.number (Completion c.args.iface)) ready.taken.first in
    is_busy c.args.topology.now part s ready.taken.orderly c.self.inside.devices ready.devices c.args.iface c.args.due.time c.args.due.number (Completion c.args.iface) there (ready.taken.placed _ _ there)

pub finish-requires-clause-copied : goal.finish-requires-clause-copied
finish-requires-clause-copied g c =
    let part = c.requires.ready.0 in
    let s = c.requires.ready.1 in
    let ready = subst (λ (p : PartValue g.row.L.Denot). IsReady g.L.EventList.pending c.args.topology.now part (keyed c.args.due.time c.args.due.number (Completion c.args.iface)) p s) (sym c.self.view_is) c.requires.ready.2 in
    subst (λ w. IfSome c.complete-start.result (IsCopied w)) ready.taken.wanted c.complete-start.ensures.copied

pub finish-requires-clause-under_way : goal.finish-requires-clause-under_way
finish-requires-clause-under_way g c =
    let part = c.requires.ready.0 in
    let s = c.requires.ready.1 in
    let p : PartValue g.row.L.Denot = record { part = c.self.inside.part; devices = c.self.inside.devices; timeline = c.self.inside.timeline; outgoing = c.self.inside.outgoing; records = c.self.inside.records; steps = c.self.inside.steps } in
    let q : PartValue g.row.L.Denot = record { part = c.self.inside.part; devices = c.complete-start.new.self; timeline = c.self.inside.timeline; outgoing = c.self.inside.outgoing; records = c.self.inside.records; steps = c.self.inside.steps } in
    let ready = subst (λ (p : PartValue g.row.L.Denot). IsReady g.L.EventList.pending c.args.topology.now part (keyed c.args.due.time c.args.due.number (Completion c.args.iface)) p s) (sym c.self.view_is) c.requires.ready.2 in (
      to_do part (keyed c.args.due.time c.args.due.number (Completion c.args.iface)) s,
      record {
        taken = taken_same g.L.EventList.pending c.args.topology.now c.args.due.time (to_do part (keyed c.args.due.time c.args.due.number (Completion c.args.iface)) s) p q (record { is_part = refl; sent = refl; outgoing = refl; steps = refl; wanted = c.complete-start.ensures.wanted; keeping = refl }) ready.taken refl refl;
        does = c.complete-start.ensures.does (states_in part s) c.args.due.number ready.devices;
      },
    )

pub returns : goal.returns
returns g c = rw (← c.self.view_is) (
  λ part s ready.
      let p : PartValue g.row.L.Denot = record { part = c.self.inside.part; devices = c.self.inside.devices; timeline = c.self.inside.timeline; outgoing = c.self.inside.outgoing; records = c.self.inside.records; steps = c.self.inside.steps } in
      let q : PartValue g.row.L.Denot = record { part = c.self.inside.part; devices = c.complete-start.new.self; timeline = c.self.inside.timeline; outgoing = c.self.inside.outgoing; records = c.self.inside.records; steps = c.self.inside.steps } in
      let does = c.complete-start.ensures.does (states_in part s) c.args.due.number ready.devices in (
        c.finish.ensures.represents (to_do part (keyed c.args.due.time c.args.due.number (Completion c.args.iface)) s) (record {
          taken = taken_same g.L.EventList.pending c.args.topology.now c.args.due.time (to_do part (keyed c.args.due.time c.args.due.number (Completion c.args.iface)) s) p q (record { is_part = refl; sent = refl; outgoing = refl; steps = refl; wanted = c.complete-start.ensures.wanted; keeping = refl }) ready.taken refl refl;
          does = does;
        }),
        record {
          arrived = refl;
          offering = refl;
          started = c.octets_of_start-started.ensures ∙ octets_are c.complete-start.result ∙ ap started_octets does.does.transmission;
        },
      ),
  c.finish.ensures.steps,
  c.finish.ensures.keeping,
)
