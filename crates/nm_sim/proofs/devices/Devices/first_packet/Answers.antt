use Rattle.std.proofs.Common.{◌≡◌, ◌<◌, length, Some, slice_get, sym, ap, ◌∙◌, subst, rules, arith}
use Rattle.std.proofs.lemmas.Option.{slice_get_read}
use Rattle.std.proofs.lemmas.Result.{IfOk-weaker}
use Rattle.nm_traffic.specs.Source.{source_of}
use Rattle.nm_sim.specs.Devices.{DevicesRepresent}
use Rattle.nm_sim.specs.Network.{is_source_here}
use Rattle.nm_sim.proofs.Networks.{first_elsewhere, first_there}
use Rattle.nm_sim.proofs.Tables.{at_there, not_there}
use Rattle.nm_sim.proofs.devices.Devices.first_packet.Goals as goal

pub returns-in-Some : goal.returns-in-Some
returns-in-Some c = λ states r.
    let s = subst (DevicesRepresent c.args.topology.now states) (sym c.self.view_is) r in
    let within : c.args.source < length c.self.inside.sources.items = omega (arith, c.requires.place, s.source_count) in
    let here : slice_get c.self.inside.sources.items c.args.source ≡ Some c.index-2.result.now = search (rules, slice_get_read) in
    let at = at_there (is_source_here c.args.topology.now states.part) (λ j x. source_of c.args.topology.now j ≡ Some x) c.self.inside.sources.items s.sources c.args.source c.in-Some.state (here ∙ ap Some c.in-Some.is) in
    IfOk-weaker c.next.result _ _ (λ p e. e ∙ sym (first_there c.args.topology.now states.part c.args.source c.in-Some.state at.0 at.1)) c.next.ensures

pub returns-in-None : goal.returns-in-None
returns-in-None c = λ states r.
    let s = subst (DevicesRepresent c.args.topology.now states) (sym c.self.view_is) r in
    let within : c.args.source < length c.self.inside.sources.items = omega (arith, c.requires.place, s.source_count) in
    let here : slice_get c.self.inside.sources.items c.args.source ≡ Some c.index-2.result.now = search (rules, slice_get_read) in
    sym (first_elsewhere c.args.topology.now states.part c.args.source
    (not_there (λ x. source_of c.args.topology.now c.args.source ≡ Some x) (is_source_here c.args.topology.now states.part c.args.source) c.index-2.result.now (s.sources c.args.source c.index-2.result.now here) c.in-None.is))
