use Rattle.std.proofs.Common.{◌==◌, ap, ◌∙◌, option_map, cond}
use Rattle.nm_sim.specs.Traffic.{came_after}
use Rattle.nm_base.specs.declared.record.Dir.TheVariants.{In}
use Rattle.std.specs.List.{slice_get}
use Rattle.nm_sim.proofs.Recordings.{records_passed}
use Rattle.nm_sim.proofs.records.Records.count_arrival.Goals as goal

pub returns-clause-represents : goal.returns-clause-represents
returns-clause-represents c = λ t trace time packet is h.
    records_passed t c.args.self.now c.pass_came.new.self trace (record { time = time; dir = In; iface = c.args.iface; packet = packet }) c.requires
    (ap (λ r. r.kept) c.pass_came.ensures.same) (ap (λ r. r.keeping) c.pass_came.ensures.same) c.pass_came.ensures.count
    (λ i. c.pass_came.ensures.traffic i ∙ ap (λ n. option_map (λ x. cond (i == c.args.iface) (came_after x n) x) (slice_get c.args.self.now.traffic i)) is) h
