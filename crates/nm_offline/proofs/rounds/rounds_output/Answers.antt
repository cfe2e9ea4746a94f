use Rattle.std.proofs.Common.{◌-◌, ◌≡◌, List, ℕ, Ok, inl, inr, refl, subst}
use Rattle.std.proofs.lemmas.Result.{IfOk-weaker}
use Rattle.std.specs.Arc.{arc_value}
use Rattle.nm_command.specs.declared.status.Status.TheVariants.{Done, Stalled}
use Rattle.nm_rounds.specs.Rounds.{AreDoneWithin, AreUnfinished, RunsTo, after_runs}
use Rattle.nm_rounds.specs.declared.rounds.Rounds.{Rounds}
use Rattle.nm_sim.specs.Network.{net_of}
use Rattle.nm_sim.specs.Trace.{IsTraceBefore}
use Rattle.nm_topology.specs.Topology.{topology_of}
use Rattle.nm_offline.specs.Rounds.{SaysRounds}
use Rattle.nm_offline.proofs.Endings.{text_is_said}
use Rattle.nm_offline.proofs.InterfaceLines.{are_theirs, of_partitions, says_done, says_unfinished}
use Rattle.nm_offline.proofs.rounds.rounds_output.Goals as goal

pub rounds_text-requires : goal.rounds_text-requires
rounds_text-requires c =
    let done : AreDoneWithin (arc_value c.args.topology.now) c.args.max c.in-Ok-Done.rounds c.in-Ok-Done.books.items =
    subst (λ (x : Rounds). RunsTo (arc_value c.args.topology.now) c.args.max x) c.in-Ok-Done.field-0-is c.in-Ok-Done.ensures
    in
    record {
      books = are_theirs (arc_value c.args.topology.now) c.deref-in-Ok-Done.result.now c.in-Ok-Done.books.items c.as_slice.result.now c.deref-in-Ok-Done.ensures c.as_slice.ensures.value
          (of_partitions (arc_value c.args.topology.now) (after_runs done.by_round (c.in-Ok-Done.rounds - 1)) c.in-Ok-Done.books.items done.stand);
    }

pub rounds_text-requires-in-Ok-Unfinished : goal.rounds_text-requires-in-Ok-Unfinished
rounds_text-requires-in-Ok-Unfinished c =
    let left : AreUnfinished (arc_value c.args.topology.now) c.args.max c.in-Ok-Unfinished.rounds c.in-Ok-Unfinished.books.items =
    subst (λ (x : Rounds). RunsTo (arc_value c.args.topology.now) c.args.max x) c.in-Ok-Unfinished.field-0-is c.in-Ok-Unfinished.ensures
    in
    record {
      books = are_theirs (arc_value c.args.topology.now) c.deref-in-Ok-Unfinished.result.now c.in-Ok-Unfinished.books.items c.as_slice-in-Ok-Unfinished.result.now
          c.deref-in-Ok-Unfinished.ensures c.as_slice-in-Ok-Unfinished.ensures.value
          (of_partitions (arc_value c.args.topology.now) (left.by_round c.args.max) c.in-Ok-Unfinished.books.items left.stand);
    }

pub returns-in-Ok-Done-clause-said : goal.returns-in-Ok-Done-clause-said
returns-in-Ok-Done-clause-said c =
    let t = arc_value c.args.topology.now in
    let there = c.every_topology_has_a_trace.ensures.there t.stop in
    let done : AreDoneWithin (arc_value c.args.topology.now) c.args.max c.in-Ok-Done.rounds c.in-Ok-Done.books.items =
    subst (λ (x : Rounds). RunsTo (arc_value c.args.topology.now) c.args.max x) c.in-Ok-Done.field-0-is c.in-Ok-Done.ensures
    in
    text_is_said (λ o. o.text) (λ o. o.status) (λ status said. (text : List ℕ) → topology_of text ≡ Ok t → SaysRounds c.args.max text status said.items) Done c.rounds_text.result c.of.result
    (IfOk-weaker c.rounds_text.result _ _ (λ v said text read. inl (
      refl,
      says_done t c.deref-in-Ok-Done.result.now c.args.max c.in-Ok-Done.rounds c.in-Ok-Done.books.items c.as_slice.result.now there.0 text v.items
          c.deref-in-Ok-Done.ensures c.as_slice.ensures.value (c.interfaces_have_their_records.ensures (net_of t)) done
          (subst (λ z. IsTraceBefore z t.stop there.0) c.deref.ensures there.1) read said,
    )) c.rounds_text.ensures)
    c.of.ensures.made

pub returns-in-Ok-Unfinished-clause-said : goal.returns-in-Ok-Unfinished-clause-said
returns-in-Ok-Unfinished-clause-said c =
    let t = arc_value c.args.topology.now in
    let left : AreUnfinished (arc_value c.args.topology.now) c.args.max c.in-Ok-Unfinished.rounds c.in-Ok-Unfinished.books.items =
    subst (λ (x : Rounds). RunsTo (arc_value c.args.topology.now) c.args.max x) c.in-Ok-Unfinished.field-0-is c.in-Ok-Unfinished.ensures
    in
    text_is_said (λ o. o.text) (λ o. o.status) (λ status said. (text : List ℕ) → topology_of text ≡ Ok t → SaysRounds c.args.max text status said.items) Stalled
    c.rounds_text-in-Ok-Unfinished.result c.of-in-Ok-Unfinished.result
    (IfOk-weaker c.rounds_text-in-Ok-Unfinished.result _ _ (λ v said text read. inr (
      refl,
      says_unfinished t c.deref-in-Ok-Unfinished.result.now c.args.max c.in-Ok-Unfinished.rounds c.in-Ok-Unfinished.books.items c.as_slice-in-Ok-Unfinished.result.now text v.items
          c.deref-in-Ok-Unfinished.ensures c.as_slice-in-Ok-Unfinished.ensures.value left read said,
    )) c.rounds_text-in-Ok-Unfinished.ensures)
    c.of-in-Ok-Unfinished.ensures.made
