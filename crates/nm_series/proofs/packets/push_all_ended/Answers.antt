use Rattle.std.proofs.Common.{◌∙◌, subst}
use Rattle.nm_measure.specs.Followed.{TakesEnded}
use Rattle.nm_series.proofs.PacketRows.{row_taken, rows_all}
use Rattle.nm_series.proofs.packets.push_all_ended.Goals as goal

pub returns-in_default-clause-rows : goal.returns-in_default-clause-rows
returns-in_default-clause-rows c = λ j n initial has.
    rows_all c.args.topology.now j n initial c.loop.text.items c.loop.measured.courses c.take_ended.new.self.courses
    (subst (λ o. TakesEnded o c.loop.measured.courses c.take_ended.new.self.courses) c.in_default.is c.take_ended.ensures.first) (c.loop.invariant.rows j n initial has)

pub loop-preserved : goal.loop-preserved
loop-preserved c = record {
  rows = λ j n initial has.
      row_taken c.args.topology.now j n initial c.loop.text.items c.push_ended.new.text.items c.in-Some.ended c.loop.measured.courses c.take_ended.new.self.courses
      c.in-Some.ensures.first (c.loop.invariant.rows j n initial has) c.in_ok-push_ended.ensures;
  part = c.take_ended.ensures.part ∙ c.loop.invariant.part;
  before = λ until was. c.take_ended.ensures.before c.args.topology.now until (c.loop.invariant.before until was);
}
