use Rattle.std.proofs.Common.{◌∷◌, [], ◌++◌, ◌∙◌}
use Rattle.std.proofs.Math.Logic.{∥∥₁_map}
use Rattle.nm_measure.proofs.Added.{added, held, recent_added, seen_added, unchanged}
use Rattle.nm_measure.proofs.delays.Delays.add.Goals as goal

pub invariant_of-self : goal.invariant_of-self
invariant_of-self c = record {
  added = ∥∥₁_map c.args.self.now.added (λ (ds, h). (
    ds,
    unchanged ds c.args.self.now.spread c.add.new.self c.args.self.now.sums
        c.in_err-add.ensures.rows_stay c.in_err-add.ensures.count_stays c.in_err-add.ensures.kind_stays h,
  ));
}

pub invariant_of-self-2 : goal.invariant_of-self-2
invariant_of-self-2 c = record {
  added = ∥∥₁_map c.args.self.now.added (λ (ds, h). (
    ds ++ c.args.delay ∷ [],
    added ds c.args.self.now.spread c.add.new.self c.round_many.new.self
        c.args.self.now.sums c.add-2.new.self c.count-before.result c.args.delay c.count-before.ensures c.in_ok-add.ensures.count c.in_ok-add.ensures.added
        c.round_many.ensures.count c.round_many.ensures.same c.add-2.ensures.added h,
  ));
}

pub returns-clause-added : goal.returns-clause-added
returns-clause-added c = held c.round_many.result (λ ds h. record {
  added = added ds c.args.self.now.spread c.add.new.self c.round_many.new.self
      c.args.self.now.sums c.add-2.new.self c.count-before.result c.args.delay c.count-before.ensures c.in_ok-add.ensures.count c.in_ok-add.ensures.added
      c.round_many.ensures.count c.round_many.ensures.same c.add-2.ensures.added h.added;
  seen = seen_added c.args.self.now.seen ds c.args.delay h.seen;
  recent = λ few. c.max-self.ensures ∙ recent_added c.args.self.now.seen ds c.args.self.now.recent c.args.delay h.seen h.recent few;
})
