use Rattle.std.proofs.Common.{◌≡◌, ℕ, ◌+◌, ◌++◌, ◌∷◌, [], None, Some, append-nil, sym, ap, ◌∙◌, subst}
use Rattle.nm_measure.specs.declared.flow_counts.PacketOutcome.{PacketOutcome}
use Rattle.nm_measure.specs.declared.flow_counts.PacketOutcome.TheVariants.{Delivered}
use Rattle.nm_forward.specs.declared.counter.Counter.TheVariants.{Icmp}
use Rattle.nm_measure.specs.declared.courses.Reason.TheVariants.{Counted}
use Rattle.nm_measure.specs.Counted.{AreFlows, FitsReason}
use Rattle.nm_measure.specs.Lanes.{AreWatched, left_in_hand, one_of, own_in}
use Rattle.nm_measure.specs.Ways.{ended_as, outcome_by}
use Rattle.nm_measure.proofs.Flowing.{flows_lost, on_ok, quiet_end}
use Rattle.nm_measure.proofs.Laning.{ended_with, in_hand}
use Rattle.nm_measure.proofs.watched.Watched.see_end.Goals as goal

pub returns-in-Told-clause-watches : goal.returns-in-Told-clause-watches
returns-in-Told-clause-watches c =
    let w = c.args.self.now in
    let noted = c.end.new.self in
    let tag = c.args.tag.now in
    let new = c.tell.new.self in
    let is : outcome_by c.args.fate ≡ Some Delivered = ap outcome_by c.in-Told.is in
    let reason : c.args.reason ≡ Counted Icmp = subst (λ f. FitsReason f c.args.reason) c.in-Told.is c.requires.fits in
    on_ok c.tell.result _ _ (λ tells count all ends end ended was.
    let under : ℕ → ℕ = λ j. own_in j w.lanes.items in
    let z = ended Delivered in
    let flows = subst (λ f. AreFlows ends (λ j. one_of j tag + under j) f.counts.items f.times.items) (sym c.end.ensures.flows) (in_hand count all tag ends w.lanes.items w.flows.counts.items w.flows.times.items was) in
    subst (λ v. AreWatched count all (left_in_hand (outcome_by c.args.fate) tag) (ends ++ ended_as end (outcome_by c.args.fate)) v.items new.counts.items new.times.items) (sym c.end.ensures.lanes)
    (ended_with count all tag ends end (outcome_by c.args.fate) Delivered is w.lanes.items w.flows.counts.items new.counts.items w.flows.times.items new.times.items was
    (tells ends under (end Delivered) z.0 z.1 z.2 z.3 (z.4 ∙ reason) z.5 flows))) c.tell.ensures.flows

pub returns-in-Delivered-clause-watches : goal.returns-in-Delivered-clause-watches
returns-in-Delivered-clause-watches c =
    let w = c.args.self.now in
    let tag = c.args.tag.now in
    let new = c.deliver.new.self in
    let is : outcome_by c.args.fate ≡ Some Delivered = sym c.outcome_of.ensures ∙ c.in-Some.is ∙ ap Some c.in-Delivered.is in
    on_ok c.deliver.result _ _ (λ delivers count all ends end ended was.
    let under : ℕ → ℕ = λ j. own_in j w.lanes.items in
    let z = ended Delivered in
    let flows = subst (λ f. AreFlows ends (λ j. one_of j tag + under j) f.counts.items f.times.items) (sym c.end.ensures.flows) (in_hand count all tag ends w.lanes.items w.flows.counts.items w.flows.times.items was) in
    subst (λ v. AreWatched count all (left_in_hand (outcome_by c.args.fate) tag) (ends ++ ended_as end (outcome_by c.args.fate)) v.items new.counts.items new.times.items) (sym c.end.ensures.lanes)
    (ended_with count all tag ends end (outcome_by c.args.fate) Delivered is w.lanes.items w.flows.counts.items new.counts.items w.flows.times.items new.times.items was
    (delivers ends under (end Delivered) z.0 z.1 z.2 z.3 (quiet_end (end Delivered) c.args.fate c.args.reason z.4 c.requires.fits c.in_default-fate.not-Told) flows))) c.deliver.ensures.flows

pub returns-clause-watches : goal.returns-clause-watches
returns-clause-watches c =
    let w = c.args.self.now in
    let tag = c.args.tag.now in
    let new = c.end-2.new.self in
    let o : PacketOutcome = c.in-Some.outcome in
    let is : outcome_by c.args.fate ≡ Some o = sym c.outcome_of.ensures ∙ c.in-Some.is in
    λ count all ends end ended was.
    let under : ℕ → ℕ = λ j. own_in j w.lanes.items in
    let z = ended o in
    let flows = subst (λ f. AreFlows ends (λ j. one_of j tag + under j) f.counts.items f.times.items) (sym c.end.ensures.flows) (in_hand count all tag ends w.lanes.items w.flows.counts.items w.flows.times.items was) in
    let lost = flows_lost ends (end o) tag z.0 (quiet_end (end o) c.args.fate c.args.reason z.4 c.requires.fits c.in_default-fate.not-Told) under c.end.new.self.flows.counts.items new.counts.items c.end.new.self.flows.times.items o z.1 c.in_default-outcome.not-Delivered flows
    (c.end-2.ensures.outcomes ends under (end o) z.0 z.1 flows.outcomes) c.end-2.ensures.count c.end-2.ensures.astray in
    subst (λ v. AreWatched count all (left_in_hand (outcome_by c.args.fate) tag) (ends ++ ended_as end (outcome_by c.args.fate)) v.items new.counts.items new.times.items) (sym c.end.ensures.lanes)
    (ended_with count all tag ends end (outcome_by c.args.fate) o is w.lanes.items w.flows.counts.items new.counts.items w.flows.times.items new.times.items was
    (subst (λ v. AreFlows (ends ++ end o ∷ []) under new.counts.items v.items) (sym c.end-2.ensures.times) lost))

pub returns-in_default-clause-watches : goal.returns-in_default-clause-watches
returns-in_default-clause-watches c =
    let w = c.args.self.now in
    let none : outcome_by c.args.fate ≡ None = sym c.outcome_of.ensures ∙ c.in_default.is in
    λ count all ends end ended was.
    subst (λ o. AreWatched count all (left_in_hand o c.args.tag.now) (ends ++ ended_as end o) w.lanes.items w.flows.counts.items w.flows.times.items) (sym none)
    (subst (λ l. AreWatched count all (c.args.tag.now ∷ []) l w.lanes.items w.flows.counts.items w.flows.times.items) (sym (append-nil ends)) was)
