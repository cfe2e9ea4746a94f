use Rattle.std.proofs.Common.{ℕ, ◌++◌, ◌∷◌, [], sym, subst}
use Rattle.nm_measure.specs.Lanes.{AreWatched, own_in}
use Rattle.nm_measure.proofs.Flowing.{flows_lost, ok_of}
use Rattle.nm_measure.proofs.Laning.{in_hand, out_of_hand}
use Rattle.nm_measure.proofs.watched.Watched.see_loss.Goals as goal

pub returns-clause-watches : goal.returns-clause-watches
returns-clause-watches c =
    let w = c.args.self.now in
    let after = c.end.new.self in
    ok_of c.end-2.result _ (λ count all ends e same is quiet was.
    let h = in_hand count all c.args.tag.now ends w.lanes.items w.flows.counts.items w.flows.times.items was in
    let under : ℕ → ℕ = λ j. own_in j w.lanes.items in
    let lost = flows_lost ends e c.args.tag.now same quiet under w.flows.counts.items after.counts.items w.flows.times.items c.args.end.outcome is c.requires.lost h
    (c.end.ensures.outcomes ends under e same is h.outcomes) c.end.ensures.count c.end.ensures.astray in
    let done = out_of_hand count all (c.args.tag.now ∷ []) ends (ends ++ e ∷ []) w.lanes.items w.flows.counts.items after.counts.items w.flows.times.items w.flows.times.items was lost in
    let kept = subst (λ v. AreWatched count all [] (ends ++ e ∷ []) w.lanes.items after.counts.items v.items) (sym c.end.ensures.times) done in
    subst (λ v. AreWatched count all [] (ends ++ e ∷ []) v.items c.end-2.new.self.flows.counts.items c.end-2.new.self.flows.times.items) (sym c.end-2.ensures.lanes)
    (subst (λ f. AreWatched count all [] (ends ++ e ∷ []) w.lanes.items f.counts.items f.times.items) (sym c.end-2.ensures.flows) kept))
