use Rattle.std.proofs.Common.{suc, map, sym, ap, subst}
use Rattle.nm_measure.specs.Interfaces.{IsNext}
use Rattle.nm_measure.specs.Starts.{AreStarts, start_of}
use Rattle.nm_measure.proofs.Flowing.{ok_of, on_ok}
use Rattle.nm_measure.proofs.Making.{made_at}
use Rattle.nm_measure.proofs.Starting.{starts_stay}
use Rattle.nm_measure.proofs.watched.Watched.see.Goals as goal

pub returns-in-Complete-clause-watches : goal.returns-in-Complete-clause-watches
returns-in-Complete-clause-watches c = on_ok c.see_completion.result _ _ (λ sees n p few made next was.
    sees n p (subst (λ q. IsNext c.args.topology.now n c.args.now q p c.args.happened.now) c.in-Complete.is next) was) c.see_completion.ensures.watches

pub returns-in-Arrive-clause-watches : goal.returns-in-Arrive-clause-watches
returns-in-Arrive-clause-watches c = on_ok c.see_arrival.result _ _ (λ sees n p few made next was.
    sees n p (subst (λ q. IsNext c.args.topology.now n c.args.now q p c.args.happened.now) c.in-Arrive.is next) was) c.see_arrival.ensures.watches

pub returns-in-Fire-clause-watches : goal.returns-in-Fire-clause-watches
returns-in-Fire-clause-watches c = on_ok c.see_source.result _ _ (λ sees n p few made next was.
    sees n p few made (subst (λ q. IsNext c.args.topology.now n c.args.now q p c.args.happened.now) c.in-Fire.is next) was) c.see_source.ensures.watches

pub returns-in-Complete-clause-starts : goal.returns-in-Complete-clause-starts
returns-in-Complete-clause-starts c = ok_of c.see_completion.result _ (λ first n p next starts.
    subst (λ f. AreStarts c.args.topology.now first (suc n) (map start_of f.times.items)) (sym c.see_completion.ensures.flows)
    (starts_stay c.args.topology.now first n (map start_of c.args.self.now.flows.times.items) starts next.event c.args.place.now next.first next.at_place
    (λ j. ap (made_at j) c.in-Complete.is)))

pub returns-in-Arrive-clause-starts : goal.returns-in-Arrive-clause-starts
returns-in-Arrive-clause-starts c = on_ok c.see_arrival.result _ _ (λ same first n p next starts.
    subst (AreStarts c.args.topology.now first (suc n)) (sym same)
    (starts_stay c.args.topology.now first n (map start_of c.args.self.now.flows.times.items) starts next.event c.args.place.now next.first next.at_place
    (λ j. ap (made_at j) c.in-Arrive.is))) c.see_arrival.ensures.starts

pub returns-in-Fire-clause-starts : goal.returns-in-Fire-clause-starts
returns-in-Fire-clause-starts c = on_ok c.see_source.result _ _ (λ sees first n p next starts.
    sees first n p (subst (λ q. IsNext c.args.topology.now n c.args.now q p c.args.happened.now) c.in-Fire.is next) starts) c.see_source.ensures.starts

pub returns-in-Complete-clause-followed : goal.returns-in-Complete-clause-followed
returns-in-Complete-clause-followed c = on_ok c.see_completion.result _ _ (λ goes n p j taken few made next was.
    goes n p j taken few made (subst (λ q. IsNext c.args.topology.now n c.args.now q p c.args.happened.now) c.in-Complete.is next) was) c.see_completion.ensures.followed

pub returns-in-Arrive-clause-followed : goal.returns-in-Arrive-clause-followed
returns-in-Arrive-clause-followed c = on_ok c.see_arrival.result _ _ (λ goes n p j taken few made next was.
    goes n p j taken few made (subst (λ q. IsNext c.args.topology.now n c.args.now q p c.args.happened.now) c.in-Arrive.is next) was) c.see_arrival.ensures.followed

pub returns-in-Fire-clause-followed : goal.returns-in-Fire-clause-followed
returns-in-Fire-clause-followed c = on_ok c.see_source.result _ _ (λ goes n p j taken few made next was.
    goes n p j taken few made (subst (λ q. IsNext c.args.topology.now n c.args.now q p c.args.happened.now) c.in-Fire.is next) was) c.see_source.ensures.followed
