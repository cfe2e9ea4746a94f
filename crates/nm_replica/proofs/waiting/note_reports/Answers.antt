use Rattle.std.proofs.Common.{◌≡◌, ℕ, rules, Option, Some, sym, ◌∙◌, subst, below_more, ⊎_elim, true≢false}
use Rattle.std.specs.Prelude.{IsSome}
use Rattle.std.proofs.lemmas.Bool.{cases_lt}
use Rattle.std.proofs.lemmas.Option.{same_Some}
use Rattle.nm_replica.proofs.Readiness.{IsReadyAt, now_looked, still_looked, unreported_fewer, unreported_more}
use Rattle.nm_transport.specs.declared.limits.TheConstants.{MAX_REPORTS}
use Rattle.nm_replica.proofs.waiting.note_reports.Goals as goal

pub loop-number-preserved : goal.loop-number-preserved
loop-number-preserved g c =
    let n = c.loop-number.number in
    let old = c.loop-number.connections.«open» in
    let new = c.note.new.self.«open» in
    let key = c.in-Some.report.key in
    record {
      contacts = c.note.ensures.contacts ∙ c.loop-number.invariant.contacts;
      ready = λ k other low is.
          below_more (λ k. (other : ℕ) → g.T.Transport.reported c.args.transport.now k ≡ Some other → IsReadyAt new other) n
          (λ j l other is. still_looked old new key c.note.ensures.«open» other (c.loop-number.invariant.ready j other l is))
          (λ other is. subst (IsReadyAt new) (same_Some key other (c.in-Some.ensures.key ∙ is)) (now_looked old new key c.note.ensures.«open»))
          k low other is;
      others = unreported_more (g.T.Transport.reported c.args.transport.now) n key c.args.connections.now.«open» old new _ c.loop-number.invariant.others c.in-Some.ensures.key c.note.ensures.«open»;
    }

pub returns-in_default-clause-others : goal.returns-in_default-clause-others
returns-in_default-clause-others g c = λ _. unreported_fewer (g.T.Transport.reported c.args.transport.now) c.loop-number.number MAX_REPORTS c.args.connections.now.«open» c.loop-number.connections.«open» (search rules) c.loop-number.invariant.others

pub returns-in_default-clause-reported : goal.returns-in_default-clause-reported
returns-in_default-clause-reported g c = λ _ k key low all is.
    ⊎_elim (λ before. c.loop-number.invariant.ready k key before is)
    (λ behind. absurd (let none : IsSome (g.T.Transport.reported c.args.transport.now c.loop-number.number) = all c.loop-number.number behind in
    true≢false (sym (subst (λ (o : Option ℕ). IsSome o) (sym c.in_default.ensures.key) none))))
    (cases_lt k c.loop-number.number)
