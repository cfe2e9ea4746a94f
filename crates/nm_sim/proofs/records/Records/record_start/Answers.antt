use Rattle.std.proofs.Common.{◌≡◌, ◌==◌, ◌++◌, ◌∷◌, [], ℕ, List, Option, Some, None, cond, refl, sym, ap, ◌∙◌, subst, option_map, slice_get}
use Rattle.std.specs.Option.{IfSome, IsSome}
use Rattle.nm_base.specs.declared.record.Dir.TheVariants.{Out}
use Rattle.nm_base.specs.declared.record.Record.{Record}
use Rattle.nm_sim.specs.Records.{RecordsRepresent}
use Rattle.nm_sim.specs.Traffic.{went_after}
use Rattle.nm_sim.proofs.Recordings.{records_more, records_passed}
use Rattle.nm_sim.proofs.records.Records.record_start.Goals as goal

abbrev out : ℕ → ℕ → List ℕ → Record (List ℕ)
out time iface packet = record { time = time; dir = Out; iface = iface; packet = packet }

no_copy : (o : Option (List ℕ)) → IsSome o → ((x : List ℕ) → o ≡ Some x → ⊥) → ⊥
no_copy None is none = absurd cc
no_copy (Some x) is none = none x refl

pub returns-then-not-wants-clause-represents : goal.returns-then-not-wants-clause-represents
returns-then-not-wants-clause-represents c = λ t trace sent says h.
    subst (λ i. RecordsRepresent t c.pass_went.new.self (trace ++ out c.args.time i sent.1 ∷ [])) says.0
    (records_passed t c.args.self.now c.pass_went.new.self trace (out c.args.time c.args.started.iface sent.1) (sym c.wants.ensures ∙ c.if-not-wants.true)
    (ap (λ r. r.kept) c.pass_went.ensures.same) (ap (λ r. r.keeping) c.pass_went.ensures.same) c.pass_went.ensures.count
    (λ i. c.pass_went.ensures.traffic i ∙ ap (λ n. option_map (λ x. cond (i == c.args.started.iface) (went_after x n) x) (slice_get c.args.self.now.traffic i)) says.1) h)

pub returns-in-Some-clause-represents : goal.returns-in-Some-clause-represents
returns-in-Some-clause-represents c = λ t trace sent says h.
    let same : c.in-Some.packet ≡ sent.1 = subst (λ o. IfSome o (λ other. other ≡ sent.1)) c.in-Some.is says.2 in
    subst (λ (a : ℕ × List ℕ). RecordsRepresent t c.add.new.self (trace ++ out c.args.time a.0 a.1 ∷ [])) (λ k. (says.0 k, same k))
    (records_more t c.args.self.now c.add.new.self trace (out c.args.time c.args.started.iface c.in-Some.packet) (sym c.wants.ensures ∙ c.if-not-wants.false)
    c.add.ensures.kept c.add.ensures.keeping c.add.ensures.count c.add.ensures.traffic h)

pub returns-in_default-clause-represents : goal.returns-in_default-clause-represents
returns-in_default-clause-represents c = λ t trace sent says h.
    absurd (no_copy c.args.started.copy (c.requires.copied (sym c.wants.ensures ∙ c.if-not-wants.false)) c.in_default.not-Some)
