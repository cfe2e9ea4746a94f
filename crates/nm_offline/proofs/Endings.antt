-- How a word ends.
use Rattle.std.proofs.Common.{◌≡◌, ℕ, List, Option, Result, Ok, Err, IfOk, IfErr, inl, inr, ap, sym, subst, refl}
use Rattle.std.proofs.lemmas.Result.{IfOk-at_ok}
use Rattle.nm_base.specs.Sink.{SinkSeen}
use Rattle.nm_command.specs.declared.status.Status.{Status}
use Rattle.nm_base.specs.declared.fault.Fault.TheVariants.{Refused, Memory}
use Rattle.nm_offline.specs.Input.{InputsSeen, IsInput}
use Rattle.nm_offline.specs.Output.{EndsWord, IsPut, output_seen}
use Rattle.nm_offline.specs.Traces.{EndsTrace, IsAnswer, TraceAsked, outcome_status}
use Rattle.nm_files.specs.Writing.{TraceFault, Writes}

-- what is said was written, or was not, or nothing is said
module _ {S : Type 0} (seen : S → SinkSeen) (before after : InputsSeen) (old new : S) {V : Type 0} (text : V → List ℕ) (asked : V → Status) where
  pub ends_word : (Says : Status → List ℕ → Type 0) (Fails : Status → Type 0) (said : Result V Status) (status : Status)
      → IfOk said (λ v. Says (asked v) (text v)) → IfErr said Fails
      → IfOk said (λ v. IsPut (output_seen seen old) (output_seen seen new) (text v) (asked v) status) → IfErr said (λ s. (status ≡ s) × (new ≡ old))
      → EndsWord (record { inputs = before; output = output_seen seen old }) (record { inputs = after; output = output_seen seen new }) Says Fails status
  ends_word Says Fails (Ok v) status says fails (inl (same, w)) unsaid = inl (text v, subst (λ s. Says s (text v)) (sym same) says, w)
  ends_word Says Fails (Ok v) status says fails (inr (file, w)) unsaid = inr (inl (file, (asked v, text v, says, w)))
  ends_word Says Fails (Err s) status says fails put (same, kept) = inr (inr (subst Fails (sym same) fails, ap (output_seen seen) kept))

-- what holds of a text that was made holds of what is said
pub text_is_said : {V T E F : Type 0} (text : V → T) (asked : V → Status) (P : Status → T → Type 0) (status : Status) (made : Result T E) (said : Result V F)
    → IfOk made (P status) → IfOk said (λ v. (asked v ≡ status) × (made ≡ Ok (text v))) → IfOk said (λ v. P (asked v) (text v))
text_is_said text asked P status made (Ok v) holds (is, had) = subst (λ s. P s (text v)) (sym is) (IfOk-at_ok (P status) had holds)
text_is_said text asked P status made (Err e) holds had = tt

-- an answer that is written as it is made
module _ {S : Type 0} (seen : S → SinkSeen) (before after : InputsSeen) (old new : S) where
  pub ends_written : (asked : TraceAsked) (text octets : List ℕ) (outcome : Result Unit TraceFault)
      → IsInput (before.text asked.topology) text → IsAnswer asked.form asked.ways asked.iface text octets → Writes (seen old) (seen new) outcome octets
      → EndsTrace (record { inputs = before; output = output_seen seen old }) (record { inputs = after; output = output_seen seen new }) asked (outcome_status outcome)
  ends_written asked text octets (Ok _) input answer w = inl (inl (octets, (text, input, (refl, answer)), w))
  ends_written asked text octets (Err (Refused _)) input answer w = inl (inr (inl (refl, (_, octets, (text, input, (refl, answer)), w))))
  ends_written asked text octets (Err Memory) input answer w = inr (refl, (octets, (text, input, (refl, answer)), w))
