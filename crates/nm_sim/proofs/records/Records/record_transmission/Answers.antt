use Rattle.std.proofs.Common.{◌++◌, subst, ℕ, List, Option, Some, None}
use Rattle.nm_base.specs.declared.record.Record.{Record}
use Rattle.nm_model.specs.Run.{out_record}
use Rattle.nm_topology.specs.TopologyValue.{TopologyValue}
use Rattle.nm_sim.specs.Records.{RecordsRepresent, RecordsValue, SaysTransmission}
use Rattle.nm_sim.specs.declared.transmitted.Transmitted.{Transmitted}
use Rattle.nm_sim.proofs.Recordings.{nothing_more}
use Rattle.nm_sim.proofs.records.Records.record_transmission.Goals as goal

module _ (t : TopologyValue) (time : ℕ) (trace : List (Record (List ℕ))) (b : RecordsValue) where
  of_one : (x : Transmitted) → ((s : ℕ × List ℕ) → SaysTransmission (Some x) (Some s) → RecordsRepresent t b (trace ++ out_record time (Some s)))
      → (sent : Option (ℕ × List ℕ)) → SaysTransmission (Some x) sent → RecordsRepresent t b (trace ++ out_record time sent)
  of_one x h None says = absurd says
  of_one x h (Some s) says = h s says

  of_none : RecordsRepresent t b trace → (sent : Option (ℕ × List ℕ)) → SaysTransmission None sent → RecordsRepresent t b (trace ++ out_record time sent)
  of_none h None says = nothing_more t b trace h
  of_none h (Some s) says = absurd says

pub returns-in-Some-clause-represents : goal.returns-in-Some-clause-represents
returns-in-Some-clause-represents c = λ t trace sent says h.
    of_one t c.args.time trace c.record_start.new.self c.in-Some.started (λ s is. c.record_start.ensures.represents t trace s is h) sent
    (subst (λ o. SaysTransmission o sent) c.in-Some.is says)
