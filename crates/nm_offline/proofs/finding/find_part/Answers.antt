use Rattle.std.proofs.Common.{◌<◌, ◌≤◌, IfSome, inr, length, map, string_bytes, refl, sym, subst, arith, rules}
use Rattle.std.specs.Io.Buffered.{reader_remaining}
use Rattle.std.proofs.lemmas.List.{length-map}
use Rattle.nm_offline.specs.Finding.{IsLeastIn, IsNotFound}
use Rattle.nm_offline.specs.Input.{inputs_seen}
use Rattle.nm_offline.proofs.Certifying.{first_found, name_at, none_has, not_there, one_has_none}
use Rattle.nm_offline.proofs.finding.find_part.Goals as goal

pub loop-number-preserved : goal.loop-number-preserved
loop-number-preserved g c =
    let n = c.loop-number.number in
    let folders = c.args.folders.now in
    let low : n < length folders = search rules in
    record {
      none = one_has_none (inputs_seen g.I.Inputs.seen c.args.inputs.now) (map (λ f. string_bytes f) folders) n c.args.partition c.as_str.result.now c.loop-number.invariant.none
          (name_at (λ f. string_bytes f) folders n c.index-folders-number.result c.as_str.result.now low c.index-folders-number.is c.as_str.ensures.value)
          (c.in-Ok-None.ensures.none c.in-Ok-None.field-0-is);
    }

pub returns-in-Ok-Some-clause-found : goal.returns-in-Ok-Some-clause-found
returns-in-Ok-Some-clause-found g c =
    let n = c.loop-number.number in
    let folders = c.args.folders.now in
    let low : n < length folders = search rules in
    let left = reader_remaining g.I.File.Read.remaining in
    let inputs = inputs_seen g.I.Inputs.seen c.args.inputs.now in
    let own = c.as_str.result.now in
    first_found left inputs (map (λ f. string_bytes f) folders) n c.args.partition own c.in-Ok-Some.found c.loop-number.invariant.none
    (name_at (λ f. string_bytes f) folders n c.index-folders-number.result own low c.index-folders-number.is c.as_str.ensures.value)
    (subst (λ o. IfSome o (IsLeastIn left inputs own c.args.partition)) c.in-Ok-Some.field-0-is c.in-Ok-Some.ensures.found)

pub returns-in-Err-clause-none : goal.returns-in-Err-clause-none
returns-in-Err-clause-none g c =
    let inputs = inputs_seen g.I.Inputs.seen c.args.inputs.now in
    let names = map (λ f. string_bytes f) c.args.folders.now in
    subst (IsNotFound inputs names c.args.partition) (sym c.unread.ensures) (not_there inputs names c.args.partition c.read_fault.result)

pub returns-clause-none : goal.returns-clause-none
returns-clause-none g c =
    let n = c.loop-number.number in
    let folders = c.args.folders.now in
    let over : length folders ≤ n = search rules in
    let long = length-map folders (λ f. string_bytes f) in
    inr (inr (refl, none_has (inputs_seen g.I.Inputs.seen c.args.inputs.now) (map (λ f. string_bytes f) folders) n c.args.partition (omega (arith, over, long)) c.loop-number.invariant.none))
