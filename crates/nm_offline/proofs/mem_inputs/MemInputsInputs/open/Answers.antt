use Rattle.std.proofs.Common.{◌∙◌, option_map, ap, sym}
use Rattle.std.specs.Str.{bytes_eq}
use Rattle.std.proofs.lemmas.Option.{slice_get-get_or}
use Rattle.nm_offline.proofs.MemFiles.{none_there, one_there}
use Rattle.nm_offline.proofs.mem_inputs.MemInputsInputs.open.Goals as goal

pub bounds-self-number : goal.bounds-self-number
bounds-self-number g c = (one_there (λ f. bytes_eq f.0.now c.args.name.now) c.args.self.now.files.now c.in-Some.number (sym c.place_of.ensures ∙ c.in-Some.is)).0

pub returns-in-None-clause-missing : goal.returns-in-None-clause-missing
returns-in-None-clause-missing g c = λ kind. ap (option_map (λ f. f.1.now)) (none_there (λ f. bytes_eq f.0.now c.args.name.now) c.args.self.now.files.now (sym c.place_of.ensures ∙ c.in-None.is))

pub returns-in-Some-clause-there : goal.returns-in-Some-clause-there
returns-in-Some-clause-there g c =
    let files = c.args.self.now.files.now in
    let n = c.in-Some.number in
    let there = one_there (λ f. bytes_eq f.0.now c.args.name.now) files n (sym c.place_of.ensures ∙ c.in-Some.is) in
    sym (ap (option_map (λ f. f.1.now)) (there.1 ∙ slice_get-get_or files n _ there.0))
