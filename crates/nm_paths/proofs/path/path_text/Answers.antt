use Rattle.std.proofs.Common.{[], ◌∷◌, ◌++◌, string_bytes, sym, ◌∙◌, ap, append_assoc}
use Rattle.nm_paths.proofs.path.path_text.Goals as goal

pub returns : goal.returns
returns c =
    let hops = string_bytes c.push_hops.new.text in
    let ending = string_bytes c.in_ok-ending.ending in
    (hops ++ ending, ap (λ v. v.items) c.into_bytes.ensures.value ∙ c.in_ok-writeln.ensures.bytes ∙ sym (append_assoc hops ending (10 ∷ [])))
