-- What a read up to a limit says of the whole text.
use Rattle.std.proofs.Common.{◌≡◌, ℕ, ◌+◌, ◌≤◌, List, [], ◌++◌, length, take, min, Option, Some, None, IfSome, option_map, ap, ◌∙◌, arith}
use Rattle.std.proofs.lemmas.List.{length-take, take_all}

-- what was read up to one octet past a limit is all, if it is within the limit
pub whole_text : (o : Option (List ℕ)) (n most : ℕ) (items fresh : List ℕ) → n ≡ most + 1 → fresh ≡ []
    → IfSome (option_map (take n) o) (λ xs. items ≡ fresh ++ xs) → length items ≤ most → IfSome o (λ text. items ≡ text)
whole_text None n most items fresh limit empty given short = tt
whole_text (Some text) n most items fresh limit empty given short =
    let same : items ≡ take n text = given ∙ ap (λ f. f ++ take n text) empty in
    let count : length items ≡ min n (length text) = ap length same ∙ length-take n text in
    same ∙ take_all n text (omega (arith, count, limit, short))
