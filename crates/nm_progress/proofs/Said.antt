-- Pieces of a line, one behind the other.
use Rattle.std.proofs.Common.{◌≡◌, Result, Ok, Err, OnOk, is_ok, if◌then◌else◌, List, ◌++◌, ◌∙◌, ap}
use Rattle.std.proofs.lemmas.List.{append_assoc}

pub three_pieces : {T E X : Type 0} (r : Result T E) (old one two three less a b c : List X) → one ≡ old ++ a → two ≡ one ++ b
    → three ≡ (if is_ok r then two ++ c else less) → OnOk r (three ≡ old ++ (a ++ b ++ c))
three_pieces (Ok x) old one two three less a b c f g h =
    h ∙ ap (λ z. z ++ c) g ∙ ap (λ z. z ++ b ++ c) f ∙ ap (λ z. z ++ c) (append_assoc old a b) ∙ append_assoc old (a ++ b) c
three_pieces (Err e) old one two three less a b c f g h = tt
