-- How octets are written in a form: piece by piece.
use Rattle.std.proofs.Common.{◌≡◌, ℕ, ◌/◌, ◌%◌, List, [], ◌∷◌, ◌++◌, refl, ap, slice_index}
use Rattle.hex.specs.Hex.{encode_with, encode_lower, lower_digits}
use Rattle.nm_pcap.specs.declared.form.Form.{Form}
use Rattle.nm_pcap.specs.declared.form.Form.TheVariants.{Octets, Hexadecimal}
use Rattle.nm_pcap.specs.Writing.{written}

-- the digits of two pieces
pub encode_with-append : (t a b : List ℕ) → encode_with t (a ++ b) ≡ encode_with t a ++ encode_with t b
unfolding encode_with
encode_with-append t [] b = refl
encode_with-append t (x ∷ a) b = ap (λ l. slice_index t (x / 16) ∷ slice_index t (x % 16) ∷ l) (encode_with-append t a b)

pub encode-append : (a b : List ℕ) → encode_lower (a ++ b) ≡ encode_lower a ++ encode_lower b
encode-append a b = encode_with-append lower_digits a b

pub encode-nil : encode_lower [] ≡ []
unfolding encode_with
encode-nil = refl

pub written-append : (form : Form) (a b : List ℕ) → written form (a ++ b) ≡ written form a ++ written form b
written-append Octets a b = refl
written-append Hexadecimal a b = encode-append a b

pub written-nil : (form : Form) → written form [] ≡ []
written-nil Octets = refl
written-nil Hexadecimal = encode-nil
