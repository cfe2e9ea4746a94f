-- How octets are written in a form.
use Rattle.std.specs.Prelude.{ℕ, List, [], ◌∷◌}
use Rattle.hex.specs.Hex.{encode_lower}
use Rattle.nm_pcap.specs.declared.form.Form.{Form}
use Rattle.nm_pcap.specs.declared.form.Form.TheVariants.{Octets, Hexadecimal}

-- octets as they are, or as lower-case hexadecimal
abbrev pub written : Form → List ℕ → List ℕ
written Octets octets = octets
written Hexadecimal octets = encode_lower octets

-- what follows the last octet
abbrev pub ending : Form → List ℕ
ending Octets = []
ending Hexadecimal = 10 ∷ []
