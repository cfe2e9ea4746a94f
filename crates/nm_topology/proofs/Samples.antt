-- The addresses and lengths that texts write.
use Rattle.std.proofs.Common.{◌≡◌, ℕ, ◌<◌, ◌^◌, Some, codes, refl, sym, ap, ◌∙◌, arith}
use Rattle.std.specs.Fmt.{digits}
use Rattle.nm_packet.specs.Address.{address_text}
use Rattle.nm_packet.proofs.Texts.{IsIpv4Text-address_text, bits_from_text}
use Rattle.nm_topology.specs.Parse.Forms.{address_of, least_below, length_of}
use Rattle.nm_topology.proofs.Searches.{text-is}

-- two addresses with one text are one
one_address : (m n : ℕ) → m < 2 ^ 32 → n < 2 ^ 32 → address_text m ≡ address_text n → m ≡ n
one_address m n h k e =
    let spelled = IsIpv4Text-address_text (address_text m) m h refl in
    sym (bits_from_text (address_text m) _ m h refl spelled) ∙ bits_from_text (address_text m) _ n k e spelled

address_is : (a : ℕ) → a < 2 ^ 32 → address_of (address_text a) ≡ Some a
address_is a h = sym (text-is (2 ^ 32) address_text (address_text a) (Some a) (h, refl) (λ b k e. ap Some (one_address a b h k e)))

pub host : address_of (codes "10.0.0.1") ≡ Some 167_772_161
unfolding digits
host = address_is 167_772_161 (omega arith)

pub network : address_of (codes "10.0.0.0") ≡ Some 167_772_160
unfolding digits
network = address_is 167_772_160 (omega arith)

pub length_24 : length_of (codes "24") ≡ Some 24
unfolding digits least_below
length_24 = refl

pub length_32 : length_of (codes "32") ≡ Some 32
unfolding digits least_below
length_32 = refl

pub ruleset texts = (host, length_24, length_32)
