-- A text writes one address at most.
use Rattle.std.proofs.Common.{◌≡◌, ℕ, ◌/◌, ◌%◌, ◌^◌, ◌<◌, List, [], refl, ap, ◌∙◌, arith}
use Rattle.std.specs.declared.net.ipv4_addr.Ipv4Addr.{Ipv4Addr}
use Rattle.std.specs.Net.Addr.{ipv4_octets}
use Rattle.std.specs.Net.Grammar.{IsIpv4Text}
use Rattle.std.proofs.NetLemmas.Theorems.{IsIpv4Text_unique}
use Rattle.nm_packet.specs.Address.{address_text}
use Rattle.nm_packet.specs.Octets.{long_word, long_word_at}
use Rattle.nm_packet.proofs.Numbers.{long_word_at-long_word}

abbrev ip_of : ℕ → Ipv4Addr
ip_of n = record { octets = long_word n }

pub IsIpv4Text-address_text : (text : List ℕ) (n : ℕ) → n < 2 ^ 32 → text ≡ address_text n → IsIpv4Text text (ip_of n)
IsIpv4Text-address_text text n h e = record {
  a = n / 16777216;
  b = n / 65536 % 256;
  c = n / 256 % 256;
  d = n % 256;
  fit = (omega arith, omega arith, omega arith, omega arith);
  value = refl;
  spelled = e;
}

-- the address that std reads is the one that the text writes
pub bits_from_text : (text : List ℕ) (ip : Ipv4Addr) (n : ℕ) → n < 2 ^ 32 → text ≡ address_text n → IsIpv4Text text ip → long_word_at (ipv4_octets ip) 0 ≡ n
bits_from_text text ip n h e spelled =
    let same : ip ≡ ip_of n = IsIpv4Text_unique text ip (ip_of n) spelled (IsIpv4Text-address_text text n h e) in
    ap (λ (a : Ipv4Addr). long_word_at (ipv4_octets a) 0) same ∙ long_word_at-long_word n []
