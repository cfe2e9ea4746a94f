-- A network of two hosts in two partitions, whose first host sends one packet; and knowledge of
-- a channel with two messages.
use Rattle.std.specs.Prelude.{ℕ, zero, suc, Bool, ◌==◌, ltb, length, List, [], ◌∷◌, Option, Some, None}
use Rattle.nm_base.specs.declared.event.Origin.{Origin}
use Rattle.nm_base.specs.declared.event.Origin.TheVariants.{Arrival, Source}
use Rattle.nm_base.specs.declared.record.Dir.TheVariants.{In, Out}
use Rattle.nm_base.specs.declared.record.Record.{Record}
use Rattle.nm_model.specs.Network.{Net}
use Rattle.nm_model.specs.Knowledge.{Know}

-- interface 0 is linked to interface 1
abbrev pub far_end : ℕ → ℕ
far_end zero = 1
far_end (suc zero) = 0
far_end (suc (suc i)) = suc (suc i)

-- packet 7 at time 0
abbrev pub one_packet : ℕ → Option (ℕ × ℕ)
one_packet zero = Some (0, 7)
one_packet (suc n) = None

abbrev pub one_source : ℕ → ℕ → Option (ℕ × ℕ)
one_source zero n = one_packet n
one_source (suc j) n = None

-- a host sends what its source makes, and takes what arrives
abbrev pub sends_own : ℕ → Origin → ℕ → Option (ℕ × ℕ)
sends_own v (Arrival i) x = None
sends_own v (Source j) x = Some (v, x)

-- node v has interface v and is partition v; a host counts its packets
abbrev pub two_hosts : Net ℕ ℕ
two_hosts = record {
  stop = 100;
  ifaces = 2;
  parts = 2;
  sources = 1;
  owner = λ i. i;
  far_end = far_end;
  delay = λ i. 10;
  tx = λ i x. 5;
  least_tx = λ i. 2;
  room = λ i waiting x. ltb (length waiting) 4;
  part = λ v. v;
  first = λ v. 0;
  react = λ v n o x. (suc n, sends_own v o x);
  source_node = λ j. 0;
  source = one_source;
}

abbrev pub its_records : List (Record ℕ)
its_records = record {
  time = 0;
  iface = 0;
  dir = Out;
  packet = 7;
} ∷ record { time = 15; iface = 1; dir = In; packet = 7 } ∷ []

-- packets are numbers
abbrev pub same_number : ℕ → ℕ → Bool
same_number x y = x == y

abbrev pub knows : List (ℕ × ℕ) → ℕ → Know ℕ
knows l t = record { list = l; clock = t }

-- messages at 10 and 20, and clock 20
abbrev pub two_messages : Know ℕ
two_messages = knows ((10, 1) ∷ (20, 2) ∷ []) 20

abbrev pub three_messages : ℕ → Know ℕ
three_messages t = knows ((10, 1) ∷ (20, 2) ∷ (40, 3) ∷ []) t
