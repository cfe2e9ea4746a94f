-- Packets.
use Rattle.std.specs.Prelude.{ℕ, ◌+◌, ◌++◌, List, length, take, drop}
use Rattle.nm_base.specs.declared.packet.Storage.{Storage}
use Rattle.nm_base.specs.declared.packet.Storage.TheVariants.{Own, Cut}

-- the octets that a packet holds
abbrev pub held : Storage → List ℕ
held (Own octets) = octets.items
held (Cut octets) = octets

-- these octets, with others over those from a place on
abbrev pub overwritten : List ℕ → ℕ → List ℕ → List ℕ
overwritten octets place others =
    take place octets ++ others ++ drop (place + length others) octets
