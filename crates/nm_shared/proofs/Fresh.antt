-- A book that knows nothing.
use Rattle.std.proofs.Common.{◌≡◌, ℕ, zero, suc, Bool, true, false, if◌then◌else◌, List, length, replicate, refl, sym, subst, ap, ◌∙◌, arith}
use Rattle.std.specs.Prelude.{slice_index_or}
use Rattle.nm_topology.specs.Topology.{receiving_iface}
use Rattle.nm_topology.specs.TopologyValue.{TopologyValue}
use Rattle.nm_model.specs.Knowledge.{nothing_known}
use Rattle.nm_model.specs.Partition.{comes_in}
use Rattle.nm_sim.specs.Network.{net_of}
use Rattle.nm_book.specs.Book.{BookValue}
use Rattle.nm_shared.specs.Known.{HasAllChannels, messages_below, messages_known}

none_at : (m c : ℕ) → length (slice_index_or (replicate m (nothing_known {P = List ℕ})) c nothing_known).list ≡ 0
none_at zero c = refl
none_at (suc m) zero = refl
none_at (suc m) (suc c) = none_at m c

none_if : (q : Bool) (n : ℕ) → n ≡ 0 → (if q then n else 0) ≡ 0
none_if true n e = e
none_if false n e = refl

pub fresh_knows_none : (t : TopologyValue) (p m n : ℕ) → messages_below t p (replicate m nothing_known) n ≡ 0
fresh_knows_none t p m zero = refl
fresh_knows_none t p m (suc n) =
    let rest = fresh_knows_none t p m n in
    let one = none_if (comes_in (net_of t) p (receiving_iface t n)) _ (none_at m n) in
    omega (arith, rest, one)

length_none : (n : ℕ) → length (replicate n (nothing_known {P = List ℕ})) ≡ n
length_none zero = refl
length_none (suc n) = ap suc (length_none n)

module _ (t : TopologyValue) (p r : ℕ) (b : BookValue) (e : b ≡ record { topology = t; partition = p; replica = r; knows = replicate (length t.receivers) nothing_known; events = 0; handed = 0 }) where
  pub fresh_has_all : HasAllChannels b
  fresh_has_all = subst HasAllChannels (sym e) (length_none (length t.receivers))

  pub fresh_knows : messages_known b ≡ 0
  fresh_knows = ap messages_known e ∙ fresh_knows_none t p (length t.receivers) (length t.receivers)
