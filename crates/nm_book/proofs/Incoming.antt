-- The partition of an interface, and which channels come in and go out.
use Rattle.std.proofs.Common.{◌≡◌, ◌⊎◌, ℕ, ◌==◌, ◌&&◌, ◌<◌, ◌≤◌, not, Bool, true, false, List, Some, get_or, map, Option, None, ltb, if◌then◌else◌, ap₂, option_map, slice_get, length, inl, inr, refl, sym, ◌∙◌, ap, subst, arith}
use Rattle.std.proofs.lemmas.Bool.{cases_lt}
use Rattle.std.proofs.lemmas.Bool.Decides.{nat_tests}
use Rattle.std.proofs.lemmas.Option.{get_or_from_slice_get, slice_get-map}
use Rattle.nm_base.specs.declared.key.Place.TheVariants.{Arrive}
use Rattle.nm_model.specs.Network.{IsNet, Net}
use Rattle.nm_model.specs.Port.{Busy, busy_until}
use Rattle.nm_model.specs.Run.{State}
use Rattle.nm_forward.specs.State.{NodeStateValue}
use Rattle.nm_model.specs.Partition.{comes_in, goes_out, in_part, receiver_of}
use Rattle.nm_topology.specs.PartValues.{IfaceValue, NodeValue}
use Rattle.nm_topology.specs.TopologyValue.{TopologyValue}
use Rattle.nm_iface.specs.Transmission.{transmission_time}
use Rattle.nm_sim.specs.Network.{far_from, net_of}
use Rattle.nm_sim.specs.Part.{busy_at, completes_at}
use Rattle.nm_topology.specs.Topology.{receiving_iface}

read_map : {X : Type 0} (f : X → ℕ) (xs : List X) (i : ℕ) (x : X) (d : ℕ) → slice_get xs i ≡ Some x → get_or (map f xs) i d ≡ f x
read_map f xs i x d e = get_or_from_slice_get (map f xs) i (f x) d (slice_get-map f xs i ∙ ap (option_map f) e)

-- the partition of an interface that is there
pub partition_is : (t : TopologyValue) (i : ℕ) (x : IfaceValue) (n : NodeValue) → slice_get t.ifaces i ≡ Some x → slice_get t.nodes x.node ≡ Some n
    → n.partition ≡ (net_of t).part ((net_of t).owner i)
unfolding net_of
partition_is t i x n e f = sym (ap (net_of t).part (read_map (λ z. z.node) t.ifaces i x 0 e) ∙ read_map (λ z. z.partition) t.nodes x.node n t.partitions f)

is_same : (a b : ℕ) → (a == b) ≡ true → a ≡ b
is_same a b h = grind (arith, nat_tests, h)

-- what comes in anywhere comes in at the partition of its receiver alone
pub comes_in_at : {P N : Type 0} (net : Net P N) (p i : ℕ) → comes_in net (receiver_of net i) i ≡ true → (receiver_of net i == p) ≡ comes_in net p i
comes_in_at net p i here = go (receiver_of net i == p) refl
  where
    go : (b : Bool) → (receiver_of net i == p) ≡ b → b ≡ comes_in net p i
    go true e = sym (subst (λ q. comes_in net q i ≡ true) (is_same _ _ e) here)
    go false e = ap (λ b. b && not (in_part net p (Arrive (net.far_end i)))) (sym e)

-- what goes out of anywhere goes out of the partition of its sender alone
pub goes_out_at : {P N : Type 0} (net : Net P N) (p i : ℕ) → comes_in net (receiver_of net i) i ≡ true → (net.part (net.owner (net.far_end i)) == p) ≡ goes_out net p i
goes_out_at net p i here = go (net.part (net.owner (net.far_end i)) == p) refl
  where
    apart : (s r : ℕ) → ((r == r) && not (s == r)) ≡ true → (s == p) ≡ true → true ≡ not (r == p)
    apart s r h e = grind (arith, nat_tests, h, e)

    go : (b : Bool) → (net.part (net.owner (net.far_end i)) == p) ≡ b → b ≡ goes_out net p i
    go true e = apart (net.part (net.owner (net.far_end i))) (net.part (net.owner i)) here e ∙ ap (λ b. b && not (in_part net p (Arrive i))) (sym e)
    go false e = ap (λ b. b && not (in_part net p (Arrive i))) (sym e)

-- what is linked to itself goes nowhere
pub goes_nowhere : {P N : Type 0} (net : Net P N) (p i : ℕ) → net.far_end i ≡ i → false ≡ goes_out net p i
goes_nowhere net p i e = both (in_part net p (Arrive i)) ∙ ap (λ j. in_part net p (Arrive j) && not (in_part net p (Arrive i))) (sym e)
  where
    both : (b : Bool) → false ≡ (b && not b)
    both true = refl
    both false = refl

-- the far end of an interface that is there is there
pub far_end_there : {P N : Type 0} (net : Net P N) → IsNet net → (i : ℕ) → i < net.ifaces → net.far_end i < net.ifaces
far_end_there net ok i h = go (cases_lt (net.far_end i) net.ifaces)
  where
    go : (net.far_end i < net.ifaces) ⊎ (net.ifaces ≤ net.far_end i) → net.far_end i < net.ifaces
    go (inl there) = there
    go (inr past) = let e = sym (ok.outside (net.far_end i) past) ∙ ok.twice i in absurd (omega (arith, e, past, h))

pub far_end_is : (t : TopologyValue) (i : ℕ) (x : IfaceValue) → slice_get t.ifaces i ≡ Some x → (net_of t).far_end i ≡ x.far.iface
unfolding net_of
far_end_is t i x e = ap (λ o. (far_from i o).iface) e

pub link_is : (t : TopologyValue) (i : ℕ) (x : IfaceValue) → slice_get t.ifaces i ≡ Some x → (net_of t).delay i ≡ x.far.delay
unfolding net_of
link_is t i x e = ap (λ o. (far_from i o).delay) e

pub least_tx_is : (t : TopologyValue) (i : ℕ) (x : IfaceValue) → slice_get t.ifaces i ≡ Some x → (net_of t).least_tx i ≡ transmission_time x.far.rate 1
unfolding net_of
least_tx_is t i x e = ap (λ o. transmission_time (far_from i o).rate 1) e

pub ifaces_are : (t : TopologyValue) → (net_of t).ifaces ≡ length t.ifaces
unfolding net_of
ifaces_are t = refl

pub stop_is : (t : TopologyValue) → (net_of t).stop ≡ t.stop
unfolding net_of
stop_is t = refl

-- when the transmission of the interface that sends on a channel of a partition completes
pub busy_out : (t : TopologyValue) (p : ℕ) (s : State (List ℕ) NodeStateValue) (c : ℕ) → (net_of t).far_end (receiving_iface t c) < (net_of t).ifaces → goes_out (net_of t) p (receiving_iface t c) ≡ true
    → busy_at t (Some p) s c ≡ busy_until (s.port ((net_of t).far_end (receiving_iface t c))).busy
busy_out t p s c there goes =
    let i = (net_of t).far_end (receiving_iface t c) in
    let within : ltb i (length t.ifaces) ≡ true = let e = ifaces_are t in grind (arith, nat_tests, there, e) in
    let here : in_part (net_of t) p (Arrive i) ≡ true = left _ _ goes in
    ap₂ (λ a b. if a && b then completes_at (s.port i).busy else 0) within here ∙ same (s.port i).busy
  where
    left : (a b : Bool) → (a && b) ≡ true → a ≡ true
    left true b h = refl
    left false b h = h

    same : (o : Option (Busy (List ℕ))) → completes_at o ≡ busy_until o
    same None = refl
    same (Some b) = refl

-- what comes in comes in at an interface that is there
pub comes_to_there : (t : TopologyValue) (p i : ℕ)
    → ((p i : ℕ) → comes_in (net_of t) p i ≡ true → (c : ℕ) × (c < length t.receivers) × (receiving_iface t c ≡ i) × (1 ≤ (net_of t).delay i))
    → ((c : ℕ) → c < length t.receivers → receiving_iface t c < length t.ifaces)
    → comes_in (net_of t) p i ≡ true → i < (net_of t).ifaces
comes_to_there t p i numbered there comes =
    let found = numbered p i comes in
    let below = there found.0 found.1 in
    let same = found.2 in
    let e = ifaces_are t in omega (arith, below, same, e)
