-- What a replica promises for which nothing is left to do.
use Rattle.std.proofs.Common.{◌≡◌, ℕ, ◌+◌, refl, Bool, true, false, not, ◌==◌, ◌&&◌, ltb, min, Option, Some, None, ap, ◌∙◌, arith}
use Rattle.std.proofs.lemmas.Bool.Decides.{nat_tests}
use Rattle.nm_base.specs.declared.key.Key.{Key}
use Rattle.nm_model.specs.Certificate.{is_done}
use Rattle.nm_model.specs.EventList.{is_before, least, next_time}
use Rattle.nm_model.specs.Promise.{Plain, next_cause}
use Rattle.nm_model.specs.Replica.{from_scratch, safe_time}
use Rattle.nm_model.proofs.ListLemmas.{number_is}
use Rattle.nm_sim.specs.Network.{net_of}
use Rattle.nm_topology.specs.Topology.{receiving_iface}
use Rattle.nm_book.specs.Book.{BookValue, knowledge, promise_on, replica_of}

both : (a b : Bool) → (a && not b) ≡ true → (a ≡ true) × (b ≡ false)
both true false h = (refl, refl)
both true true h = absurd (cc)
both false b h = absurd (cc)

-- where nothing is pending before a time, that is the next one
none_before : {X : Type 0} (t : ℕ) (o : Option (Key × X)) → is_before t o ≡ false → next_time t o ≡ t
none_before t None e = refl
none_before t (Some x) e = late x.0.time e
  where
    late : (n : ℕ) → ltb n t ≡ false → min t n ≡ t
    late n h = grind (arith, nat_tests, h)

pub stop_is_promised : (b : BookValue) (c : ℕ) → is_done (net_of b.topology) b.partition (replica_of b) ≡ true
    → promise_on Plain b c ≡ (net_of b.topology).stop + (net_of b.topology).delay ((net_of b.topology).far_end (receiving_iface b.topology c))
stop_is_promised b c done =
    let net = net_of b.topology in
    let first = least (from_scratch net b.partition (knowledge b) b.events).pending in
    let e = both (safe_time net b.partition (knowledge b) == net.stop) (is_before net.stop first) done in
    let safe : safe_time net b.partition (knowledge b) ≡ net.stop = number_is _ net.stop e.0 in
    let least_is : min net.stop (safe_time net b.partition (knowledge b)) ≡ net.stop = lower net.stop (safe_time net b.partition (knowledge b)) safe in
    let cause : next_cause net b.partition (knowledge b) b.events ≡ net.stop = ap (λ t. next_time t first) least_is ∙ none_before net.stop first e.1 in
    ap (λ t. t + net.delay (net.far_end (receiving_iface b.topology c))) cause
  where
    lower : (t s : ℕ) → s ≡ t → min t s ≡ t
    lower t s h = grind (arith, nat_tests, h)
