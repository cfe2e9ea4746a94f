-- What polls come to, and why serving ends by them.
use Rattle.std.proofs.Common.{◌≡◌, ◌≤◌, ◌+◌, inl, ℕ, Bool, true, false, if◌then◌else◌, Option, Some, None, ap, refl, subst, arith}
use Rattle.std.proofs.lemmas.Bool.Decides.{nat_tests}
use Rattle.std.specs.Prelude.{nat_le}
use Rattle.nm_base.specs.Count.{saturated}
use Rattle.nm_shared.specs.Home.{Home}
use Rattle.nm_replica.specs.Polls.{ending_of, idle_after, is_active}
use Rattle.nm_transport.specs.Transport.{elapsed_after}
use Rattle.nm_replica.specs.Served.{EndsWith, PolledOnce, WasFinished}
use Rattle.nm_replica.specs.declared.served.Served.{Served}
use Rattle.nm_replica.specs.declared.polling.Polled.{Polled}
use Rattle.nm_replica.specs.declared.served.Served.TheVariants.{Ended, File, Memory, Net, Stalled}

-- there are no more idle periods in a row than waits that ran out
pub idles_wait : (idle : ℕ) (was_active ran_out : Bool) (start before after : ℕ) → start + idle ≤ before
    → after ≡ elapsed_after before ran_out → start + idle_after idle was_active ran_out ≤ after
idles_wait idle true true start before after so_far one = omega (arith, so_far, one)
idles_wait idle true false start before after so_far one = omega (arith, so_far, one)
idles_wait idle false true start before after so_far one = omega (arith, so_far, one)
idles_wait idle false false start before after so_far one = omega (arith, so_far, one)

-- what `ending_of` says is why serving ends
pub ends_after : (exact : Bool) (own : Home) (keeps : Bool) (limit before after : ℕ) (waits : ℕ × ℕ) (idle polls : ℕ) (is_done : Bool) (served : Served)
    → (is_done ≡ true → WasFinished exact own keeps) → before + idle ≤ after → ending_of is_done idle limit polls ≡ Some served
    → EndsWith exact own keeps limit (before, after) waits served
ends_after exact own keeps limit before after waits idle polls true served finished idles e =
    let is : Ended ≡ served = cc in subst (EndsWith exact own keeps limit (before, after) waits) is (finished refl)
ends_after exact own keeps limit before after waits idle polls false served finished idles e = by_test (nat_le limit idle) refl e
  where
    by_test : (b : Bool) → nat_le limit idle ≡ b → (if b then Some (Stalled polls) else None) ≡ Some served → EndsWith exact own keeps limit (before, after) waits served
    by_test true is f =
        let few : limit ≤ idle = grind (arith, nat_tests) in
        let same : Stalled polls ≡ served = cc in
        subst (EndsWith exact own keeps limit (before, after) waits) same (inl (omega (arith, few, idles)))
    by_test false is f = let none : None ≡ Some served = f in absurd cc

-- one poll, from what it came to
pub polled_once : (Happened : Polled → Type 0) (limit polls idle idle' before after : ℕ) (end : Option Served) (p : Polled)
    → idle' ≡ idle_after idle (is_active p.octets p.written p.was_run) p.ran_out → after ≡ elapsed_after before p.ran_out → end ≡ ending_of p.is_done idle' limit polls
    → Happened p → PolledOnce Happened limit polls (idle, idle') (before, after) end
polled_once Happened limit polls idle idle' before after end p a b c d = (p, a, b, c, d)

-- what moved in two rounds of turns
pub saturated_twice : (m h s : ℕ) → saturated (saturated (m + h) + s) ≡ saturated (m + saturated (h + s))
saturated_twice m h s = omega arith

-- a replica that ends as stalled tells how many polls were made
abbrev polls_in : Served → ℕ
polls_in Ended = 0
polls_in Net = 0
polls_in Memory = 0
polls_in (File iface written) = 0
polls_in (Stalled polls) = polls

pub stalled_polls : (is_done : Bool) (idle limit polls told : ℕ) → ending_of is_done idle limit polls ≡ Some (Stalled told) → polls ≡ told
stalled_polls true idle limit polls told e = let same : Ended ≡ Stalled told = cc in absurd cc
stalled_polls false idle limit polls told e = by_test (nat_le limit idle) e
  where
    by_test : (b : Bool) → (if b then Some (Stalled polls) else None) ≡ Some (Stalled told) → polls ≡ told
    by_test true f = let same : Stalled polls ≡ Stalled told = cc in ap polls_in same
    by_test false f = let none : None ≡ Some (Stalled told) = f in absurd cc
