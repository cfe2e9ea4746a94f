-- Partitions that know the same of their channels.
use Rattle.std.proofs.Common.{◌≡◌, ℕ, zero, suc, ◌+◌, min, max, Bool, true, false, cond, [], ◌++◌, refl, sym, ap, ap₂, ◌∙◌, subst, arith}
use Rattle.std.specs.FinMap.{FinMap, get}
use Rattle.nm_base.specs.declared.key.Key.{Key}
use Rattle.nm_base.specs.declared.event.Event.{Event}
use Rattle.nm_base.specs.Key.{key_cmp}
use Rattle.nm_model.specs.Lists.{nth}
use Rattle.nm_model.specs.Network.{Net, IsNet}
use Rattle.nm_model.specs.Run.{State, run, start}
use Rattle.nm_model.specs.EventList.{least, next_time}
use Rattle.nm_model.specs.Port.{busy_until}
use Rattle.nm_model.specs.Knowledge.{Knowledge, IsUnder}
use Rattle.nm_model.specs.Partition.{comes_in, in_part}
use Rattle.nm_model.specs.Replica.{from_scratch, inbox_below, message_events, safe_time, safe_among, IsWithin, IsUnderAll}
use Rattle.nm_model.specs.Promise.{Promising, Plain, Tight, promise, lookahead}
use Rattle.nm_model.specs.Before.{IsCount}
use Rattle.nm_model.proofs.Keys.{same_events}
use Rattle.nm_model.proofs.ListLemmas.{below_nth}
use Rattle.nm_model.proofs.Scheduling.{put_absent}
use Rattle.nm_model.proofs.NewEvents.{absent_unless}
use Rattle.nm_model.proofs.Books.{more, new_among, books, within_more}
use Rattle.nm_model.proofs.Accepting.{under_self}
use Rattle.nm_model.proofs.Stated.{within_only}

module _ {P N : Type 0} (net : Net P N) (p : ℕ) where
  safe_same : (K J : Knowledge P) → ((c : ℕ) → comes_in net p c ≡ true → K c ≡ J c) → (n : ℕ) → safe_among net p K n ≡ safe_among net p J n
  safe_same K J e zero = refl
  safe_same K J e (suc n) = go (comes_in net p n) refl (safe_same K J e n)
    where
      go : (b : Bool) → comes_in net p n ≡ b → safe_among net p K n ≡ safe_among net p J n → cond b (min (K n).clock (safe_among net p K n)) (safe_among net p K n) ≡ cond b (min (J n).clock (safe_among net p J n)) (safe_among net p J n)
      go true f r = ap₂ (λ a s. min a.clock s) (e n f) r
      go false f r = r

  same_inbox : (K J : Knowledge P) → ((c : ℕ) → comes_in net p c ≡ true → (K c).list ≡ (J c).list) → (n : ℕ) → inbox_below net p K n ≡ inbox_below net p J n
  same_inbox K J e zero = refl
  same_inbox K J e (suc n) = go (comes_in net p n) refl (same_inbox K J e n)
    where
      go : (b : Bool) → comes_in net p n ≡ b → inbox_below net p K n ≡ inbox_below net p J n → cond b (message_events n 0 (K n).list) [] ++ inbox_below net p K n ≡ cond b (message_events n 0 (J n).list) [] ++ inbox_below net p J n
      go true f rest = ap₂ (λ l r. message_events n 0 l ++ r) (e n f) rest
      go false f rest = rest

  -- the same messages give the same states
  pub same_messages : (K J : Knowledge P) → ((c : ℕ) → comes_in net p c ≡ true → (K c).list ≡ (J c).list) → (k : ℕ) → from_scratch net p K k ≡ from_scratch net p J k
  same_messages K J e k = ap (λ events. run net (in_part net p) k (start net (in_part net p) events)) (same_inbox K J e net.ifaces)

  module _ (ok : IsNet net) (K J : Knowledge P) (e : (c : ℕ) → comes_in net p c ≡ true → K c ≡ J c) where
    under : IsUnderAll net p K J
    under c ch = subst (IsUnder (K c)) (e c ch) (under_self (K c))

    nothing_new : (m : FinMap key_cmp (Event P)) (q : Key) → get (more net ok p K J under m) q ≡ get m q
    nothing_new m q = put_absent (λ z. true) _ m q (absent_unless q _ (λ v a.
        let r = new_among net ok p K J under q v a in
        let f = ap (λ x. nth x.list q.number) (e r.0 r.2) ∙ r.6 in
        let lt = below_nth (K r.0).list q.number (q.time, r.4) f in let le = r.3 in omega arith))

    pub same_state : (k : ℕ) → IsWithin net p K k → from_scratch net p J k ≡ from_scratch net p K k
    same_state k w = books net ok p K J under k w ∙ ap (λ m. record (from_scratch net p K k) { pending = m }) (same_events _ _ (nothing_new (from_scratch net p K k).pending))

    pub same_within : (k : ℕ) → IsWithin net p K k → IsWithin net p J k
    same_within k w = within_more net ok p K J under k w

    pub same_promise : (kind : Promising) (k c : ℕ) → IsWithin net p K k → promise net kind p J k c ≡ promise net kind p K k c
    same_promise kind k c w = by_kind kind
      where
        safe : safe_time net p J ≡ safe_time net p K
        safe = sym (safe_same K J e net.ifaces)

        by_kind : (z : Promising) → promise net z p J k c ≡ promise net z p K k c
        by_kind Plain = ap₂ (λ t (s : State P N). next_time (min net.stop t) (least s.pending) + lookahead net Plain c) safe (same_state k w)
        by_kind Tight = ap₂ (λ t (s : State P N). max (next_time (min net.stop t) (least s.pending)) (busy_until (s.port (net.far_end c)).busy) + lookahead net Tight c) safe (same_state k w)

  pub same_count : IsNet net → (K J : Knowledge P) → ((c : ℕ) → comes_in net p c ≡ true → K c ≡ J c) → (j k : ℕ) → IsCount net p K j → IsCount net p J k → j ≡ k
  same_count ok K J e j k a b =
      let le = within_only net ok p J j k b (same_within ok K J e j a.first) in
      let ge = within_only net ok p K k j a (same_within ok J K (λ c ch. sym (e c ch)) k b.first) in omega arith
