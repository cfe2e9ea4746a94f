-- Connections that are to be looked at, key by key.
use Rattle.std.proofs.Common.{◌≡◌, ◌≢◌, ℕ, ◌+◌, ◌<◌, ◌≤◌, true, false, length, Option, None, Some, refl, ◌∙◌, ap, sym, subst, arith, below_more, ⊎_elim}
use Rattle.std.specs.Prelude.{IfSome}
use Rattle.std.specs.Option.{option_map}
use Rattle.std.proofs.lemmas.Bool.{cases_eq, cases_lt}
use Rattle.std.proofs.lemmas.List.{get_or_past}
use Rattle.slab.specs.Slab.{Slab, Updates, get}
use Rattle.nm_replica.specs.Connections.{AreAllReady, IsNoneReady, KeepsUnreported, is_ready, reported_connection}
use Rattle.nm_replica.specs.declared.connection.Connection.{Connection}

module _ {W : Type 0} where
  -- a connection under a key is to be looked at, if there is one
  abbrev pub IsReadyAt : Slab (Connection W) → ℕ → Type 0
  IsReadyAt slab key = IfSome (get slab key) (λ c. c.link.wire.is_ready ≡ true)

  looked : (c : Option (Connection W)) → IfSome (option_map reported_connection c) (λ c. c.link.wire.is_ready ≡ true)
  looked None = tt
  looked (Some c) = refl

  -- one more is looked at
  pub one_more_looked : (old new : Slab (Connection W)) (n : ℕ) → Updates old new n (option_map reported_connection (get old n)) → ((k : ℕ) → k < n → IsReadyAt old k) → (k : ℕ) → k < n + 1 → IsReadyAt new k
  one_more_looked old new n updates before k low =
      below_more (IsReadyAt new) n
      (λ j l. let ne : j ≢ n = λ e. absurd (omega (arith, l, e)) in subst (λ o. IfSome o (λ c. c.link.wire.is_ready ≡ true)) (sym (updates.others j ne)) (before j l))
      (subst (λ o. IfSome o (λ c. c.link.wire.is_ready ≡ true)) (sym updates.changed) (looked (get old n))) k low

  -- one that is to be looked at stays so, whichever is reported
  pub still_looked : (old new : Slab (Connection W)) (n : ℕ) → Updates old new n (option_map reported_connection (get old n)) → (k : ℕ) → IsReadyAt old k → IsReadyAt new k
  still_looked old new n updates k ready =
      ⊎_elim (λ same. subst (IsReadyAt new) (sym same) (subst (λ o. IfSome o (λ c. c.link.wire.is_ready ≡ true)) (sym updates.changed) (looked (get old n))))
      (λ apart. subst (λ o. IfSome o (λ c. c.link.wire.is_ready ≡ true)) (sym (updates.others k apart)) ready)
      (cases_eq k n)

  -- and the reported one is
  pub now_looked : (old new : Slab (Connection W)) (n : ℕ) → Updates old new n (option_map reported_connection (get old n)) → IsReadyAt new n
  now_looked old new n updates = subst (λ o. IfSome o (λ c. c.link.wire.is_ready ≡ true)) (sym updates.changed) (looked (get old n))

  -- the keys behind it keep what they had
  pub rest_kept : (first old new : Slab (Connection W)) (n : ℕ) (slot : Option (Connection W)) → Updates old new n slot → ((k : ℕ) → n ≤ k → get old k ≡ get first k) → (k : ℕ) → n + 1 ≤ k → get new k ≡ get first k
  rest_kept first old new n slot updates before k high =
      let ne : k ≢ n = λ e. absurd (omega (arith, high, e)) in updates.others k ne ∙ before k (omega (arith, high))

  -- all are looked at, where those below a key behind which there is none were
  pub all_looked : (first new : Slab (Connection W)) (n : ℕ) → length first.slots ≤ n → ((k : ℕ) → k < n → IsReadyAt new k) → ((k : ℕ) → n ≤ k → get new k ≡ get first k) → AreAllReady new
  all_looked first new n past below behind k =
      ⊎_elim (λ low. below k low)
      (λ high. subst (λ o. IfSome o (λ c. c.link.wire.is_ready ≡ true)) (sym (behind k high ∙ get_or_past first.slots k None (omega (arith, past, high)))) tt) (cases_lt k n)

  -- none is ready, where none below a key is behind which there is none
  pub none_ready : (slab : Slab (Connection W)) (n : ℕ) → length slab.slots ≤ n → ((k : ℕ) → k < n → is_ready (get slab k) ≡ false) → IsNoneReady slab
  none_ready slab n past below k =
      ⊎_elim (λ low. below k low) (λ high. ap is_ready (get_or_past slab.slots k None (omega (arith, past, high)))) (cases_lt k n)

  -- no connection but those of one more report is looked at
  pub unreported_more : (reported : ℕ → Option ℕ) (n key : ℕ) (first old new : Slab (Connection W)) (slot : Option (Connection W)) → KeepsUnreported reported n first old
      → Some key ≡ reported n → Updates old new key slot → KeepsUnreported reported (n + 1) first new
  unreported_more reported n key first old new slot so_far is updates other none =
      let ne : other ≢ key = λ e. none n (omega arith) (sym is ∙ ap (λ (k : ℕ). Some k) (sym e)) in
      updates.others other ne ∙ so_far other (λ k low. none k (omega (arith, low)))

  pub unreported_fewer : (reported : ℕ → Option ℕ) (n most : ℕ) (first new : Slab (Connection W)) → n ≤ most → KeepsUnreported reported n first new → KeepsUnreported reported most first new
  unreported_fewer reported n most first new few so_far key none = so_far key (λ k low. none k (omega (arith, few, low)))
