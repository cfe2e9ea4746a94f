-- What was accepted, and what it left.
use Rattle.std.proofs.Common.{◌≡◌, ℕ, ◌≤◌, ◌==◌, max, Bool, true, false, cond, ltb, [], ◌∷◌, ◌++◌, length, Some, None, refl, ap, ◌∙◌, subst, arith}
use Rattle.std.proofs.lemmas.Bool.Decides.{nat_tests}
use Rattle.nm_model.specs.Lists.{nth}
use Rattle.nm_model.specs.Knowledge.{Know}
use Rattle.nm_model.specs.Accept.{New, Raised, Known, Gap, Differs, Late, NotRising, Contrary, Accepted, TellsApart, same_message, last_from, data_at, accept_data, null_at, accept_null}
use Rattle.nm_knowledge.specs.Order.{IsAccepted}
use Rattle.nm_knowledge.proofs.Differences.{number_is, message_is}

module _ {P : Type 0} (a : Know P) (n : ℕ) where
  module _ (same : P → P → Bool) (tells : TellsApart same) (b : ℕ × P) where
    pub known_data : (m : ℕ × P) → nth a.list n ≡ Some m → IsAccepted (accept_data same a n b).answer → (m ≡ b) × ((accept_data same a n b).after ≡ a)
    known_data m e h = (go (same_message same m b) refl (subst (λ o. IsAccepted (data_at same o a n b).answer) e h), ap (λ o. (data_at same o a n b).after) e)
      where
        go : (z : Bool) → same_message same m b ≡ z → IsAccepted (cond z Known (Differs n)) → m ≡ b
        go true f i = message_is same tells m b f
        go false f i = absurd i

  pub new_data : (same : P → P → Bool) (b : ℕ × P) → nth a.list n ≡ None → IsAccepted (accept_data same a n b).answer → (n ≡ length a.list) × (a.clock ≤ b.0) × ((accept_data same a n b).after ≡ record { list = a.list ++ b ∷ []; clock = b.0 })
  new_data same b e h =
      let r = counted (n == length a.list) refl (subst (λ o. IsAccepted (data_at same o a n b).answer) e h) in
      (r.0, r.1, ap (λ o. (data_at same o a n b).after) e ∙ r.2)
    where
      rises : (z : Bool) → IsAccepted (cond {A = Accepted P} z (record { answer = NotRising; after = a }) (record { answer = New; after = record { list = a.list ++ b ∷ []; clock = b.0 } })).answer → (cond {A = Accepted P} z (record { answer = NotRising; after = a }) (record { answer = New; after = record { list = a.list ++ b ∷ []; clock = b.0 } })).after ≡ record { list = a.list ++ b ∷ []; clock = b.0 }
      rises true i = absurd i
      rises false i = refl

      timed : (z : Bool) → ltb b.0 a.clock ≡ z → IsAccepted (cond z (record { answer = Late a.clock; after = a }) (cond {A = Accepted P} (last_from b.0 a.list) (record { answer = NotRising; after = a }) (record { answer = New; after = record { list = a.list ++ b ∷ []; clock = b.0 } }))).answer
          → (a.clock ≤ b.0) × ((cond z (record { answer = Late a.clock; after = a }) (cond {A = Accepted P} (last_from b.0 a.list) (record { answer = NotRising; after = a }) (record { answer = New; after = record { list = a.list ++ b ∷ []; clock = b.0 } }))).after ≡ record { list = a.list ++ b ∷ []; clock = b.0 })
      timed true f i = absurd i
      timed false f i = (grind (arith, nat_tests), rises (last_from b.0 a.list) i)

      counted : (z : Bool) → (n == length a.list) ≡ z → IsAccepted (cond z (cond (ltb b.0 a.clock) (record { answer = Late a.clock; after = a }) (cond {A = Accepted P} (last_from b.0 a.list) (record { answer = NotRising; after = a }) (record { answer = New; after = record { list = a.list ++ b ∷ []; clock = b.0 } }))) (record { answer = Gap (length a.list); after = a })).answer
          → (n ≡ length a.list) × (a.clock ≤ b.0) × ((cond z (cond (ltb b.0 a.clock) (record { answer = Late a.clock; after = a }) (cond {A = Accepted P} (last_from b.0 a.list) (record { answer = NotRising; after = a }) (record { answer = New; after = record { list = a.list ++ b ∷ []; clock = b.0 } }))) (record { answer = Gap (length a.list); after = a })).after ≡ record { list = a.list ++ b ∷ []; clock = b.0 })
      counted true f i = let r = timed (ltb b.0 a.clock) refl i in (number_is n (length a.list) f, r.0, r.1)
      counted false f i = absurd i

  pub known_null : (t : ℕ) (m : ℕ × P) → nth a.list n ≡ Some m → IsAccepted (accept_null a n t).answer → (t ≤ m.0) × ((accept_null a n t).after ≡ a)
  known_null t m e h = (go (ltb m.0 t) refl (subst (λ o. IsAccepted (null_at o a n t).answer) e h), ap (λ o. (null_at o a n t).after) e)
    where
      go : (z : Bool) → ltb m.0 t ≡ z → IsAccepted (cond z (Contrary n) Known) → t ≤ m.0
      go true f i = absurd i
      go false f i = grind (arith, nat_tests)

  pub next_null : (t : ℕ) → nth a.list n ≡ None → IsAccepted (accept_null a n t).answer → (n ≡ length a.list) × ((accept_null a n t).after ≡ record { list = a.list; clock = max a.clock t })
  next_null t e h =
      let r = counted (n == length a.list) refl (subst (λ o. IsAccepted (null_at o a n t).answer) e h) in
      (r.0, ap (λ o. (null_at o a n t).after) e ∙ r.1)
    where
      raised : (z : Bool) → ltb a.clock t ≡ z → (cond {A = Accepted P} z (record { answer = Raised; after = record a { clock = t } }) (record { answer = Known; after = a })).after ≡ record { list = a.list; clock = max a.clock t }
      raised true f = let c : t ≡ max a.clock t = grind (arith, nat_tests) in λ i. record { list = a.list; clock = c i }
      raised false f = let c : a.clock ≡ max a.clock t = grind (arith, nat_tests) in λ i. record { list = a.list; clock = c i }

      counted : (z : Bool) → (n == length a.list) ≡ z → IsAccepted (cond z (cond {A = Accepted P} (ltb a.clock t) (record { answer = Raised; after = record a { clock = t } }) (record { answer = Known; after = a })) (record { answer = Gap (length a.list); after = a })).answer
          → (n ≡ length a.list) × ((cond z (cond {A = Accepted P} (ltb a.clock t) (record { answer = Raised; after = record a { clock = t } }) (record { answer = Known; after = a })) (record { answer = Gap (length a.list); after = a })).after ≡ record { list = a.list; clock = max a.clock t })
      counted true f i = (number_is n (length a.list) f, raised (ltb a.clock t) refl)
      counted false f i = absurd i
