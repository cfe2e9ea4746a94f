-- How long connections last.
use Rattle.std.proofs.Common.{◌≡◌, ℕ, suc, zero, ◌+◌, ◌<◌, ◌^◌, true, false, not, ◌&&◌, None, refl, ◌∙◌, ap, arith}
use Rattle.std.specs.Prelude.{is_some, nat_le}
use Rattle.nm_base.specs.Count.{saturated}
use Rattle.nm_policy.specs.Contact.{heard, is_overdue, is_silent}
use Rattle.nm_policy.specs.Laws.{polled_for}
use Rattle.nm_policy.specs.declared.contact.Contact.{Contact}
use Rattle.nm_policy.specs.declared.limits.TheConstants.{HELLO_PERIODS, SILENCE_PERIODS}

one_more : (before n : ℕ) → before ≡ n → suc n < 2 ^ 64 → saturated (before + 1) ≡ suc n
one_more before n is low = omega (arith, is, low)

pub for_lasted : (c : Contact) (n : ℕ) → c.lasted.periods ≡ 0 → n < 2 ^ 64 → (polled_for n c).lasted.periods ≡ n
for_lasted c zero none low = none
for_lasted c (suc n) none low = one_more (polled_for n c).lasted.periods n (for_lasted c n none (omega (arith, low))) low

pub for_silent : (c : Contact) (n : ℕ) → c.silent.periods ≡ 0 → n < 2 ^ 64 → (polled_for n c).silent.periods ≡ n
for_silent c zero none low = none
for_silent c (suc n) none low = one_more (polled_for n c).silent.periods n (for_silent c n none (omega (arith, low))) low

same_name : (c : Contact) (n : ℕ) → (polled_for n c).name ≡ c.name
same_name c zero = refl
same_name c (suc n) = same_name c n

same_waits : (c : Contact) (n : ℕ) → (polled_for n c).waits ≡ c.waits
same_waits c zero = refl
same_waits c (suc n) = same_waits c n

pub overdue_at : (c : Contact) (n : ℕ) → c.name ≡ None → c.lasted.periods ≡ 0 → n < 2 ^ 64 → is_overdue (polled_for n c) ≡ nat_le HELLO_PERIODS n
overdue_at c n unnamed none low =
    ap (λ o. not (is_some o) && nat_le HELLO_PERIODS (polled_for n c).lasted.periods) (same_name c n ∙ unnamed)
    ∙ ap (λ p. nat_le HELLO_PERIODS p) (for_lasted c n none low)

pub never_overdue : (c : Contact) → is_some c.name ≡ true → is_overdue c ≡ false
never_overdue c named = ap (λ b. not b && nat_le HELLO_PERIODS c.lasted.periods) named

pub silent_at : (c : Contact) (n : ℕ) → is_some c.name ≡ true → c.waits ≡ true → n < 2 ^ 64 → is_silent (polled_for n (heard c)) ≡ nat_le SILENCE_PERIODS n
silent_at c n named waits low =
    ap (λ o. is_some o && (polled_for n (heard c)).waits && nat_le SILENCE_PERIODS (polled_for n (heard c)).silent.periods) (same_name (heard c) n)
    ∙ ap (λ b. b && (polled_for n (heard c)).waits && nat_le SILENCE_PERIODS (polled_for n (heard c)).silent.periods) named
    ∙ ap (λ b. b && nat_le SILENCE_PERIODS (polled_for n (heard c)).silent.periods) (same_waits (heard c) n ∙ waits)
    ∙ ap (λ p. nat_le SILENCE_PERIODS p) (for_silent (heard c) n refl low)
