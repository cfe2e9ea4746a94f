-- Tests that answer whether two values are the same.
use denote.Enum.Bare.{sameb, same_true, true_same}
use Rattle.std.proofs.Common.{◌≡◌, ℕ, suc, ◌+◌, ◌<◌, Bool, true, false, ◌&&◌, List, [], ◌∷◌, length, Option, Some, None, inl, inr, ◌⊎◌, refl, sym, ap, subst, ◌∙◌, Bor, nat_eq, arith}
use Rattle.std.proofs.lemmas.Bool.{cases_eq, eq-eqb, eqb-true, true≢false}
use Rattle.std.specs.Prelude.{Decides}
use Rattle.std.specs.Bool.{beq}
use Rattle.std.specs.Cmp.Lexicographic.{bytes_decides, pointwise, pointwise_decides}
use Rattle.std.specs.Option.{option_eq, option_map}
use Rattle.nm_base.specs.contracts.record.Dir.{the_type}
use Rattle.nm_base.specs.declared.record.Dir.{Dir}
use Rattle.nm_base.specs.declared.record.Record.{Record}
use Rattle.nm_model.specs.Lists.{nth}

pub numbers_decide : (m n : ℕ) → Decides (nat_eq m n) (m ≡ n)
numbers_decide m n = (eqb-true m n, eq-eqb m n)

pub answers_decide : (a b : Bool) → Decides (beq a b) (a ≡ b)
answers_decide true true = (λ _. refl, λ _. refl)
answers_decide true false = (λ h. sym h, λ e. sym e)
answers_decide false true = (λ h. h, λ e. e)
answers_decide false false = (λ _. refl, λ _. refl)

both : {P Q : Type 0} (s t : Bool) → Decides s P → Decides t Q → Decides (s && t) (P × Q)
both true t d e = (λ h. (d.0 refl, e.0 h), λ w. e.1 w.1)
both false t d e = (λ h. absurd (true≢false (sym h)), λ w. absurd (true≢false (sym (d.1 w.0))))

pub both_decide : {P Q : Type 0} {s t : Bool} → Decides s P → Decides t Q → Decides (s && t) (P × Q)
both_decide {P} {Q} {s} {t} d e = both s t d e

-- a test of two values is one of what they are equal to
pub turned : {A : Type 0} {t : Bool} {u v w z : A} → u ≡ v → w ≡ z → Decides t (u ≡ w) → Decides t (v ≡ z)
turned e f d = (λ h. sym e ∙ d.0 h ∙ f, λ g. d.1 (e ∙ g ∙ sym f))

-- options of what is seen by a view
pub options_decide : {A B : Type 0} (view : A → B) (test : A → A → Bool) → ((x y : A) → Decides (test x y) (view x ≡ view y)) → (o p : Option A) → Decides (option_eq test o p) (option_map view o ≡ option_map view p)
options_decide view test d None None = (λ _. refl, λ _. refl)
options_decide view test d None (Some y) = (λ h. absurd (true≢false (sym h)), λ e. absurd (cc))
options_decide view test d (Some x) None = (λ h. absurd (true≢false (sym h)), λ e. absurd (cc))
options_decide {A} {B} view test d (Some x) (Some y) = (λ h. ap Some ((d x y).0 h), λ e. (d x y).1 (let same : ◌≡◌ {A = B} (view x) (view y) = cc in same))

unseen : {A : Type 0} (o : Option A) → option_map (λ x. x) o ≡ o
unseen None = refl
unseen (Some x) = refl

pub maybe_numbers_decide : (o p : Option ℕ) → Decides (option_eq nat_eq o p) (o ≡ p)
maybe_numbers_decide o p = turned (unseen o) (unseen p) (options_decide (λ n. n) nat_eq numbers_decide o p)

-- messages
abbrev message_test : ℕ × List ℕ → ℕ × List ℕ → Bool
message_test x y = nat_eq x.0 y.0 && pointwise nat_eq x.1 y.1

message_decides : (x y : ℕ × List ℕ) → Decides (message_test x y) (x ≡ y)
message_decides x y =
    let d = both_decide (numbers_decide x.0 y.0) (bytes_decides x.1 y.1) in
    (λ h. let w = d.0 h in λ i. (w.0 i, w.1 i), λ e. d.1 (ap (λ m. m.0) e, ap (λ m. m.1) e))

-- a message whose packet is lent
abbrev pub Message : Type 0
Message = ℕ × Bor (List ℕ)

abbrev message_view : Message → ℕ × List ℕ
message_view m = (m.0, m.1.now)

pub messages_decide : (o p : Option Message) → Decides (option_eq (λ x y. message_test (message_view x) (message_view y)) o p) (option_map message_view o ≡ option_map message_view p)
messages_decide = options_decide message_view (λ x y. message_test (message_view x) (message_view y)) (λ x y. message_decides (message_view x) (message_view y))

-- messages that are lent
abbrev pub Lent : Type 0
Lent = Bor (List (ℕ × List ℕ))

pub lent_decide : (o p : Option Lent) → Decides (option_eq (λ x y. pointwise message_test x.now y.now) o p) (option_map (λ x. x.now) o ≡ option_map (λ x. x.now) p)
lent_decide = options_decide {A = Lent} (λ x. x.now) (λ x y. pointwise message_test x.now y.now) (λ x y. pointwise_decides message_decides x.now y.now)

-- traces
abbrev record_test : Record (List ℕ) → Record (List ℕ) → Bool
record_test a b = nat_eq a.time b.time && (sameb the_type a.dir b.dir && (nat_eq a.iface b.iface && pointwise nat_eq a.packet b.packet))

record_decides : (a b : Record (List ℕ)) → Decides (record_test a b) (a ≡ b)
record_decides a b =
    let d = both_decide (numbers_decide a.time b.time) (both_decide (same_true the_type tt a.dir b.dir, true_same the_type a.dir b.dir) (both_decide (numbers_decide a.iface b.iface) (bytes_decides a.packet b.packet))) in (
      λ h. let w = d.0 h in λ i. record { time = w.0 i; dir = w.1.0 i; iface = w.1.1.0 i; packet = w.1.1.1 i },
      λ e. d.1 (ap (λ r. r.time) e, (ap (λ r. r.dir) e, (ap (λ r. r.iface) e, ap (λ r. r.packet) e))),
    )

pub traces_decide : (k l : List (Record (List ℕ))) → Decides (pointwise record_test k l) (k ≡ l)
traces_decide = pointwise_decides record_decides

-- what holds below a number and at it
pub with_next : {P : ℕ → Type 0} (n : ℕ) → ((m : ℕ) → m < n → P m) → P n → (m : ℕ) → m < n + 1 → P m
with_next {P} n below here m small = go (cases_eq m n)
  where
    go : (m ≡ n) ⊎ (m ≡ n → ⊥) → P m
    go (inl e) = subst P (sym e) here
    go (inr apart) = below m (omega (arith, apart))

-- lists of one length with the same items at each place
pub same_lists : {A : Type 0} (k l : List A) → length k ≡ length l → ((n : ℕ) → n < length k → nth k n ≡ nth l n) → k ≡ l
same_lists [] [] e h = refl
same_lists [] (y ∷ l) e h = absurd (omega arith)
same_lists (x ∷ k) [] e h = absurd (omega arith)
same_lists {A} (x ∷ k) (y ∷ l) e h =
    let first : Some x ≡ Some y = h 0 (omega arith) in
    let same : ◌≡◌ {A = A} x y = cc in
    let rest = same_lists k l (omega arith) (λ n small. h (suc n) (omega arith)) in
    λ i. same i ∷ rest i
