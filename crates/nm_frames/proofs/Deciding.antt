-- At which octet a fault shows.
use Rattle.std.proofs.Common.{◌≡◌, ℕ, ◌+◌, ◌<◌, ◌≤◌, min, Bool, true, false, ◌==◌, ◌&&◌, nat_lt, List, ◌++◌, length, take, drop, slice_index, Option, Some, None, refl, sym, ap, subst, ◌∙◌, if◌then◌else◌, length-append, arith}
use Rattle.std.proofs.lemmas.List.{take-append-le, drop-append-le, get_or_append_left, take-append-drop, length-take, length-drop}
use Rattle.std.proofs.lemmas.Bool.Decides.{nat_tests}
use Rattle.std.specs.Int.{w32, from_be_bytes}
use Rattle.nm_model.proofs.ListLemmas.{number_is}
use Rattle.nm_frames.specs.declared.fault.FrameFault.{FrameFault}
use Rattle.nm_frames.specs.declared.fault.FrameFault.TheVariants.{BadLength, BadKind, BadBody}
use Rattle.nm_frames.specs.Stream.{stated_length, has_magic, fits_kind, fault_shown, is_bad_length, is_bad_kind, deciding_octets}

-- the fault by the answers to the tests
abbrev fault_by : Bool → Bool → Bool → Bool → Bool → Bool → Option FrameFault
fault_by a l e k s f =
    if a then None else if l then Some BadLength else if e then None else if k then Some BadKind
    else if s then None else if f then None else Some BadBody

fault_at : (o : List ℕ) (a l e k s f : Bool) → nat_lt (length o) 4 ≡ a → is_bad_length (stated_length o) ≡ l → (length o == 4) ≡ e → is_bad_kind (slice_index o 4) ≡ k → nat_lt (length o) (4 + stated_length o) ≡ s → fits_kind (slice_index o 4) (stated_length o) (drop 5 o) ≡ f → fault_shown o ≡ fault_by a l e k s f
fault_at o a l e k s f ea el ee ek es ef = rw (ea, el, ee, ek, es, ef) refl

lt_true : (m n : ℕ) → m < n → nat_lt m n ≡ true
lt_true m n h = grind (arith, nat_tests, h)

lt_false : (m n : ℕ) → n ≤ m → nat_lt m n ≡ false
lt_false m n h = grind (arith, nat_tests, h)

is_lt : (m n : ℕ) → nat_lt m n ≡ true → m < n
is_lt m n h = grind (arith, nat_tests, h)

is_ge : (m n : ℕ) → nat_lt m n ≡ false → n ≤ m
is_ge m n h = grind (arith, nat_tests, h)

eq_false : (m n : ℕ) → n < m → (m == n) ≡ false
eq_false m n h = grind (arith, nat_tests, h)

eq_true : (m n : ℕ) → m ≡ n → (m == n) ≡ true
eq_true m n h = grind (arith, nat_tests, h)

is_not_eq : (m n : ℕ) → n ≤ m → (m == n) ≡ false → n < m
is_not_eq m n h e = grind (arith, nat_tests, h, e)

some_length : (n : ℕ) → is_bad_length n ≡ false → 1 ≤ n
some_length n h = grind (arith, nat_tests, h)

-- octets and a front of them
module _ (p q o : List ℕ) (whole : p ++ q ≡ o) where
  same_length : 4 ≤ length p → stated_length o ≡ stated_length p
  same_length h = ap (λ l. stated_length l) (sym whole) ∙ ap (from_be_bytes w32) (take-append-le 4 p q h)

  same_kind : 5 ≤ length p → slice_index o 4 ≡ slice_index p 4
  same_kind h = ap (λ l. slice_index l 4) (sym whole) ∙ get_or_append_left p q 0 4 (omega (arith, h))

  fields_at : (i : ℕ) → 5 ≤ length p → 5 + i < length p → slice_index (drop 5 o) i ≡ slice_index (drop 5 p) i
  fields_at i h k =
      ap (λ l. slice_index (drop 5 l) i) (sym whole) ∙ ap (λ l. slice_index l i) (drop-append-le 5 p q h)
      ∙ get_or_append_left (drop 5 p) q 0 i (omega (arith, length-drop 5 p, k))

  same_word : 48 ≤ length p → has_magic (drop 5 o) ≡ has_magic (drop 5 p)
  same_word h = rw (fields_at 0 (omega (arith, h)) (omega (arith, h)), fields_at 1 (omega (arith, h)) (omega (arith, h)), fields_at 2 (omega (arith, h)) (omega (arith, h)), fields_at 3 (omega (arith, h)) (omega (arith, h))) refl

  same_hello : (n : ℕ) (b : Bool) → (n == 44) ≡ b → 4 + n ≤ length p → ((n == 44) && has_magic (drop 5 o)) ≡ ((n == 44) && has_magic (drop 5 p))
  same_hello n true e h = ap (λ x. (n == 44) && x) (same_word (omega (arith, number_is n 44 e, h)))
  same_hello n false e h = rw e refl

  pub same_fit : (k n : ℕ) → 4 + n ≤ length p → fits_kind k n (drop 5 o) ≡ fits_kind k n (drop 5 p)
  same_fit k n h = ap (λ x. if k == 1 then x else if k == 2 then n == 13 else if k == 3 then nat_lt 21 n else if k == 4 then n == 21 else n == 1) (same_hello n (n == 44) refl h)

  longer : length p ≤ length o
  longer = omega (arith, ap length whole, length-append p q)

  -- ---- a fault that the front shows stays
  stays_by : (a l e k s f : Bool) → nat_lt (length p) 4 ≡ a → is_bad_length (stated_length p) ≡ l → (length p == 4) ≡ e → is_bad_kind (slice_index p 4) ≡ k → nat_lt (length p) (4 + stated_length p) ≡ s → fits_kind (slice_index p 4) (stated_length p) (drop 5 p) ≡ f → (x : FrameFault) → fault_by a l e k s f ≡ Some x → fault_shown o ≡ Some x
  stays_by true l e k s f ea el ee ek es ef x h = cc
  stays_by false true e k s f ea el ee ek es ef x h =
      let n : 4 ≤ length p = is_ge (length p) 4 ea in
      let la = lt_false (length o) 4 (omega (arith, n, longer)) in
      let ll = ap is_bad_length (same_length n) ∙ el in
      fault_at o false true (length o == 4) (is_bad_kind (slice_index o 4)) (nat_lt (length o) (4 + stated_length o)) (fits_kind (slice_index o 4) (stated_length o) (drop 5 o)) la ll refl refl refl refl ∙ h
  stays_by false false true k s f ea el ee ek es ef x h = cc
  stays_by false false false true s f ea el ee ek es ef x h =
      let n : 5 ≤ length p = is_not_eq (length p) 4 (is_ge (length p) 4 ea) ee in
      let la = lt_false (length o) 4 (omega (arith, n, longer)) in
      let ll = ap is_bad_length (same_length (omega (arith, n))) ∙ el in
      let le = eq_false (length o) 4 (omega (arith, n, longer)) in
      let lk = ap is_bad_kind (same_kind n) ∙ ek in
      fault_at o false false false true (nat_lt (length o) (4 + stated_length o)) (fits_kind (slice_index o 4) (stated_length o) (drop 5 o)) la ll le lk refl refl ∙ h
  stays_by false false false false true f ea el ee ek es ef x h = cc
  stays_by false false false false false true ea el ee ek es ef x h = cc
  stays_by false false false false false false ea el ee ek es ef x h =
      let n : 5 ≤ length p = is_not_eq (length p) 4 (is_ge (length p) 4 ea) ee in
      let t = same_length (omega (arith, n)) in
      let m : 4 + stated_length p ≤ length p = is_ge (length p) (4 + stated_length p) es in
      let la = lt_false (length o) 4 (omega (arith, n, longer)) in
      let ll = ap is_bad_length t ∙ el in
      let le = eq_false (length o) 4 (omega (arith, n, longer)) in
      let lk = ap is_bad_kind (same_kind n) ∙ ek in
      let ls = lt_false (length o) (4 + stated_length o) (omega (arith, m, t, longer)) in
      let lf : fits_kind (slice_index o 4) (stated_length o) (drop 5 o) ≡ false = ap (λ y. fits_kind y (stated_length o) (drop 5 o)) (same_kind n) ∙ ap (λ y. fits_kind (slice_index p 4) y (drop 5 o)) t ∙ same_fit (slice_index p 4) (stated_length p) m ∙ ef in
      fault_at o false false false false false false la ll le lk ls lf ∙ h

pub stays : (o more : List ℕ) (x : FrameFault) → fault_shown o ≡ Some x → fault_shown (o ++ more) ≡ Some x
stays o more x h = stays_by o more (o ++ more) refl (nat_lt (length o) 4) (is_bad_length (stated_length o)) (length o == 4) (is_bad_kind (slice_index o 4)) (nat_lt (length o) (4 + stated_length o)) (fits_kind (slice_index o 4) (stated_length o) (drop 5 o)) refl refl refl refl refl refl x h

-- the first n of the octets
module _ (p q o : List ℕ) (whole : p ++ q ≡ o) (n : ℕ) (size : length p ≡ min n (length o)) where
  abbrev Decided : FrameFault → Type 0
  Decided x = fault_shown p ≡ (if nat_lt n (deciding_octets x o) then None else Some x)

  none_below_4 : n < 4 → fault_shown p ≡ None
  none_below_4 h = fault_at p true (is_bad_length (stated_length p)) (length p == 4) (is_bad_kind (slice_index p 4)) (nat_lt (length p) (4 + stated_length p)) (fits_kind (slice_index p 4) (stated_length p) (drop 5 p)) (lt_true (length p) 4 (omega (arith, h, size))) refl refl refl refl refl

  none_at_4 : length p ≡ 4 → is_bad_length (stated_length o) ≡ false → fault_shown p ≡ None
  none_at_4 h el =
      fault_at p false false true (is_bad_kind (slice_index p 4)) (nat_lt (length p) (4 + stated_length p)) (fits_kind (slice_index p 4) (stated_length p) (drop 5 p)) (lt_false (length p) 4 (omega (arith, h)))
      (ap is_bad_length (sym (same_length p q o whole (omega (arith, h)))) ∙ el) (eq_true (length p) 4 h) refl refl refl

  length_by : 4 ≤ length o → is_bad_length (stated_length o) ≡ true → (b : Bool) → nat_lt n 4 ≡ b → fault_shown p ≡ (if b then None else Some BadLength)
  length_by ho el true e = none_below_4 (is_lt n 4 e)
  length_by ho el false e =
      let g = is_ge n 4 e in let m : 4 ≤ length p = omega (arith, g, ho, size) in
      fault_at p false true (length p == 4) (is_bad_kind (slice_index p 4)) (nat_lt (length p) (4 + stated_length p)) (fits_kind (slice_index p 4) (stated_length p) (drop 5 p)) (lt_false (length p) 4 m)
      (ap is_bad_length (sym (same_length p q o whole m)) ∙ el) refl refl refl refl

  kind_by : 5 ≤ length o → is_bad_length (stated_length o) ≡ false → is_bad_kind (slice_index o 4) ≡ true → (b c : Bool) → nat_lt n 5 ≡ b → nat_lt n 4 ≡ c → fault_shown p ≡ (if b then None else Some BadKind)
  kind_by ho el ek true true e d = none_below_4 (is_lt n 4 d)
  kind_by ho el ek true false e d = let g = is_lt n 5 e in let k = is_ge n 4 d in none_at_4 (omega (arith, g, k, ho, size)) el
  kind_by ho el ek false c e d =
      let g = is_ge n 5 e in let m : 5 ≤ length p = omega (arith, g, ho, size) in
      fault_at p false false false true (nat_lt (length p) (4 + stated_length p)) (fits_kind (slice_index p 4) (stated_length p) (drop 5 p)) (lt_false (length p) 4 (omega (arith, m)))
      (ap is_bad_length (sym (same_length p q o whole (omega (arith, m)))) ∙ el) (eq_false (length p) 4 (omega (arith, m))) (ap is_bad_kind (sym (same_kind p q o whole m)) ∙ ek) refl refl

  body_by : 5 ≤ length o → is_bad_length (stated_length o) ≡ false → is_bad_kind (slice_index o 4) ≡ false → 4 + stated_length o ≤ length o → fits_kind (slice_index o 4) (stated_length o) (drop 5 o) ≡ false → (b c d : Bool) → nat_lt n (4 + stated_length o) ≡ b → nat_lt n 4 ≡ c → nat_lt n 5 ≡ d → fault_shown p ≡ (if b then None else Some BadBody)
  body_by ho el ek es ef true true d e1 e2 e3 = none_below_4 (is_lt n 4 e2)
  body_by ho el ek es ef true false true e1 e2 e3 = let g = is_lt n 5 e3 in let k = is_ge n 4 e2 in none_at_4 (omega (arith, g, k, ho, size)) el
  body_by ho el ek es ef true false false e1 e2 e3 =
      let g = is_ge n 5 e3 in let below = is_lt n (4 + stated_length o) e1 in
      let m : 5 ≤ length p = omega (arith, g, ho, size) in
      let t = same_length p q o whole (omega (arith, m)) in
      fault_at p false false false false true (fits_kind (slice_index p 4) (stated_length p) (drop 5 p)) (lt_false (length p) 4 (omega (arith, m)))
      (ap is_bad_length (sym t) ∙ el) (eq_false (length p) 4 (omega (arith, m))) (ap is_bad_kind (sym (same_kind p q o whole m)) ∙ ek) (lt_true (length p) (4 + stated_length p) (omega (arith, below, t, size))) refl
  body_by ho el ek es ef false c d e1 e2 e3 =
      let g = is_ge n (4 + stated_length o) e1 in let least = some_length (stated_length o) el in
      let m : 5 ≤ length p = omega (arith, g, es, least, size) in
      let t = same_length p q o whole (omega (arith, m)) in
      let w : 4 + stated_length p ≤ length p = omega (arith, g, es, t, size) in
      let lf : fits_kind (slice_index p 4) (stated_length p) (drop 5 p) ≡ false = sym (same_fit p q o whole (slice_index p 4) (stated_length p) w) ∙ ap (λ y. fits_kind (slice_index p 4) y (drop 5 o)) (sym t) ∙ ap (λ y. fits_kind y (stated_length o) (drop 5 o)) (sym (same_kind p q o whole m)) ∙ ef in
      fault_at p false false false false false false (lt_false (length p) 4 (omega (arith, m)))
      (ap is_bad_length (sym t) ∙ el) (eq_false (length p) 4 (omega (arith, m))) (ap is_bad_kind (sym (same_kind p q o whole m)) ∙ ek) (lt_false (length p) (4 + stated_length p) w) lf

  decided_by : (a l e k s f : Bool) → nat_lt (length o) 4 ≡ a → is_bad_length (stated_length o) ≡ l → (length o == 4) ≡ e → is_bad_kind (slice_index o 4) ≡ k → nat_lt (length o) (4 + stated_length o) ≡ s → fits_kind (slice_index o 4) (stated_length o) (drop 5 o) ≡ f → (x : FrameFault) → fault_by a l e k s f ≡ Some x → Decided x
  decided_by true l e k s f ea el ee ek es ef x h = cc
  decided_by false true e k s f ea el ee ek es ef x h =
      let g : BadLength ≡ x = cc in
      subst Decided g (length_by (is_ge (length o) 4 ea) el (nat_lt n 4) refl)
  decided_by false false true k s f ea el ee ek es ef x h = cc
  decided_by false false false true s f ea el ee ek es ef x h =
      let g : BadKind ≡ x = cc in
      subst Decided g (kind_by (is_not_eq (length o) 4 (is_ge (length o) 4 ea) ee) el ek (nat_lt n 5) (nat_lt n 4) refl refl)
  decided_by false false false false true f ea el ee ek es ef x h = cc
  decided_by false false false false false true ea el ee ek es ef x h = cc
  decided_by false false false false false false ea el ee ek es ef x h =
      let g : BadBody ≡ x = cc in
      subst Decided g (body_by (is_not_eq (length o) 4 (is_ge (length o) 4 ea) ee) el ek (is_ge (length o) (4 + stated_length o) es) ef (nat_lt n (4 + stated_length o)) (nat_lt n 4) (nat_lt n 5) refl refl refl)

pub decided : (o : List ℕ) (x : FrameFault) → fault_shown o ≡ Some x → (n : ℕ) → fault_shown (take n o) ≡ (if nat_lt n (deciding_octets x o) then None else Some x)
decided o x h n = decided_by (take n o) (drop n o) o (take-append-drop n o) n (length-take n o) (nat_lt (length o) 4) (is_bad_length (stated_length o)) (length o == 4) (is_bad_kind (slice_index o 4)) (nat_lt (length o) (4 + stated_length o)) (fits_kind (slice_index o 4) (stated_length o) (drop 5 o)) refl refl refl refl refl refl x h

some_none : (e : FrameFault) → Some e ≡ None → ⊥
some_none e h = cc

-- octets that show no fault and are not short
module _ (o : List ℕ) (least : 4 ≤ length o) (long : 4 + stated_length o ≤ length o) where
  abbrev Whole : Type 0
  Whole = (is_bad_length (stated_length o) ≡ false) × (is_bad_kind (slice_index o 4) ≡ false) × (fits_kind (slice_index o 4) (stated_length o) (drop 5 o) ≡ true)

  whole_if : (a l e k s f : Bool) → nat_lt (length o) 4 ≡ a → is_bad_length (stated_length o) ≡ l → (length o == 4) ≡ e → is_bad_kind (slice_index o 4) ≡ k → nat_lt (length o) (4 + stated_length o) ≡ s → fits_kind (slice_index o 4) (stated_length o) (drop 5 o) ≡ f → fault_by a l e k s f ≡ None → Whole
  whole_if true l e k s f ea el ee ek es ef h = absurd (omega (arith, is_lt (length o) 4 ea))
  whole_if false true e k s f ea el ee ek es ef h = absurd (some_none BadLength h)
  whole_if false false true k s f ea el ee ek es ef h = absurd (omega (arith, number_is (length o) 4 ee, some_length (stated_length o) el))
  whole_if false false false true s f ea el ee ek es ef h = absurd (some_none BadKind h)
  whole_if false false false false true f ea el ee ek es ef h = absurd (omega (arith, is_lt (length o) (4 + stated_length o) es))
  whole_if false false false false false true ea el ee ek es ef h = (el, ek, ef)
  whole_if false false false false false false ea el ee ek es ef h = absurd (some_none BadBody h)

pub whole_by : (o : List ℕ) → fault_shown o ≡ None → 4 ≤ length o → 4 + stated_length o ≤ length o → (is_bad_length (stated_length o) ≡ false) × (is_bad_kind (slice_index o 4) ≡ false) × (fits_kind (slice_index o 4) (stated_length o) (drop 5 o) ≡ true)
whole_by o none least long = whole_if o least long (nat_lt (length o) 4) (is_bad_length (stated_length o)) (length o == 4) (is_bad_kind (slice_index o 4)) (nat_lt (length o) (4 + stated_length o)) (fits_kind (slice_index o 4) (stated_length o) (drop 5 o)) refl refl refl refl refl refl none
