-- Every stream is frames and a rest.
use Rattle.std.proofs.Common.{◌≡◌, ℕ, zero, suc, ◌+◌, ◌<◌, ◌≤◌, ◌^◌, ◌⊎◌, inl, inr, Bool, true, false, ◌==◌, List, [], ◌∷◌, ◌++◌, All, length, take, drop, get_or, slice_index, Option, Some, None, refl, sym, ap, subst, ◌∙◌, ⊎_elim, append_assoc, length-drop, arith}
use Rattle.std.proofs.lemmas.Bool.{cases_lt}
use Rattle.std.proofs.lemmas.Bool.Decides.{nat_tests}
use Rattle.std.proofs.lemmas.List.{get_or-drop, get_or-take, get_or_past, length-take-le, drop-drop, drop-take, take-append-drop}
use Rattle.std.proofs.lemmas.List.Elements.{All-get_or}
use Rattle.std.proofs.Math.ListN.{drop_of_length-le}
use Rattle.std.specs.Int.{w16, w32, w64, from_be_bytes}
use Rattle.nm_model.proofs.ListLemmas.{number_is}
use Rattle.nm_base.specs.declared.limits.TheConstants.{MAX_BODY_OCTETS}
use Rattle.nm_frames.specs.declared.frame.Frame.{Frame}
use Rattle.nm_frames.specs.declared.frame.Frame.TheVariants.{Bye}
use Rattle.nm_frames.specs.declared.fault.FrameFault.{FrameFault}
use Rattle.nm_frames.specs.Frame.{IsFrame, data_frame, frame_body, frame_octets, have_frame, hello_frame, null_frame, stream_octets}
use Rattle.nm_frames.specs.Stream.{stated_length, fits_kind, fault_shown, is_bad_length, is_bad_kind, IsShort, Splits}
use Rattle.nm_frames.proofs.Parsing.{Octets, octets_between, have_body, null_body, data_body, hello_body, fitting_1, fitting_2, fitting_3, fitting_4, frame_at_front, head_of}
use Rattle.nm_frames.proofs.Deciding.{same_fit, whole_by}

octets_of : (xs : List ℕ) → All (λ x. x < 256) xs → Octets xs
octets_of xs all i = ⊎_elim
    (λ h. All-get_or (λ x. x < 256) xs i 0 h all)
    (λ h. omega (arith, get_or_past xs i 0 h))
    (cases_lt i (length xs))

bound_2 : (xs : List ℕ) → Octets xs → from_be_bytes w16 xs < 2 ^ 16
bound_2 xs small = omega (arith, small 0, small 1)

bound_4 : (xs : List ℕ) → Octets xs → from_be_bytes w32 xs < 2 ^ 32
bound_4 xs small = omega (arith, small 0, small 1, small 2, small 3)

bound_8 : (xs : List ℕ) → Octets xs → from_be_bytes w64 xs < 2 ^ 64
bound_8 xs small = omega (arith, small 0, small 1, small 2, small 3, small 4, small 5, small 6, small 7)

-- the frame with this body
abbrev pub FrameWith : List ℕ → Type 0
FrameWith body = (f : Frame) × (body ≡ frame_body f) × IsFrame f

abbrev at_2 : List ℕ → ℕ → ℕ
at_2 b i = from_be_bytes w16 (take 2 (drop i b))

abbrev at_4 : List ℕ → ℕ → ℕ
at_4 b i = from_be_bytes w32 (take 4 (drop i b))

abbrev at_8 : List ℕ → ℕ → ℕ
at_8 b i = from_be_bytes w64 (take 8 (drop i b))

is_bye : (k n : ℕ) (fields : List ℕ) → k ≡ 5 → fits_kind k n fields ≡ true → n ≡ 1
is_bye k n fields e h = number_is n 1 (subst (λ (x : ℕ). fits_kind x n fields ≡ true) e h)

the_last : (k : ℕ) → 1 ≤ k → k ≤ 5 → (k == 1) ≡ false → (k == 2) ≡ false → (k == 3) ≡ false → (k == 4) ≡ false → k ≡ 5
the_last k least most a b c d = grind (arith, nat_tests, least, most, a, b, c, d)

module _ (b : List ℕ) (small : Octets b) (most : length b ≤ MAX_BODY_OCTETS) (fits : fits_kind (get_or b 0 0) (length b) (drop 1 b) ≡ true) where
  small_2 : (i : ℕ) → at_2 b i < 2 ^ 16
  small_2 i = bound_2 (take 2 (drop i b)) (octets_between b i 2 small)

  small_4 : (i : ℕ) → at_4 b i < 2 ^ 32
  small_4 i = bound_4 (take 4 (drop i b)) (octets_between b i 4 small)

  small_8 : (i : ℕ) → at_8 b i < 2 ^ 64
  small_8 i = bound_8 (take 8 (drop i b)) (octets_between b i 8 small)

  as_hello : get_or b 0 0 ≡ 1 → FrameWith b
  as_hello e =
      let n = fitting_1 (get_or b 0 0) (length b) (drop 1 b) e fits in (
        hello_frame (at_2 b 5) (at_4 b 7) (get_or b 11 0) (drop 12 b),
        hello_body b small (at_2 b 5) (at_4 b 7) (get_or b 11 0) (drop 12 b) (omega (arith, n.0)) e (sym (get_or-drop 1 b 0 0) ∙ n.1) (sym (get_or-drop 1 b 1 0) ∙ n.2) (sym (get_or-drop 1 b 2 0) ∙ n.3) (sym (get_or-drop 1 b 3 0) ∙ n.4) refl refl refl refl,
        (small_2 5, small_4 7, small 11, omega (arith, length-drop 12 b, n.0)),
      )

  as_have : get_or b 0 0 ≡ 2 → FrameWith b
  as_have e =
      let n = fitting_2 (get_or b 0 0) (length b) (drop 1 b) e fits in
      (have_frame (at_4 b 1) (at_8 b 5), have_body b small (at_4 b 1) (at_8 b 5) n e refl refl, (small_4 1, small_8 5))

  as_data : get_or b 0 0 ≡ 3 → FrameWith b
  as_data e =
      let n = fitting_3 (get_or b 0 0) (length b) (drop 1 b) e fits in (
        data_frame (at_4 b 1) (at_8 b 5) (at_8 b 13) (drop 21 b),
        data_body b small (at_4 b 1) (at_8 b 5) (at_8 b 13) (drop 21 b) (omega (arith, n)) e refl refl refl refl,
        (small_4 1, small_8 5, small_8 13, omega (arith, length-drop 21 b, n), omega (arith, length-drop 21 b, most)),
      )

  as_null : get_or b 0 0 ≡ 4 → FrameWith b
  as_null e =
      let n = fitting_4 (get_or b 0 0) (length b) (drop 1 b) e fits in
      (null_frame (at_4 b 1) (at_8 b 5) (at_8 b 13), null_body b small (at_4 b 1) (at_8 b 5) (at_8 b 13) n e refl refl refl, (small_4 1, small_8 5, small_8 13))

  as_bye : get_or b 0 0 ≡ 5 → FrameWith b
  as_bye e =
      let n = is_bye (get_or b 0 0) (length b) (drop 1 b) e fits in
      (Bye, head_of b 5 (omega (arith, n)) e ∙ ap (λ l. 5 ∷ l) (drop_of_length-le b {i = 1} (omega (arith, n))), tt)

  by_kind : (c d e f : Bool) → 1 ≤ get_or b 0 0 → get_or b 0 0 ≤ 5 → (get_or b 0 0 == 1) ≡ c → (get_or b 0 0 == 2) ≡ d → (get_or b 0 0 == 3) ≡ e → (get_or b 0 0 == 4) ≡ f → FrameWith b
  by_kind true d e f lo hi e1 e2 e3 e4 = as_hello (number_is (get_or b 0 0) 1 e1)
  by_kind false true e f lo hi e1 e2 e3 e4 = as_have (number_is (get_or b 0 0) 2 e2)
  by_kind false false true f lo hi e1 e2 e3 e4 = as_data (number_is (get_or b 0 0) 3 e3)
  by_kind false false false true lo hi e1 e2 e3 e4 = as_null (number_is (get_or b 0 0) 4 e4)
  by_kind false false false false lo hi e1 e2 e3 e4 = as_bye (the_last (get_or b 0 0) lo hi e1 e2 e3 e4)

  frame_with : 1 ≤ get_or b 0 0 → get_or b 0 0 ≤ 5 → FrameWith b
  frame_with lo hi = by_kind (get_or b 0 0 == 1) (get_or b 0 0 == 2) (get_or b 0 0 == 3) (get_or b 0 0 == 4) lo hi refl refl refl refl

good_length : (n : ℕ) → is_bad_length n ≡ false → (1 ≤ n) × (n ≤ MAX_BODY_OCTETS)
good_length n h = (grind (arith, nat_tests, h), grind (arith, nat_tests, h))

good_kind : (k : ℕ) → is_bad_kind k ≡ false → (1 ≤ k) × (k ≤ 5)
good_kind k h = (grind (arith, nat_tests, h), grind (arith, nat_tests, h))

-- the frame at the front of octets that show no fault and are not short
front : (o : List ℕ) → Octets o → fault_shown o ≡ None → 4 ≤ length o → 4 + stated_length o ≤ length o → (f : Frame) × IsFrame f × (o ≡ frame_octets f ++ drop (stated_length o) (drop 4 o))
front o small none h long =
    let n = stated_length o in
    let w = whole_by o none h long in
    let size = good_length n w.0 in
    let kind = good_kind (slice_index o 4) w.1 in
    let b = take n (drop 4 o) in
    let p = take (4 + n) o in
    let lb : length b ≡ n = length-take-le n (drop 4 o) (omega (arith, length-drop 4 o)) in
    let lp : length p ≡ 4 + n = length-take-le (4 + n) o long in
    let k : get_or b 0 0 ≡ slice_index o 4 = get_or-take n (drop 4 o) 0 0 size.0 ∙ get_or-drop 4 o 0 0 in
    let fields : drop 5 p ≡ drop 1 b = sym (drop-drop 1 4 p) ∙ ap (drop 1) (drop-take 4 n o) in
    let fits : fits_kind (get_or b 0 0) (length b) (drop 1 b) ≡ true =
    ap (λ x. fits_kind x (length b) (drop 1 b)) k ∙ ap (λ x. fits_kind (slice_index o 4) x (drop 1 b)) lb ∙ ap (λ x. fits_kind (slice_index o 4) n x) (sym fields)
    ∙ sym (same_fit p (drop (4 + n) o) o (take-append-drop (4 + n) o) (slice_index o 4) n (omega (arith, lp))) ∙ w.2 in
    let f = frame_with b (octets_between o 4 n small) (omega (arith, lb, size.1)) fits (omega (arith, k, kind.0)) (omega (arith, k, kind.1)) in
    (f.0, f.2, frame_at_front o b (drop n (drop 4 o)) n f.0 small long refl refl refl f.1)

abbrev pub SplitsSomehow : List ℕ → Type 0
SplitsSomehow o = (fs : List Frame) × (r : List ℕ) × Splits o fs r

step : (o : List ℕ) → Octets o → ((r : List ℕ) → length r < length o → Octets r → SplitsSomehow r) → SplitsSomehow o
step o small more = by_fault (fault_shown o) refl
  where
    whole : fault_shown o ≡ None → 4 ≤ length o → 4 + stated_length o ≤ length o → SplitsSomehow o
    whole none h long =
        let one = front o small none h long in
        let r = drop (stated_length o) (drop 4 o) in
        let rest = more r (omega (arith, length-drop (stated_length o) (drop 4 o), length-drop 4 o)) (λ i. omega (arith, get_or-drop (stated_length o) (drop 4 o) i 0, get_or-drop 4 o (stated_length o + i) 0, small (4 + (stated_length o + i)))) in (
          one.0 ∷ rest.0,
          rest.1,
          record {
            whole = one.2 ∙ ap (λ l. frame_octets one.0 ++ l) rest.2.whole ∙ sym (append_assoc (frame_octets one.0) (stream_octets rest.0) rest.1);
            each = (one.1, rest.2.each);
            ends = rest.2.ends;
          },
        )

    short : IsShort o → fault_shown o ≡ None → SplitsSomehow o
    short is none = ([], o, record { whole = refl; each = tt; ends = inr (none, is) })

    by_length : fault_shown o ≡ None → (4 ≤ length o) ⊎ (length o < 4) → (4 + stated_length o ≤ length o) ⊎ (length o < 4 + stated_length o) → SplitsSomehow o
    by_length none (inr a) b = short (inl a) none
    by_length none (inl a) (inr b) = short (inr b) none
    by_length none (inl a) (inl b) = whole none a b

    either_way : (m n : ℕ) → (n ≤ m) ⊎ (m < n)
    either_way m n = ⊎_elim (λ h. inr h) (λ h. inl h) (cases_lt m n)

    by_fault : (x : Option FrameFault) → fault_shown o ≡ x → SplitsSomehow o
    by_fault (Some e) h = ([], o, record { whole = refl; each = tt; ends = inl (e, h) })
    by_fault None h = by_length h (either_way (length o) 4) (either_way (length o) (4 + stated_length o))

split : (m : ℕ) (o : List ℕ) → length o ≤ m → Octets o → SplitsSomehow o
split zero o h small = step o small (λ r below s. absurd (omega (arith, below, h)))
split (suc m) o h small = step o small (λ r below s. split m r (omega (arith, below, h)) s)

pub splits : (o : List ℕ) → All (λ x. x < 256) o → SplitsSomehow o
splits o all = split (length o) o (omega arith) (octets_of o all)
