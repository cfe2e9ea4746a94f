-- Streams are frames and a rest in one way only.
use Rattle.std.proofs.Common.{◌≡◌, ℕ, ◌+◌, ◌<◌, ◌≤◌, inl, inr, true, false, ◌==◌, nat_lt, List, [], ◌∷◌, ◌++◌, length, take, drop, slice_index, Option, Some, None, refl, sym, ap, subst, ◌∙◌, if◌then◌else◌, append_assoc, length-append, arith}
use Rattle.std.proofs.lemmas.List.{take_at, drop_at}
use Rattle.std.proofs.lemmas.Bool.Decides.{nat_tests}
use Rattle.std.proofs.lemmas.Nat.{from_be_bytes-to_be_bytes_2, from_be_bytes-to_be_bytes_4, from_be_bytes-to_be_bytes_8}
use Rattle.std.specs.Int.{w16, w32, w64, to_be_bytes, from_be_bytes}
use Rattle.std.specs.List.{AllByRecursion}
use Rattle.nm_base.specs.declared.limits.TheConstants.{MAX_BODY_OCTETS}
use Rattle.nm_frames.specs.declared.frame.Frame.{Frame}
use Rattle.nm_frames.specs.declared.frame.Frame.TheVariants.{Hello, Have, Data, Null, Bye}
use Rattle.nm_frames.specs.declared.fault.FrameFault.{FrameFault}
use Rattle.nm_frames.specs.Frame.{IsFrame, data_frame, frame_body, frame_octets, have_frame, hello_frame, null_frame, stream_octets}
use Rattle.nm_frames.specs.Stream.{stated_length, fits_kind, fault_shown, is_bad_length, is_bad_kind, IsShort, IsRest, Splits}

pub body_least : (f : Frame) → IsFrame f → 1 ≤ length (frame_body f)
body_least (Hello h) is = omega arith
body_least (Have h) is = omega arith
body_least (Data d) is = omega arith
body_least (Null n) is = omega arith
body_least Bye is = omega arith

pub body_most : (f : Frame) → IsFrame f → length (frame_body f) ≤ MAX_BODY_OCTETS
body_most (Hello h) is = omega (arith, is.3)
body_most (Have h) is = omega arith
body_most (Data d) is = omega (arith, is.4)
body_most (Null n) is = omega arith
body_most Bye is = omega arith

pub body_fits : (f : Frame) → IsFrame f → (x : List ℕ) → fits_kind (slice_index (frame_body f ++ x) 0) (length (frame_body f)) (drop 1 (frame_body f ++ x)) ≡ true
body_fits (Hello h) is x = rw is.3 refl
body_fits (Have h) is x = refl
body_fits (Data d) is x = let h : 21 < length (frame_body (Data d)) = omega (arith, is.3) in grind (arith, nat_tests, h)
body_fits (Null n) is x = refl
body_fits Bye is x = refl

-- the kind is 1 to 5
pub kind_least : (f : Frame) → (x : List ℕ) → (1 ≤ slice_index (frame_body f ++ x) 0) × (slice_index (frame_body f ++ x) 0 ≤ 5)
kind_least (Hello h) x = (omega arith, omega arith)
kind_least (Have h) x = (omega arith, omega arith)
kind_least (Data d) x = (omega arith, omega arith)
kind_least (Null n) x = (omega arith, omega arith)
kind_least Bye x = (omega arith, omega arith)

abbrev no_fault : Option FrameFault → Type 0
no_fault None = Unit {0}
no_fault (Some e) = ⊥

fault_none : (o : List ℕ) → nat_lt (length o) 4 ≡ false → is_bad_length (stated_length o) ≡ false → is_bad_kind (slice_index o 4) ≡ false → fits_kind (slice_index o 4) (stated_length o) (drop 5 o) ≡ true → fault_shown o ≡ None
fault_none o a b k f = rw (a, b, k, f) (grind arith)

module _ (f : Frame) (is : IsFrame f) (x : List ℕ) where
  pub length_front : length (frame_octets f ++ x) ≡ 4 + length (frame_body f) + length x
  length_front = omega (arith, length-append (frame_body f) x)

  pub stated_front : stated_length (frame_octets f ++ x) ≡ length (frame_body f)
  stated_front = from_be_bytes-to_be_bytes_4 (length (frame_body f)) (omega (arith, body_most f is))

  pub none_front : fault_shown (frame_octets f ++ x) ≡ None
  none_front =
      let o = frame_octets f ++ x in
      let n = length_front in let m = stated_front in let least = body_least f is in let most = body_most f is in let kind = kind_least f x in
      let a : nat_lt (length o) 4 ≡ false = grind (arith, nat_tests, n) in
      let b : is_bad_length (stated_length o) ≡ false = grind (arith, nat_tests, m, least, most) in
      let k : is_bad_kind (slice_index o 4) ≡ false = grind (arith, nat_tests, kind.0, kind.1) in
      let g : fits_kind (slice_index o 4) (stated_length o) (drop 5 o) ≡ true = subst (λ (z : ℕ). fits_kind (slice_index o 4) z (drop 5 o) ≡ true) (sym m) (body_fits f is x) in
      fault_none o a b k g

  pub not_short : IsShort (frame_octets f ++ x) → ⊥
  not_short (inl h) = omega (arith, length_front)
  not_short (inr h) = omega (arith, length_front, stated_front)

  pub not_rest : IsRest (frame_octets f ++ x) → ⊥
  not_rest (inl h) = subst no_fault h.1 (subst no_fault (sym none_front) tt)
  not_rest (inr h) = not_short h.1

-- the frame of these octets
abbrev decoded : List ℕ → Frame
decoded b =
    if slice_index b 0 == 1 then hello_frame (from_be_bytes w16 (take 2 (drop 5 b))) (from_be_bytes w32 (take 4 (drop 7 b))) (slice_index b 11) (drop 12 b)
    else if slice_index b 0 == 2 then have_frame (from_be_bytes w32 (take 4 (drop 1 b))) (from_be_bytes w64 (take 8 (drop 5 b)))
    else if slice_index b 0 == 3 then data_frame (from_be_bytes w32 (take 4 (drop 1 b))) (from_be_bytes w64 (take 8 (drop 5 b))) (from_be_bytes w64 (take 8 (drop 13 b))) (drop 21 b)
    else if slice_index b 0 == 4 then null_frame (from_be_bytes w32 (take 4 (drop 1 b))) (from_be_bytes w64 (take 8 (drop 5 b))) (from_be_bytes w64 (take 8 (drop 13 b)))
    else Bye

decoded-body : (f : Frame) → IsFrame f → decoded (frame_body f) ≡ f
decoded-body (Hello h) is = ap (λ x. hello_frame x (from_be_bytes w32 (to_be_bytes w32 h.partition)) h.replica h.digest) (from_be_bytes-to_be_bytes_2 h.version is.0) ∙ ap (λ x. hello_frame h.version x h.replica h.digest) (from_be_bytes-to_be_bytes_4 h.partition is.1)
decoded-body (Have h) is = ap (λ x. have_frame x (from_be_bytes w64 (to_be_bytes w64 h.count))) (from_be_bytes-to_be_bytes_4 h.channel is.0) ∙ ap (λ x. have_frame h.channel x) (from_be_bytes-to_be_bytes_8 h.count is.1)
decoded-body (Data d) is = ap (λ x. data_frame x (from_be_bytes w64 (to_be_bytes w64 d.number)) (from_be_bytes w64 (to_be_bytes w64 d.time)) d.packet) (from_be_bytes-to_be_bytes_4 d.channel is.0) ∙ ap (λ x. data_frame d.channel x (from_be_bytes w64 (to_be_bytes w64 d.time)) d.packet) (from_be_bytes-to_be_bytes_8 d.number is.1) ∙ ap (λ x. data_frame d.channel d.number x d.packet) (from_be_bytes-to_be_bytes_8 d.time is.2)
decoded-body (Null n) is = ap (λ x. null_frame x (from_be_bytes w64 (to_be_bytes w64 n.count)) (from_be_bytes w64 (to_be_bytes w64 n.clock))) (from_be_bytes-to_be_bytes_4 n.channel is.0) ∙ ap (λ x. null_frame n.channel x (from_be_bytes w64 (to_be_bytes w64 n.clock))) (from_be_bytes-to_be_bytes_8 n.count is.1) ∙ ap (λ x. null_frame n.channel n.count x) (from_be_bytes-to_be_bytes_8 n.clock is.2)
decoded-body Bye is = refl

-- no frame's octets begin another's
pub one_front : (f g : Frame) (x y : List ℕ) → IsFrame f → IsFrame g → frame_octets f ++ x ≡ frame_octets g ++ y → (f ≡ g) × (x ≡ y)
one_front f g x y is js e =
    let n : length (frame_body f) ≡ length (frame_body g) = sym (stated_front f is x) ∙ ap stated_length e ∙ stated_front g js y in
    let m : length (frame_octets f) ≡ length (frame_octets g) = omega (arith, n) in
    let same : frame_octets f ≡ frame_octets g = sym (take_at (frame_octets f) x (length (frame_octets f)) refl) ∙ ap (take (length (frame_octets f))) e ∙ take_at (frame_octets g) y (length (frame_octets f)) (sym m) in
    let rest : x ≡ y = sym (drop_at (frame_octets f) x (length (frame_octets f)) refl) ∙ ap (drop (length (frame_octets f))) e ∙ drop_at (frame_octets g) y (length (frame_octets f)) (sym m) in
    let body : frame_body f ≡ frame_body g = ap (drop 4) same in
    (sym (decoded-body f is) ∙ ap decoded body ∙ decoded-body g js, rest)

cons_front : (f : Frame) (fs : List Frame) (r : List ℕ) → stream_octets (f ∷ fs) ++ r ≡ frame_octets f ++ (stream_octets fs ++ r)
cons_front f fs r = append_assoc (frame_octets f) (stream_octets fs) r

pub one_split : (fs gs : List Frame) (r q : List ℕ) → AllByRecursion IsFrame fs → AllByRecursion IsFrame gs → IsRest r → IsRest q → stream_octets fs ++ r ≡ stream_octets gs ++ q → (fs ≡ gs) × (r ≡ q)
one_split [] [] r q is js ir iq e = (refl, e)
one_split [] (g ∷ gs) r q is js ir iq e = absurd (not_rest g js.0 (stream_octets gs ++ q) (subst IsRest (e ∙ cons_front g gs q) ir))
one_split (f ∷ fs) [] r q is js ir iq e = absurd (not_rest f is.0 (stream_octets fs ++ r) (subst IsRest (sym e ∙ cons_front f fs r) iq))
one_split (f ∷ fs) (g ∷ gs) r q is js ir iq e =
    let one = one_front f g (stream_octets fs ++ r) (stream_octets gs ++ q) is.0 js.0 (sym (cons_front f fs r) ∙ e ∙ cons_front g gs q) in
    let more = one_split fs gs r q is.1 js.1 ir iq one.1 in
    (ap (λ h. h ∷ fs) one.0 ∙ ap (λ l. g ∷ l) more.0, more.1)

pub one_splitting : (stream : List ℕ) (fs gs : List Frame) (r q : List ℕ) → Splits stream fs r → Splits stream gs q → (fs ≡ gs) × (r ≡ q)
one_splitting stream fs gs r q one two = one_split fs gs r q one.each two.each one.ends two.ends (sym one.whole ∙ two.whole)
