-- The fields of a frame, from its octets.
use Rattle.std.proofs.Common.{true, ◌==◌, ◌&&◌, nat_lt, subst, rules, ◌≡◌, ℕ, ◌+◌, ◌-◌, ◌<◌, ◌≤◌, List, ◌∷◌, ◌++◌, length, take, drop, get_or, refl, sym, ap, ◌∙◌, ⊎_elim, arith}
use Rattle.std.proofs.lemmas.List.{get_or-drop, get_or-take, get_or_past, drop_more, take-append-drop, drop-drop, length-take, length-take-le, length-drop}
use Rattle.std.proofs.Math.ListN.{drop_of_length-le}
use Rattle.std.proofs.Math.Seq.{take-length}
use Rattle.std.proofs.lemmas.Bool.{cases_lt}
use Rattle.std.proofs.lemmas.Bool.Decides.{nat_tests}
use Rattle.std.proofs.lemmas.Nat.{be_bytes_2, be_bytes_4, be_bytes_8}
use Rattle.std.specs.Int.{w16, w32, w64, to_be_bytes, from_be_bytes}
use Rattle.nm_frames.specs.declared.frame.Frame.{Frame}
use Rattle.nm_frames.specs.Frame.{data_frame, frame_body, frame_octets, have_frame, hello_frame, null_frame}
use Rattle.nm_frames.specs.Reader.{StandsAt}
use Rattle.nm_frames.specs.Stream.{has_magic, fits_kind, stated_length}

abbrev pub Octets : List ℕ → Type 0
Octets xs = (i : ℕ) → get_or xs i 0 < 256

pub octets_between : (xs : List ℕ) (i k : ℕ) → Octets xs → Octets (take k (drop i xs))
octets_between xs i k small j = ⊎_elim
    (λ h. omega (arith, get_or-take k (drop i xs) j 0 h, get_or-drop i xs j 0, small (i + j)))
    (λ h. omega (arith, get_or_past (take k (drop i xs)) j 0 (omega (arith, length-take k (drop i xs)))))
    (cases_lt j k)

length_between : (xs : List ℕ) (i k : ℕ) → i + k ≤ length xs → length (take k (drop i xs)) ≡ k
length_between xs i k h = length-take-le k (drop i xs) (omega (arith, length-drop i xs))

-- the octets from a place are a field and the octets after it
parts : (xs : List ℕ) (i k : ℕ) (f : List ℕ) → f ≡ take k (drop i xs) → drop i xs ≡ f ++ drop (i + k) xs
parts xs i k f e = sym (take-append-drop k (drop i xs)) ∙ ap (λ l. l ++ drop k (drop i xs)) (sym e) ∙ ap (λ l. f ++ l) (drop_both xs i k)
  where
    drop_both : (xs : List ℕ) (i k : ℕ) → drop k (drop i xs) ≡ drop (i + k) xs
    drop_both xs i k = drop-drop k i xs

pub field_2 : (xs : List ℕ) (i n : ℕ) → Octets xs → i + 2 ≤ length xs → n ≡ from_be_bytes w16 (take 2 (drop i xs)) → drop i xs ≡ to_be_bytes w16 n ++ drop (i + 2) xs
field_2 xs i n small h e = parts xs i 2 (to_be_bytes w16 n) (be_bytes_2 (take 2 (drop i xs)) n (length_between xs i 2 h) (octets_between xs i 2 small) e)

pub field_4 : (xs : List ℕ) (i n : ℕ) → Octets xs → i + 4 ≤ length xs → n ≡ from_be_bytes w32 (take 4 (drop i xs)) → drop i xs ≡ to_be_bytes w32 n ++ drop (i + 4) xs
field_4 xs i n small h e = parts xs i 4 (to_be_bytes w32 n) (be_bytes_4 (take 4 (drop i xs)) n (length_between xs i 4 h) (octets_between xs i 4 small) e)

pub field_8 : (xs : List ℕ) (i n : ℕ) → Octets xs → i + 8 ≤ length xs → n ≡ from_be_bytes w64 (take 8 (drop i xs)) → drop i xs ≡ to_be_bytes w64 n ++ drop (i + 8) xs
field_8 xs i n small h e = parts xs i 8 (to_be_bytes w64 n) (be_bytes_8 (take 8 (drop i xs)) n (length_between xs i 8 h) (octets_between xs i 8 small) e)

-- a slice to the end
pub tail_is : (xs : List ℕ) (i : ℕ) → take (length xs - i) (drop i xs) ≡ drop i xs
tail_is xs i = ap (λ n. take n (drop i xs)) (sym (length-drop i xs)) ∙ take-length (drop i xs)

pub head_of : (xs : List ℕ) (k : ℕ) → 1 ≤ length xs → get_or xs 0 0 ≡ k → xs ≡ k ∷ drop 1 xs
head_of xs k h e = drop_more xs 0 0 (omega arith) ∙ ap (λ x. x ∷ drop 1 xs) e

module _ (xs : List ℕ) (small : Octets xs) where
  two : (c n k : ℕ) → 13 ≤ length xs → get_or xs 0 0 ≡ k → c ≡ from_be_bytes w32 (take 4 (drop 1 xs)) → n ≡ from_be_bytes w64 (take 8 (drop 5 xs)) → xs ≡ k ∷ to_be_bytes w32 c ++ (to_be_bytes w64 n ++ drop 13 xs)
  two c n k h kind ec en =
      let h1 = field_4 xs 1 c small (omega arith) ec in
      let h5 = field_8 xs 5 n small (omega arith) en in
      head_of xs k (omega arith) kind ∙ ap (λ l. k ∷ l) (h1 ∙ ap (λ l. to_be_bytes w32 c ++ l) h5)

  pub have_body : (c n : ℕ) → length xs ≡ 13 → get_or xs 0 0 ≡ 2 → c ≡ from_be_bytes w32 (take 4 (drop 1 xs)) → n ≡ from_be_bytes w64 (take 8 (drop 5 xs)) → xs ≡ frame_body (have_frame c n)
  have_body c n h kind ec en = two c n 2 (omega arith) kind ec en ∙ ap (λ l. 2 ∷ to_be_bytes w32 c ++ (to_be_bytes w64 n ++ l)) (drop_of_length-le xs {i = 13} (omega arith))

  pub null_body : (c n t : ℕ) → length xs ≡ 21 → get_or xs 0 0 ≡ 4 → c ≡ from_be_bytes w32 (take 4 (drop 1 xs)) → n ≡ from_be_bytes w64 (take 8 (drop 5 xs)) → t ≡ from_be_bytes w64 (take 8 (drop 13 xs)) → xs ≡ frame_body (null_frame c n t)
  null_body c n t h kind ec en et =
      let h13 = field_8 xs 13 t small (omega arith) et ∙ ap (λ l. to_be_bytes w64 t ++ l) (drop_of_length-le xs {i = 21} (omega arith)) in
      two c n 4 (omega arith) kind ec en ∙ ap (λ l. 4 ∷ to_be_bytes w32 c ++ (to_be_bytes w64 n ++ l)) h13

  pub data_body : (c n t : ℕ) (p : List ℕ) → 21 ≤ length xs → get_or xs 0 0 ≡ 3 → c ≡ from_be_bytes w32 (take 4 (drop 1 xs)) → n ≡ from_be_bytes w64 (take 8 (drop 5 xs)) → t ≡ from_be_bytes w64 (take 8 (drop 13 xs)) → p ≡ drop 21 xs → xs ≡ frame_body (data_frame c n t p)
  data_body c n t p h kind ec en et ep =
      let h13 = field_8 xs 13 t small (omega arith) et ∙ ap (λ l. to_be_bytes w64 t ++ l) (sym ep) in
      two c n 3 (omega arith) kind ec en ∙ ap (λ l. 3 ∷ to_be_bytes w32 c ++ (to_be_bytes w64 n ++ l)) h13

  pub hello_body : (v p r : ℕ) (d : List ℕ) → 12 ≤ length xs → get_or xs 0 0 ≡ 1 → get_or xs 1 0 ≡ 0x4e → get_or xs 2 0 ≡ 0x4d → get_or xs 3 0 ≡ 0x53 → get_or xs 4 0 ≡ 0x31 → v ≡ from_be_bytes w16 (take 2 (drop 5 xs)) → p ≡ from_be_bytes w32 (take 4 (drop 7 xs)) → r ≡ get_or xs 11 0 → d ≡ drop 12 xs → xs ≡ frame_body (hello_frame v p r d)
  hello_body v p r d h k0 k1 k2 k3 k4 ev ep er ed =
      let e1 : drop 1 xs ≡ 0x4e ∷ drop 2 xs = drop_more xs 1 0 (omega arith) ∙ ap (λ x. x ∷ drop 2 xs) k1 in
      let e2 : drop 2 xs ≡ 0x4d ∷ drop 3 xs = drop_more xs 2 0 (omega arith) ∙ ap (λ x. x ∷ drop 3 xs) k2 in
      let e3 : drop 3 xs ≡ 0x53 ∷ drop 4 xs = drop_more xs 3 0 (omega arith) ∙ ap (λ x. x ∷ drop 4 xs) k3 in
      let e4 : drop 4 xs ≡ 0x31 ∷ drop 5 xs = drop_more xs 4 0 (omega arith) ∙ ap (λ x. x ∷ drop 5 xs) k4 in
      let e5 = field_2 xs 5 v small (omega arith) ev in
      let e7 = field_4 xs 7 p small (omega arith) ep in
      let e11 : drop 11 xs ≡ r ∷ d = drop_more xs 11 0 (omega arith) ∙ ap (λ x. x ∷ drop 12 xs) (sym er) ∙ ap (λ l. r ∷ l) (sym ed) in
      let s5 : drop 5 xs ≡ to_be_bytes w16 v ++ (to_be_bytes w32 p ++ r ∷ d) = e5 ∙ ap (λ l. to_be_bytes w16 v ++ l) (e7 ∙ ap (λ l. to_be_bytes w32 p ++ l) e11) in
      let s1 : drop 1 xs ≡ 0x4e ∷ 0x4d ∷ 0x53 ∷ 0x31 ∷ drop 5 xs = e1 ∙ ap (λ l. 0x4e ∷ l) (e2 ∙ ap (λ l. 0x4d ∷ l) (e3 ∙ ap (λ l. 0x53 ∷ l) e4)) in
      head_of xs 1 (omega arith) k0 ∙ ap (λ l. 1 ∷ l) (s1 ∙ ap (λ l. 0x4e ∷ 0x4d ∷ 0x53 ∷ 0x31 ∷ l) s5)

-- what a length that fits its kind says
fitting_at : (k j n : ℕ) (fields : List ℕ) → k ≡ j → fits_kind k n fields ≡ true → fits_kind j n fields ≡ true
fitting_at k j n fields e h = subst (λ (x : ℕ). fits_kind x n fields ≡ true) e h

pub fitting_2 : (k n : ℕ) (fields : List ℕ) → k ≡ 2 → fits_kind k n fields ≡ true → n ≡ 13
fitting_2 k n fields e h = let f : (n == 13) ≡ true = fitting_at k 2 n fields e h in grind (arith, nat_tests, f)

pub fitting_3 : (k n : ℕ) (fields : List ℕ) → k ≡ 3 → fits_kind k n fields ≡ true → 21 < n
fitting_3 k n fields e h = let f : nat_lt 21 n ≡ true = fitting_at k 3 n fields e h in search (rules, f)

pub fitting_4 : (k n : ℕ) (fields : List ℕ) → k ≡ 4 → fits_kind k n fields ≡ true → n ≡ 21
fitting_4 k n fields e h = let f : (n == 21) ≡ true = fitting_at k 4 n fields e h in grind (arith, nat_tests, f)

pub fitting_1 : (k n : ℕ) (fields : List ℕ) → k ≡ 1 → fits_kind k n fields ≡ true → (n ≡ 44) × (get_or fields 0 0 ≡ 0x4e) × (get_or fields 1 0 ≡ 0x4d) × (get_or fields 2 0 ≡ 0x53) × (get_or fields 3 0 ≡ 0x31)
fitting_1 k n fields e h =
    let f : ((n == 44) && has_magic fields) ≡ true = fitting_at k 1 n fields e h in
    (grind (arith, nat_tests), grind (arith, nat_tests), grind (arith, nat_tests), grind (arith, nat_tests), grind (arith, nat_tests))

-- a length, so many octets, and what follows them
pub frame_at_front : (xs body rest : List ℕ) (n : ℕ) (f : Frame) → Octets xs → 4 + n ≤ length xs → n ≡ from_be_bytes w32 (take 4 (drop 0 xs)) → body ≡ take n (drop 4 xs) → rest ≡ drop n (drop 4 xs) → body ≡ frame_body f → xs ≡ frame_octets f ++ rest
frame_at_front xs body rest n f small h en eb er ef =
    let size : n ≡ length (frame_body f) = sym (length-take-le n (drop 4 xs) (omega (arith, length-drop 4 xs))) ∙ ap length (sym eb ∙ ef) in
    let after : drop 4 xs ≡ frame_body f ++ rest = sym (take-append-drop n (drop 4 xs)) ∙ ap (λ l. l ++ drop n (drop 4 xs)) (sym eb ∙ ef) ∙ ap (λ l. frame_body f ++ l) (sym er) in
    let front : xs ≡ to_be_bytes w32 n ++ drop 4 xs = field_4 xs 0 n small (omega arith) en in
    front ∙ ap (λ l. to_be_bytes w32 n ++ l) after ∙ ap (λ m. to_be_bytes w32 m ++ (frame_body f ++ rest)) size

-- ---- a frame at a place of a block
module _ (block o : List ℕ) (at n : ℕ) (is : o ≡ drop at block) (fits : 4 + n ≤ length o) where
  after_length : drop 4 o ≡ drop (at + 4) block
  after_length = ap (λ l. drop 4 l) is ∙ drop-drop 4 at block

  -- its octets after the length
  pub body_stands : (k : ℕ) → at ≤ length block → k ≡ n → StandsAt block (at + 4) (take k (drop 4 o))
  body_stands k within same =
      let long = ap length is ∙ length-drop at block in
      let size : length (take k (drop 4 o)) ≡ k = length-take-le k (drop 4 o) (omega (arith, length-drop 4 o, same, fits)) in
      (omega (arith, size, same, long, fits, within), ap (λ m. take m (drop (at + 4) block)) size ∙ ap (λ l. take k l) (sym after_length))

  -- and what follows it
  pub frame_stands : (k : ℕ) (f : Frame) → Octets o → n ≡ stated_length o → k ≡ n → take k (drop 4 o) ≡ frame_body f → drop at block ≡ frame_octets f ++ drop (at + 4 + n) block
  frame_stands k f small stated same body =
      sym is ∙ frame_at_front o (take k (drop 4 o)) (drop n (drop 4 o)) n f small fits stated (ap (λ m. take m (drop 4 o)) same) refl body
      ∙ ap (λ l. frame_octets f ++ l) (ap (λ l. drop n l) after_length ∙ drop-drop n (at + 4) block)
