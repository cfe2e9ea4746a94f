-- Messages in blocks.
use Rattle.std.proofs.Common.{◌≡◌, ℕ, zero, suc, ◌+◌, ◌*◌, ◌-◌, ◌/◌, ◌%◌, ◌^◌, ◌<◌, ◌≤◌, List, [], ◌∷◌, ◌++◌, length, map, get_or, append_assoc, append-nil, length-append, subst, refl, sym, ap, ap₂, ◌∙◌, arith}
use Rattle.std.specs.Arc.{arc_value}
use Rattle.std.specs.declared.sync.Arc.{Arc}
use Rattle.std.specs.declared.vec.Vec.{Vec}
use Rattle.std.specs.List.{flat_map, AllByRecursion, AllZip}
use Rattle.nm_model.specs.Lists.{nth}
use Rattle.nm_model.proofs.ListLemmas.{nth_append}
use Rattle.nm_knowledge.specs.Blocks.{messages_in, in_blocks, AreBlocks}

nth_skip : {A : Type 0} (xs ys : List A) (n : ℕ) → length xs ≤ n → nth (xs ++ ys) n ≡ nth ys (n - length xs)
nth_skip [] ys n h = ap (nth ys) (omega arith)
nth_skip (x ∷ xs) ys zero h = absurd (omega arith)
nth_skip (x ∷ xs) ys (suc n) h = nth_skip xs ys n (omega arith) ∙ ap (nth ys) (omega arith)

one_more : {A : Type 0} (ks : List (List A)) (k : List A) → flat_map (λ (k : List A). k) (ks ++ k ∷ []) ≡ flat_map (λ (k : List A). k) ks ++ k
one_more {A = A} [] k = append-nil k
one_more {A = A} (j ∷ ks) k = ap (λ z. j ++ z) (one_more ks k) ∙ sym (append_assoc j (flat_map (λ (k : List A). k) ks) k)

each_more : {A : Type 0} (ks : List (List A)) (k : List A) → AllByRecursion (λ (k : List A). length k ≡ 256) ks → length k ≡ 256 → AllByRecursion (λ (k : List A). length k ≡ 256) (ks ++ k ∷ [])
each_more [] k e h = (h, tt)
each_more (j ∷ ks) k e h = (e.0, each_more ks k e.1 h)

module _ {A Y Z : Type 0} where
  abbrev pub Each : List (Arc (Vec A Y) Z) → Type 0
  Each bs = AllByRecursion (λ b. length (messages_in b) ≡ 256) bs

  pub length_full : (bs : List (Arc (Vec A Y) Z)) → Each bs → length (flat_map messages_in bs) ≡ length bs * 256
  length_full [] e = refl
  length_full (b ∷ bs) e =
      let here = e.0 in
      let rest = length_full bs e.1 in
      length-append (messages_in b) (flat_map messages_in bs) ∙ omega (arith, here, rest)

  pub length_blocks : (bs : List (Arc (Vec A Y) Z)) (l : List A) → Each bs → length (in_blocks bs l) ≡ length bs * 256 + length l
  length_blocks bs l e = length-append (flat_map messages_in bs) l ∙ ap (λ n. n + length l) (length_full bs e)

  -- message r of block q
  nth_of_block : (bs : List (Arc (Vec A Y) Z)) (l : List A) (q r : ℕ) (b : Arc (Vec A Y) Z) → Each bs → q < length bs → r < 256 → b ≡ get_or bs q b
      → nth (in_blocks bs l) (q * 256 + r) ≡ nth (messages_in b) r
  nth_of_block [] l q r b e h i is = absurd (omega arith)
  nth_of_block (c ∷ bs) l zero r b e h i is =
      let here = e.0 in
      ap (λ k. nth k (0 * 256 + r)) (append_assoc (messages_in c) (flat_map messages_in bs) l)
      ∙ nth_append (messages_in c) (in_blocks bs l) (0 * 256 + r) (omega (arith, here))
      ∙ ap₂ (λ z n. nth (messages_in z) n) (sym is) (omega arith)
  nth_of_block (c ∷ bs) l (suc q) r b e h i is =
      let here = e.0 in
      ap (λ k. nth k (suc q * 256 + r)) (append_assoc (messages_in c) (flat_map messages_in bs) l)
      ∙ nth_skip (messages_in c) (in_blocks bs l) (suc q * 256 + r) (omega (arith, here))
      ∙ ap (nth (in_blocks bs l)) (omega (arith, here))
      ∙ nth_of_block bs l q r b e.1 (omega arith) i is

  pub nth_full : (bs : List (Arc (Vec A Y) Z)) (l : List A) (n : ℕ) (b : Arc (Vec A Y) Z) → Each bs → n / 256 < length bs → b ≡ get_or bs (n / 256) b
      → nth (in_blocks bs l) n ≡ nth (messages_in b) (n % 256)
  nth_full bs l n b e h is =
      let split : n ≡ n / 256 * 256 + n % 256 = omega arith in
      ap (nth (in_blocks bs l)) split ∙ nth_of_block bs l (n / 256) (n % 256) b e h (omega arith) is

  pub nth_rest : (bs : List (Arc (Vec A Y) Z)) (l : List A) (n : ℕ) → Each bs → length bs ≤ n / 256 → nth (in_blocks bs l) n ≡ nth l (n - length bs * 256)
  nth_rest bs l n e h =
      let count = length_full bs e in
      nth_skip (flat_map messages_in bs) l n (omega (arith, count)) ∙ ap (λ m. nth l (n - m)) count

  -- clones of blocks have their messages
  same_messages : (bs cs : List (Arc (Vec A Y) Z)) → AllZip (λ b c. arc_value c ≡ arc_value b) bs cs → map messages_in cs ≡ map messages_in bs
  same_messages [] [] h = refl
  same_messages [] (c ∷ cs) h = absurd h
  same_messages (b ∷ bs) [] h = absurd h
  same_messages (b ∷ bs) (c ∷ cs) h = ap₂ (λ v k. v ∷ k) (ap (λ v. v.items) h.0) (same_messages bs cs h.1)

  flat_of : (bs : List (Arc (Vec A Y) Z)) → flat_map messages_in bs ≡ flat_map (λ (k : List A). k) (map messages_in bs)
  flat_of [] = refl
  flat_of (b ∷ bs) = ap (λ k. messages_in b ++ k) (flat_of bs)

  each_of : (bs : List (Arc (Vec A Y) Z)) → Each bs → AllByRecursion (λ (k : List A). length k ≡ 256) (map messages_in bs)
  each_of [] e = tt
  each_of (b ∷ bs) e = (e.0, each_of bs e.1)

  each_from : (bs : List (Arc (Vec A Y) Z)) → AllByRecursion (λ (k : List A). length k ≡ 256) (map messages_in bs) → Each bs
  each_from [] e = tt
  each_from (b ∷ bs) e = (e.0, each_from bs e.1)

  pub none_blocks : (bs : List (Arc (Vec A Y) Z)) (l : List A) → bs ≡ [] → l ≡ [] → AreBlocks bs l
  none_blocks bs l e f = subst (λ k. AreBlocks k l) (sym e) (subst (λ k. AreBlocks {Y = Y} {Z = Z} [] k) (sym f) record { each = tt; fits = omega arith; most = omega arith })

  -- a copy
  pub copied : (bs cs : List (Arc (Vec A Y) Z)) (l m : List A) → AreBlocks bs l → AllZip (λ b c. arc_value c ≡ arc_value b) bs cs → m ≡ l
      → AreBlocks cs m × (in_blocks cs m ≡ in_blocks bs l)
  copied bs cs l m h zip is =
      let same = same_messages bs cs zip in
      let all = ap₂ (λ k j. k ++ j) (flat_of cs ∙ ap (flat_map (λ (k : List A). k)) same ∙ sym (flat_of bs)) is in
      let count = ap length all in
      let fits = h.fits in
      let most = h.most in (
        record {
          each = each_from cs (subst (AllByRecursion (λ (k : List A). length k ≡ 256)) (sym same) (each_of bs h.each));
          fits = omega (arith, ap length is, fits);
          most = omega (arith, count, most);
        },
        all,
      )

  -- the last block, which is full, behind the others
  pub sealed : (bs cs : List (Arc (Vec A Y) Z)) (l m : List A) → AreBlocks bs l → length l ≡ 256 → map messages_in cs ≡ map messages_in bs ++ l ∷ [] → m ≡ []
      → AreBlocks cs m × (in_blocks cs m ≡ in_blocks bs l)
  sealed bs cs l m h full more is =
      let all = ap₂ (λ k j. k ++ j) (flat_of cs ∙ ap (flat_map (λ (k : List A). k)) more ∙ one_more (map messages_in bs) l ∙ ap (λ k. k ++ l) (sym (flat_of bs))) is
      ∙ append-nil (in_blocks bs l) in
      let count = ap length all in
      let most = h.most in (
        record {
          each = each_from cs (subst (AllByRecursion (λ (k : List A). length k ≡ 256)) (sym more) (each_more (map messages_in bs) l (each_of bs h.each) full));
          fits = omega (arith, ap length is);
          most = omega (arith, count, most);
        },
        all,
      )

  -- a message behind the others
  pub pushed : (bs : List (Arc (Vec A Y) Z)) (l m : List A) (x : A) → AreBlocks bs l → length l < 256 → length (in_blocks bs l) < 2 ^ 50 → m ≡ l ++ x ∷ []
      → AreBlocks bs m × (in_blocks bs m ≡ in_blocks bs l ++ x ∷ [])
  pushed bs l m x h below room is =
      let all = ap (λ k. flat_map messages_in bs ++ k) is ∙ sym (append_assoc (flat_map messages_in bs) l (x ∷ [])) in
      let count = ap length all ∙ length-append (in_blocks bs l) (x ∷ []) in
      let longer = ap length is ∙ length-append l (x ∷ []) in (
        record { each = h.each; fits = omega (arith, longer, below); most = omega (arith, count, room) },
        all,
      )
