-- Files that are made, one after another.
use Rattle.std.proofs.Common.{◌≡◌, ℕ, ◌+◌, Bool, true, false, None, List, [], ◌∷◌, ◌++◌, length, map, take, Option, Some, refl, sym, ◌∙◌, ap, subst, arith, append-nil, slice_get}
use Rattle.std.specs.Io.KnownBytes.{Appends}
use Rattle.std.specs.List.{enumerate_from, flat_map}
use Rattle.std.specs.Option.{option_to_list}
use Rattle.std.proofs.lemmas.Bool.{true≢false}
use Rattle.std.proofs.lemmas.List.{append_assoc, map-append, take_all}
use Rattle.std.proofs.lemmas.Option.{slice_get_within, get_or_from_slice_get}
use Rattle.nm_base.proofs.Numbered.{numbered_more}
use Rattle.nm_files.specs.Outputs.{AreWhole, Files, HasMade, HasMadeSome, HasPlaced, IsClosed, IsEmpty, IsWhole}

-- closed files of one more element of a list
pub whole_more : {X C : Type 0} (closed : C → Option (List ℕ × List ℕ)) (f : ℕ × X → Files) (xs : List X) (n : ℕ) (x : X) (made : Option Files) (old new : List C) (o : Option C)
    → slice_get xs n ≡ Some x → new ≡ old ++ option_to_list o → AreWhole made (map closed (option_to_list o)) (f (n, x))
    → AreWhole made (map closed old) (flat_map f (enumerate_from 0 (take n xs))) → AreWhole made (map closed new) (flat_map f (enumerate_from 0 (take (n + 1) xs)))
whole_more closed f xs n x made old new o is more one so_far first told =
    ap (map closed) more ∙ map-append closed old (option_to_list o)
    ∙ ap (λ l. l ++ map closed (option_to_list o)) (so_far first told)
    ∙ ap (λ l. map (λ file. Some file) (flat_map f (enumerate_from 0 (take n xs))) ++ l) (one first told)
    ∙ sym (map-append (λ file. Some file) (flat_map f (enumerate_from 0 (take n xs))) (f (n, x)))
    ∙ ap (map (λ file. Some file)) (sym (numbered_more f xs n x (slice_get_within xs n x is) (sym (get_or_from_slice_get xs n x x is))))

pub all_whole : {X : Type 0} (f : ℕ × X → Files) (xs : List X) (n : ℕ) (made : Option Files) (closed : List (Option (List ℕ × List ℕ))) → n ≡ length xs
    → AreWhole made closed (flat_map f (enumerate_from 0 (take n xs))) → AreWhole made closed (flat_map f (enumerate_from 0 xs))
all_whole f xs n made closed all whole = subst (λ l. AreWhole made closed (flat_map f (enumerate_from 0 l))) (take_all n xs (omega (arith, all))) whole

-- files were made, and behind them others
pub made_more : (before mid after : Option Files) (files more : Files) → HasMade before mid files → HasMade mid after more → HasMade before after (files ++ more)
made_more before mid after files more first then first_files is = then (first_files ++ files) (first first_files is) ∙ ap (λ l. Some l) (append_assoc first_files files more)

-- or only the first of these
pub made_some_more : (before mid after : Option Files) (files more : Files) → HasMade before mid files → HasMadeSome mid after more → HasMadeSome before after (files ++ more)
made_some_more before mid after files more first then first_files is =
    let some = then (first_files ++ files) (first first_files is) in
    (files ++ some.0, some.1, ap (λ l. files ++ l) some.2 ∙ sym (append_assoc files some.0 some.1), some.3 ∙ ap (λ l. Some l) (append_assoc first_files files some.0))

-- the first of files are the first of these and others
pub made_some_of : (before after : Option Files) (files more : Files) → HasMadeSome before after files → HasMadeSome before after (files ++ more)
made_some_of before after files more some first_files is =
    let s = some first_files is in
    (s.0, s.1 ++ more, ap (λ l. l ++ more) s.2 ∙ append_assoc s.0 s.1 more, s.3)

abbrev octets_in : Option (List ℕ) → List ℕ
octets_in None = []
octets_in (Some octets) = octets

abbrev is_told : Option (List ℕ) → Bool
is_told None = false
is_told (Some octets) = true

pub appended : (old new : Option (List ℕ)) (octets first : List ℕ) → Appends old new octets → old ≡ Some first → new ≡ Some (first ++ octets)
appended None new octets first h is = absurd (true≢false (sym (ap is_told is)))
appended (Some xs) None octets first h is = absurd h
appended (Some xs) (Some ys) octets first h is = ap (λ l. Some l) (h ∙ ap (λ l. l ++ octets) (ap octets_in is))

-- Octets were written to a file that was made, and it was closed whole.
pub closed_whole : (made : Option Files) (name octets : List ℕ) (empty full : Option (List ℕ)) (closed : Option (List ℕ × List ℕ)) → IsEmpty made empty
    → Appends empty full octets → IsClosed name full closed → IsWhole made closed (name, octets)
closed_whole made name octets empty full closed is wrote whole = λ files told. whole octets (appended empty full octets [] wrote (is files told))

-- Of closed files these are left, and those before them were placed.
abbrev pub ArePlaced : Option Files → Option Files → List (Option (List ℕ × List ℕ)) → List (Option (List ℕ × List ℕ)) → Type 0
ArePlaced before now closed left = (first files : Files) → before ≡ Some first → closed ≡ map (λ file. Some file) files
    → (done : Files) × (rest : Files) × ((files ≡ done ++ rest) × (left ≡ map (λ file. Some file) rest) × (now ≡ Some (first ++ done)))

pub none_placed : (before : Option Files) (closed left : List (Option (List ℕ × List ℕ))) → left ≡ closed → ArePlaced before before closed left
none_placed before closed left all first files is are = ([], files, (refl, all ∙ are, is ∙ ap (λ l. Some l) (sym (append-nil first))))

heads : {X : Type 0} (x y : X) (xs ys : List X) → x ∷ xs ≡ y ∷ ys → x ≡ y
heads x y xs ys e = cc

tails : {X : Type 0} (x y : X) (xs ys : List X) → x ∷ xs ≡ y ∷ ys → xs ≡ ys
tails x y xs ys e = cc

no_heads : {X : Type 0} (x : X) (xs : List X) → x ∷ xs ≡ [] → ⊥
no_heads x xs e = cc

pub one_placed : (before mid now : Option Files) (closed left more : List (Option (List ℕ × List ℕ))) (c : Option (List ℕ × List ℕ)) → left ≡ c ∷ more
    → HasPlaced mid now c → ArePlaced before mid closed left → ArePlaced before now closed more
one_placed before mid now closed left more c next placed so_far first files is are = step (so_far first files is are)
  where
    pick : (done rest : Files) → files ≡ done ++ rest → left ≡ map (λ file. Some file) rest → mid ≡ Some (first ++ done)
        → (d : Files) × (r : Files) × ((files ≡ d ++ r) × (more ≡ map (λ file. Some file) r) × (now ≡ Some (first ++ d)))
    pick done [] all same was = absurd (no_heads c more (sym next ∙ same))
    pick done (file ∷ rest) all same was =
        let both = sym next ∙ same in
        (done ++ file ∷ [], rest, (all ∙ sym (append_assoc done (file ∷ []) rest), tails _ _ _ _ both, placed file (heads _ _ _ _ both) (first ++ done) was ∙ ap (λ l. Some l) (append_assoc first done (file ∷ []))))

    step : ((done : Files) × (rest : Files) × ((files ≡ done ++ rest) × (left ≡ map (λ file. Some file) rest) × (mid ≡ Some (first ++ done))))
        → (d : Files) × (r : Files) × ((files ≡ d ++ r) × (more ≡ map (λ file. Some file) r) × (now ≡ Some (first ++ d)))
    step (done, rest, (all, same, was)) = pick done rest all same was

pub all_placed : (before now : Option Files) (closed left : List (Option (List ℕ × List ℕ))) (files : Files) → length left ≡ 0
    → ArePlaced before now closed left → AreWhole before closed files → HasMade before now files
all_placed before now closed left files none placed whole first is = step (placed first files is (whole first is))
  where
    pick : (done rest : Files) → files ≡ done ++ rest → left ≡ map (λ file. Some file) rest → now ≡ Some (first ++ done) → now ≡ Some (first ++ files)
    pick done [] all same was = was ∙ ap (λ l. Some (first ++ l)) (sym (append-nil done)) ∙ ap (λ l. Some (first ++ l)) (sym all)
    pick done (file ∷ rest) all same was = let e = sym (ap length same) ∙ none in absurd (omega (arith, e))

    step : ((done : Files) × (rest : Files) × ((files ≡ done ++ rest) × (left ≡ map (λ file. Some file) rest) × (now ≡ Some (first ++ done)))) → now ≡ Some (first ++ files)
    step (done, rest, (all, same, was)) = pick done rest all same was

pub some_placed : (before now : Option Files) (closed left : List (Option (List ℕ × List ℕ))) (files : Files)
    → ArePlaced before now closed left → AreWhole before closed files → HasMadeSome before now files
some_placed before now closed left files placed whole first is = step (placed first files is (whole first is))
  where
    step : ((done : Files) × (rest : Files) × ((files ≡ done ++ rest) × (left ≡ map (λ file. Some file) rest) × (now ≡ Some (first ++ done))))
        → (done : Files) × (rest : Files) × (files ≡ done ++ rest) × (now ≡ Some (first ++ done))
    step (done, rest, (all, same, was)) = (done, rest, all, was)
