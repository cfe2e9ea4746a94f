-- Files that are read beside what they are to have.
use Rattle.std.proofs.Common.{◌≡◌, ◌≢◌, ℕ, zero, suc, ◌+◌, ◌-◌, ◌<◌, ◌==◌, Bool, true, false, cond, List, [], ◌∷◌, ◌++◌, length, length-append, take, drop, get_or, set, length-set, Option, Some, None, option_map, is_some, IfSome, IsSomeAnd, IfErr, OnErr, OnOk, Result, Ok, Err, slice_get, slice_set, append-nil, refl, sym, ◌∙◌, ap, subst, arith}
use Rattle.std.specs.Io.{StartsWith}
use Rattle.std.proofs.Math.Seq.{take-append-add, take-append_seam, take-length}
use Rattle.std.proofs.lemmas.Bool.{true≢false}
use Rattle.std.proofs.lemmas.Bool.Decides.{nat_tests}
use Rattle.std.proofs.lemmas.List.{append_assoc, get_or-set_other, get_or-set_same, length-drop, length-take-le, take-append-drop, take-append-le, take_all}
use Rattle.std.proofs.lemmas.List.Elements.{filter-append}
use Rattle.std.proofs.lemmas.Option.{get_or_from_slice_get, slice_get-get_or, slice_get-map, none-some, slice_get_past, slice_get_within}
use Rattle.nm_base.specs.Count.{saturated}
use Rattle.nm_base.specs.declared.fault.Fault.{Fault}
use Rattle.nm_base.specs.declared.fault.Fault.TheVariants.{Memory, Refused}
use Rattle.nm_base.specs.declared.record.Record.{Record}
use Rattle.nm_pcap.specs.declared.form.Form.TheVariants.{Octets}
use Rattle.nm_pcap.specs.Format.{file_header, record_octets}
use Rattle.nm_files.specs.Checked.{DiffersAt, DiffersInOne, HasRead, HaveRead, IsUnlike, is_looked_at, looked_at}
use Rattle.nm_files.specs.TraceFile.{octets_after, records_at, written_at}
use Rattle.nm_files.specs.declared.checked_file.CheckCause.{CheckCause}
use Rattle.nm_files.specs.declared.checked_file.CheckCause.TheVariants.{Differs, Failed}
use Rattle.nm_files.specs.declared.checked_file.CheckedFile.{CheckedFile}
use Rattle.nm_files.proofs.Records.{written_at-append, written_elsewhere, written_there}

-- what stands behind a list, and in it
behind : {X : Type 0} (xs ys : List X) (n : ℕ) → slice_get (xs ++ ys) (length xs + n) ≡ slice_get ys n
behind [] ys n = ap (slice_get ys) (omega arith)
behind (x ∷ xs) ys n = ap (slice_get (x ∷ (xs ++ ys))) (further (length xs) n) ∙ behind xs ys n
  where
    further : (k n : ℕ) → suc k + n ≡ suc (k + n)
    further k n = omega arith

-- what comes behind a list, and what stands in it though others follow
pub next_behind : {X : Type 0} (xs ys : List X) → slice_get (xs ++ ys) (length xs) ≡ slice_get ys 0
next_behind [] ys = refl
next_behind (x ∷ xs) ys = next_behind xs ys

pub in_front : {X : Type 0} (xs ys : List X) (n : ℕ) → n < length xs → slice_get (xs ++ ys) n ≡ slice_get xs n
in_front [] ys n low = absurd (omega (arith, low))
in_front (x ∷ xs) ys zero low = refl
in_front (x ∷ xs) ys (suc n) low = in_front xs ys n (omega (arith, low))

-- all octets from one on
pub all_from : (octets : List ℕ) (at : ℕ) → take (length octets - at) (drop at octets) ≡ drop at octets
all_from octets at = take_all (length octets - at) (drop at octets) (let long = length-drop at octets in omega (arith, long))

first_left : {X : Type 0} (xs : List X) (n : ℕ) → slice_get (drop n xs) 0 ≡ slice_get xs n
first_left [] zero = refl
first_left [] (suc n) = refl
first_left (x ∷ xs) zero = refl
first_left (x ∷ xs) (suc n) = first_left xs n

some_first : {X : Type 0} (xs : List X) → 0 < length xs → slice_get xs 0 ≡ None → ⊥
some_first [] low none = absurd (omega (arith, low))
some_first (x ∷ xs) low none = let e : Some x ≡ None = none in cc

first_shown : (there rest : List ℕ) → 0 < length there → StartsWith rest there → slice_get rest 0 ≡ slice_get there 0
first_shown [] rest low starts = absurd (omega (arith, low))
first_shown (t ∷ there) [] low starts = let e : [] ≡ t ∷ there = starts in absurd (no e)
  where
    no : [] ≡ t ∷ there → ⊥
    no e = cc
first_shown (t ∷ there) (x ∷ rest) low starts =
    let e : x ∷ take (length there) rest ≡ t ∷ there = starts in
    let h : x ≡ t = cc in
    ap (λ y. Some y) h

-- a reader that shows octets has some left
some_left : (there rest : List ℕ) → 0 < length there → StartsWith rest there → slice_get rest 0 ≡ None → ⊥
some_left there rest low starts none = some_first there low (sym (first_shown there rest low starts) ∙ none)

-- none of the next octets is the file's
pub unlike_next : (told left : Option (List ℕ)) (before there octets : List ℕ) (k : ℕ) → IfSome told (λ text. IsSomeAnd left (λ rest. text ≡ before ++ rest))
    → IfSome left (λ rest. StartsWith rest there) → IfSome left (λ rest. length there ≡ 0 → rest ≡ []) → 0 < length octets
    → (k < length there → k < length octets → slice_get there k ≢ slice_get octets k) → k ≡ 0 → IfSome told (λ text. slice_get text (length before) ≢ slice_get octets 0)
unlike_next None left before there octets k is front end some next no_one = tt
unlike_next (Some text) None before there octets k is front end some next no_one = absurd is
unlike_next (Some text) (Some rest) before there octets k is front end some next no_one = λ e.
    pick there refl (sym (next_behind before rest) ∙ ap (λ l. slice_get l (length before)) (sym is) ∙ e)
  where
    differ : 0 < length there → slice_get rest 0 ≡ slice_get octets 0 → ⊥
    differ low first =
        next (omega (arith, low, no_one)) (omega (arith, some, no_one))
        (ap (slice_get there) no_one ∙ sym (first_shown there rest low front) ∙ first ∙ ap (slice_get octets) (sym no_one))

    pick : (l : List ℕ) → l ≡ there → slice_get rest 0 ≡ slice_get octets 0 → ⊥
    pick [] is_there first = some_first octets some (sym first ∙ ap (λ l. slice_get l 0) (end (ap length (sym is_there))))
    pick (t ∷ ts) is_there first = let long = ap length is_there in differ (omega (arith, long)) first

pub at_first : (told : Option (List ℕ)) (before octets : List ℕ) (at : ℕ) → IfSome told (λ text. slice_get text (length before) ≢ slice_get (take (length octets - at) (drop at octets)) 0)
    → IfSome told (λ text. slice_get text (length before) ≢ slice_get (drop at octets) 0)
at_first told before octets at h = subst (λ l. IfSome told (λ text. slice_get text (length before) ≢ slice_get l 0)) (all_from octets at) h

-- it was read up to where it differs
pub unlike_here : (told left : Option (List ℕ)) (before octets : List ℕ) (at same : ℕ) → at < length octets → same ≡ saturated (length (before ++ take at octets))
    → IfSome told (λ text. IsSomeAnd left (λ rest. text ≡ (before ++ take at octets) ++ rest))
    → IfSome told (λ text. slice_get text (length (before ++ take at octets)) ≢ slice_get (drop at octets) 0)
    → IfSome told (λ text. (k : ℕ) × (k < length octets) × (same ≡ saturated (length before + k)) × DiffersAt text (before ++ octets) (length before + k))
unlike_here None left before octets at same low count is other = tt
unlike_here (Some text) None before octets at same low count is other = absurd is
unlike_here (Some text) (Some rest) before octets at same low count is other =
    let long : length (before ++ take at octets) ≡ length before + at = length-append before (take at octets) ∙ ap (λ n. length before + n) (length-take-le at octets (omega (arith, low))) in (
      at,
      low,
      count ∙ ap saturated long,
      (
        ap (λ n. take n text) (sym long) ∙ ap (take (length (before ++ take at octets))) is ∙ take-append_seam (before ++ take at octets) rest ∙ sym (take-append-add before octets at),
        λ e. other (ap (slice_get text) long ∙ e ∙ behind before octets at ∙ sym (first_left octets at)),
      ),
    )

module _ (texts : ℕ → Option (List ℕ)) (n : ℕ) where
  -- more octets were to come behind those that are not there
  pub unlike_more : (before next more : List ℕ) (fault : Fault CheckCause) → IsUnlike texts n before next fault → IsUnlike texts n before (next ++ more) fault
  unlike_more before next more Memory h = tt
  unlike_more before next more (Refused Failed) h = tt
  unlike_more before next more (Refused (Differs iface octet)) h = (h.0, told (texts n) h.1)
    where
      told : (t : Option (List ℕ)) → IfSome t (λ text. (k : ℕ) × (k < length next) × (octet ≡ saturated (length before + k)) × DiffersAt text (before ++ next) (length before + k))
          → IfSome t (λ text. (k : ℕ) × (k < length (next ++ more)) × (octet ≡ saturated (length before + k)) × DiffersAt text (before ++ (next ++ more)) (length before + k))
      told None d = tt
      told (Some text) (k, low, count, (same, other)) =
          let long = length-append next more in (
            k,
            omega (arith, low, long),
            count,
            (
              same ∙ take-append-add before next k ∙ ap (λ l. before ++ l) (sym (take-append-le k next more (omega (arith, low)))) ∙ sym (take-append-add before (next ++ more) k),
              λ e. other (e ∙ behind before (next ++ more) k ∙ in_front next more k low ∙ sym (behind before next k)),
            ),
          )

  -- others were to come before them, and did
  pub unlike_after : (before first next : List ℕ) (fault : Fault CheckCause) → IsUnlike texts n (before ++ first) next fault → IsUnlike texts n before (first ++ next) fault
  unlike_after before first next Memory h = tt
  unlike_after before first next (Refused Failed) h = tt
  unlike_after before first next (Refused (Differs iface octet)) h = (h.0, told (texts n) h.1)
    where
      told : (t : Option (List ℕ)) → IfSome t (λ text. (k : ℕ) × (k < length next) × (octet ≡ saturated (length (before ++ first) + k)) × DiffersAt text ((before ++ first) ++ next) (length (before ++ first) + k))
          → IfSome t (λ text. (k : ℕ) × (k < length (first ++ next)) × (octet ≡ saturated (length before + k)) × DiffersAt text (before ++ (first ++ next)) (length before + k))
      told None d = tt
      told (Some text) (k, low, count, d) =
          let both = length-append first next in
          let long = length-append before first in
          let at : length (before ++ first) + k ≡ length before + (length first + k) = omega (arith, long) in (
            length first + k,
            omega (arith, low, both),
            count ∙ ap saturated at,
            subst (DiffersAt text (before ++ (first ++ next))) at (subst (λ l. DiffersAt text l (length (before ++ first) + k)) (append_assoc before first next) d),
          )

-- of a file nothing was read
pub nothing_read : (told left : Option (List ℕ)) → IfSome told (λ text. left ≡ Some text) → IfSome told (λ text. IsSomeAnd left (λ rest. text ≡ rest))
nothing_read None left is = tt
nothing_read (Some text) left is = subst (λ l. IsSomeAnd l (λ rest. text ≡ rest)) (sym is) refl

-- nothing is left of it, or something
pub all_read : (told left : Option (List ℕ)) (octets there : List ℕ) → IfSome told (λ text. IsSomeAnd left (λ rest. text ≡ octets ++ rest)) → IfSome left (λ rest. length there ≡ 0 → rest ≡ [])
    → length there ≡ 0 → IfSome told (λ text. text ≡ octets)
all_read None left octets there is end none = tt
all_read (Some text) None octets there is end none = absurd is
all_read (Some text) (Some rest) octets there is end none = is ∙ ap (λ l. octets ++ l) (end none) ∙ append-nil octets

pub more_left : (told left : Option (List ℕ)) (octets there : List ℕ) (same : ℕ) → same ≡ saturated (length octets) → IfSome told (λ text. IsSomeAnd left (λ rest. text ≡ octets ++ rest))
    → IfSome left (λ rest. StartsWith rest there) → 0 < length there
    → IfSome told (λ text. (same ≡ saturated (length octets)) × StartsWith text octets × DiffersAt text octets (length octets))
more_left None left octets there same count is front some = tt
more_left (Some text) None octets there same count is front some = absurd is
more_left (Some text) (Some rest) octets there same count is front some =
    let starts : take (length octets) text ≡ octets = ap (take (length octets)) is ∙ take-append_seam octets rest in (
      count,
      starts,
      (
        starts ∙ sym (take-length octets),
        λ e. some_left there rest some front (sym (next_behind octets rest) ∙ ap (λ l. slice_get l (length octets)) (sym is) ∙ e ∙ slice_get_past octets (length octets) (omega arith)),
      ),
    )

-- what stands in a trace file after one record more, and how many records
pub octets_there : (n : ℕ) (before : List (Record (List ℕ))) (r : Record (List ℕ)) → (r.iface == n) ≡ true → octets_after n before ++ record_octets r ≡ octets_after n (before ++ r ∷ [])
octets_there n before r there =
    append_assoc file_header (written_at Octets n before) (record_octets r)
    ∙ ap (λ l. file_header ++ l) (ap (λ l. written_at Octets n before ++ l) (sym (written_there Octets n r there)) ∙ sym (written_at-append Octets n before (r ∷ [])))

octets_elsewhere : (n : ℕ) (before : List (Record (List ℕ))) (r : Record (List ℕ)) → (r.iface == n) ≡ false → octets_after n before ≡ octets_after n (before ++ r ∷ [])
octets_elsewhere n before r away =
    ap (λ l. file_header ++ l) (sym (append-nil (written_at Octets n before)) ∙ ap (λ l. written_at Octets n before ++ l) (sym (written_elsewhere Octets n r away)) ∙ sym (written_at-append Octets n before (r ∷ [])))

count_of : (n : ℕ) (before : List (Record (List ℕ))) (r : Record (List ℕ)) (b : Bool) → (r.iface == n) ≡ b → length (records_at n (before ++ r ∷ [])) ≡ length (records_at n before) + length (cond b (r ∷ []) [])
count_of n before r b is =
    ap length (filter-append (λ r. r.iface == n) before (r ∷ [])) ∙ length-append (records_at n before) (records_at n (r ∷ []))
    ∙ ap (λ c. length (records_at n before) + length (cond c (r ∷ []) [])) is

-- what stands in the first elements of a list
pub within_first : {X : Type 0} (k : ℕ) (xs : List X) (n : ℕ) (x : X) → slice_get (take k xs) n ≡ Some x → (n < k) × (slice_get xs n ≡ Some x)
within_first zero xs n x at = absurd (none-some x at)
within_first (suc k) [] n x at = absurd (none-some x at)
within_first (suc k) (y ∷ xs) zero x at = (omega arith, at)
within_first (suc k) (y ∷ xs) (suc n) x at = let there = within_first k xs n x at in let low = there.0 in (omega (arith, low), there.1)

-- an element that is set is none of those before it
pub first_as_set : {X : Type 0} (xs : List X) (k : ℕ) (x : X) → take k (slice_set xs k x) ≡ take k xs
first_as_set [] zero x = refl
first_as_set [] (suc k) x = refl
first_as_set (y ∷ xs) zero x = refl
first_as_set (y ∷ xs) (suc k) x = ap (λ l. y ∷ l) (first_as_set xs k x)

pub looked_set : {B : Type 0} (files : List (Option (CheckedFile B))) (k : ℕ) (file new : CheckedFile B) → slice_get files k ≡ Some (Some file) → looked_at (slice_set files k (Some new)) ≡ looked_at files
looked_set [] k file new is = refl
looked_set (x ∷ files) zero file new is = let h : x ≡ Some file = (let e : Some x ≡ Some (Some file) = is in cc) in ap (λ y. is_some y ∷ looked_at files) (sym h)
looked_set (x ∷ files) (suc k) file new is = ap (λ l. is_some x ∷ l) (looked_set files k file new is)

module _ {B : Type 0} (texts : ℕ → Option (List ℕ)) (left : B → Option (List ℕ)) where
  -- one file more was opened
  pub one_opened : (files : List (Option (CheckedFile B))) (n : ℕ) (file : CheckedFile B) → n ≡ length files → HasRead texts left n file_header file → file.records ≡ 0
      → HaveRead texts left [] files → HaveRead texts left [] (files ++ Some file ∷ [])
  one_opened files n file last read none so_far = record { each = λ m other at. pick m other at (m == n) refl }
    where
      inner : (x y : CheckedFile B) → Some (Some x) ≡ Some (Some y) → x ≡ y
      inner x y e = cc

      pick : (m : ℕ) (other : CheckedFile B) → slice_get (files ++ Some file ∷ []) m ≡ Some (Some other) → (b : Bool) → (m == n) ≡ b
          → HasRead texts left m (octets_after m []) other × (other.records ≡ saturated (length (records_at m [])))
      pick m other at true here =
          let e : m ≡ n = grind (arith, nat_tests, here) in
          let is : other ≡ file = inner other file (sym at ∙ ap (slice_get (files ++ Some file ∷ [])) (e ∙ last) ∙ next_behind files (Some file ∷ [])) in
          subst (λ f. HasRead texts left m (octets_after m []) f × (f.records ≡ saturated 0)) (sym is)
          (subst (λ k. HasRead texts left k (octets_after k []) file) (sym e) (subst (λ l. HasRead texts left n l file) (sym (append-nil file_header)) read), none)
      pick m other at false away =
          let low = slice_get_within (files ++ Some file ∷ []) m (Some other) at in
          let long = length-append files (Some file ∷ []) in
          let less : m < length files = grind (arith, nat_tests, away, low, long, last) in
          so_far.each m other (sym (in_front files (Some file ∷ []) m less) ∙ at)

  module _ (before : List (Record (List ℕ))) (r : Record (List ℕ)) where
    -- a file of another interface has nothing of the record
    elsewhere : (n : ℕ) (file : CheckedFile B) → (r.iface == n) ≡ false → HasRead texts left n (octets_after n before) file × (file.records ≡ saturated (length (records_at n before)))
        → HasRead texts left n (octets_after n (before ++ r ∷ [])) file × (file.records ≡ saturated (length (records_at n (before ++ r ∷ []))))
    elsewhere n file away (read, count) = (
      subst (λ l. HasRead texts left n l file) (octets_elsewhere n before r away) read,
      (let all = count_of n before r false away in omega (arith, count, all)),
    )

    -- the record's interface has no file that is looked at
    pub none_read : (files : List (Option (CheckedFile B))) → ((file : CheckedFile B) → slice_get files r.iface ≡ Some (Some file) → ⊥) → HaveRead texts left before files → HaveRead texts left (before ++ r ∷ []) files
    none_read files none so_far = record { each = λ n file at. pick n file at (r.iface == n) refl }
      where
        pick : (n : ℕ) (file : CheckedFile B) → slice_get files n ≡ Some (Some file) → (b : Bool) → (r.iface == n) ≡ b
            → HasRead texts left n (octets_after n (before ++ r ∷ [])) file × (file.records ≡ saturated (length (records_at n (before ++ r ∷ []))))
        pick n file at true here = let e : r.iface ≡ n = grind (arith, nat_tests, here) in absurd (none file (ap (slice_get files) e ∙ at))
        pick n file at false away = elsewhere n file away (so_far.each n file at)

    -- it has one, which was read on
    pub one_read : (files : List (Option (CheckedFile B))) (k : ℕ) (file new : CheckedFile B) → k ≡ r.iface → slice_get files k ≡ Some (Some file) → HaveRead texts left before files
        → HasRead texts left k (octets_after k before ++ record_octets r) new → new.records ≡ saturated (file.records + 1) → HaveRead texts left (before ++ r ∷ []) (slice_set files k (Some new))
    one_read files k file new is there so_far read count = record { each = λ n other at. pick n other at (r.iface == n) refl }
      where
        low : k < length files
        low = slice_get_within files k (Some file) there

        same : (x y : CheckedFile B) → Some x ≡ Some y → x ≡ y
        same x y e = cc

        pick : (n : ℕ) (other : CheckedFile B) → slice_get (slice_set files k (Some new)) n ≡ Some (Some other) → (b : Bool) → (r.iface == n) ≡ b
            → HasRead texts left n (octets_after n (before ++ r ∷ [])) other × (other.records ≡ saturated (length (records_at n (before ++ r ∷ []))))
        pick n other at true here =
            let e : n ≡ k = grind (arith, nat_tests, here, is) in
            let first : get_or (set files k (Some new)) k (Some other) ≡ Some other = get_or_from_slice_get (set files k (Some new)) k (Some other) (Some other) (subst (λ m. slice_get (set files k (Some new)) m ≡ Some (Some other)) e at) in
            let is_new : new ≡ other = same new other (sym (get_or-set_same files k (Some new) (Some other) low) ∙ first) in
            let own : (r.iface == k) ≡ true = grind (arith, nat_tests, is) in
            let was = (so_far.each k file there).1 in
            let all = count_of k before r true own in
            subst (λ m. HasRead texts left m (octets_after m (before ++ r ∷ [])) other × (other.records ≡ saturated (length (records_at m (before ++ r ∷ []))))) (sym e)
            (subst (λ f. HasRead texts left k (octets_after k (before ++ r ∷ [])) f × (f.records ≡ saturated (length (records_at k (before ++ r ∷ []))))) is_new
            (subst (λ l. HasRead texts left k l new) (octets_there k before r own) read, omega (arith, count, was, all)))
        pick n other at false away =
            let far : n ≡ k → ⊥ = λ e. grind (arith, nat_tests, away, is, e) in
            let first : get_or (set files k (Some new)) n (Some other) ≡ Some other = get_or_from_slice_get (set files k (Some new)) n (Some other) (Some other) at in
            let kept : get_or files n (Some other) ≡ Some other = sym (get_or-set_other files k n (Some new) (Some other) far) ∙ first in
            let there_too : n < length files = let long = length-set files k (Some new) in let within = slice_get_within (set files k (Some new)) n (Some other) at in omega (arith, long, within) in
            elsewhere n other away (so_far.each n other (slice_get-get_or files n (Some other) there_too ∙ ap (λ f. Some f) kept))

    -- the files of lesser interfaces have nothing of it
    pub lesser_read : (files : List (Option (CheckedFile B))) → HaveRead texts left before files → HaveRead texts left (before ++ r ∷ []) (take r.iface files)
    lesser_read files so_far = record { each = λ n file at. let there = within_first r.iface files n (Some file) at in elsewhere n file (other n there.0 (r.iface == n) refl) (so_far.each n file there.1) }
      where
        other : (n : ℕ) → n < r.iface → (b : Bool) → (r.iface == n) ≡ b → (r.iface == n) ≡ false
        other n low true here = absurd (let e : r.iface ≡ n = grind (arith, nat_tests, here) in omega (arith, low, e))
        other n low false away = away

pub only_one : {B : Type 0} (file : CheckedFile B) → Some None ≡ Some (Some file) → ⊥
only_one file e = cc

-- what stands there is put there
pub none_set : {X : Type 0} (xs : List X) (k : ℕ) (x : X) → slice_get xs k ≡ Some x → slice_set xs k x ≡ xs
none_set [] k x is = refl
none_set (y ∷ xs) zero x is = let h : y ≡ x = (let e : Some y ≡ Some x = is in cc) in ap (λ z. z ∷ xs) (sym h)
none_set (y ∷ xs) (suc k) x is = ap (λ l. y ∷ l) (none_set xs k x is)

pub both_ok : {T E : Type 0} {A B C : Type 0} (r : Result T E) → (A → B → C) → OnOk r A → OnOk r B → OnOk r C
both_ok (Ok x) f a b = f a b
both_ok (Err e) f a b = tt

pub on_error : {T E K : Type 0} (r : Result T E) → K → IfErr r (λ _. K)
on_error (Ok x) k = tt
on_error (Err e) k = k

pub on_any_error : {T E K : Type 0} (r : Result T E) → K → OnErr r K
on_any_error (Ok x) k = tt
on_any_error (Err e) k = k

pub looked_there : {B : Type 0} (files : List (Option (CheckedFile B))) (k : ℕ) (file : CheckedFile B) → slice_get files k ≡ Some (Some file) → is_looked_at files k ≡ true
looked_there files k file is =
    get_or_from_slice_get (looked_at files) k true false (slice_get-map (λ f. is_some f) files k ∙ ap (option_map (λ f. is_some f)) is)

-- a file was looked at once more, and is read as far as before
module _ {B : Type 0} (texts : ℕ → Option (List ℕ)) (left : B → Option (List ℕ)) (records : List (Record (List ℕ))) where
  pub still_read : (files : List (Option (CheckedFile B))) (k : ℕ) (file new : CheckedFile B) → slice_get files k ≡ Some (Some file) → HaveRead texts left records files
      → HasRead texts left k (octets_after k records) new → new.records ≡ file.records → HaveRead texts left records (slice_set files k (Some new))
  still_read files k file new there so_far read count = record { each = λ n other at. pick n other at (n == k) refl }
    where
      low : k < length files
      low = slice_get_within files k (Some file) there

      same : (x y : CheckedFile B) → Some x ≡ Some y → x ≡ y
      same x y e = cc

      pick : (n : ℕ) (other : CheckedFile B) → slice_get (slice_set files k (Some new)) n ≡ Some (Some other) → (b : Bool) → (n == k) ≡ b
          → HasRead texts left n (octets_after n records) other × (other.records ≡ saturated (length (records_at n records)))
      pick n other at true here =
          let e : n ≡ k = grind (arith, nat_tests, here) in
          let first : get_or (set files k (Some new)) k (Some other) ≡ Some other = get_or_from_slice_get (set files k (Some new)) k (Some other) (Some other) (subst (λ m. slice_get (set files k (Some new)) m ≡ Some (Some other)) e at) in
          let is_new : new ≡ other = same new other (sym (get_or-set_same files k (Some new) (Some other) low) ∙ first) in
          subst (λ m. HasRead texts left m (octets_after m records) other × (other.records ≡ saturated (length (records_at m records)))) (sym e)
          (subst (λ f. HasRead texts left k (octets_after k records) f × (f.records ≡ saturated (length (records_at k records)))) is_new (read, count ∙ (so_far.each k file there).1))
      pick n other at false away =
          let far : n ≡ k → ⊥ = λ e. grind (arith, nat_tests, away, e) in
          let first : get_or (set files k (Some new)) n (Some other) ≡ Some other = get_or_from_slice_get (set files k (Some new)) n (Some other) (Some other) at in
          let kept : get_or files n (Some other) ≡ Some other = sym (get_or-set_other files k n (Some new) (Some other) far) ∙ first in
          let there_too : n < length files = let long = length-set files k (Some new) in let within = slice_get_within (set files k (Some new)) n (Some other) at in omega (arith, long, within) in
          so_far.each n other (slice_get-get_or files n (Some other) there_too ∙ ap (λ f. Some f) kept)

-- a file that is looked at is there
looked_file : {B : Type 0} (files : List (Option (CheckedFile B))) (n : ℕ) → is_looked_at files n ≡ true → (file : CheckedFile B) × (slice_get files n ≡ Some (Some file))
looked_file [] n looked = absurd (true≢false (sym looked))
looked_file (None ∷ files) zero looked = absurd (true≢false (sym looked))
looked_file (Some file ∷ files) zero looked = (file, refl)
looked_file (x ∷ files) (suc n) looked = looked_file files n looked

module _ {B : Type 0} (texts : ℕ → Option (List ℕ)) (left : B → Option (List ℕ)) where
  -- it begins with what was read of it
  pub begins : (records : List (Record (List ℕ))) (files : List (Option (CheckedFile B))) (n : ℕ) → HaveRead texts left records files → is_looked_at files n ≡ true
      → IfSome (texts n) (λ text. StartsWith text (octets_after n records))
  begins records files n read looked = let there = looked_file files n looked in front (texts n) (left there.0.reader) (read.each n there.0 there.1).0.rest
    where
      front : (told rest_of : Option (List ℕ)) → IfSome told (λ text. IsSomeAnd rest_of (λ rest. text ≡ octets_after n records ++ rest)) → IfSome told (λ text. StartsWith text (octets_after n records))
      front None rest_of is = tt
      front (Some text) None is = absurd is
      front (Some text) (Some rest) is = ap (take (length (octets_after n records))) is ∙ take-append_seam (octets_after n records) rest

  -- one of the records of a part is one of all
  pub differs_later : (records before kept : List (Record (List ℕ))) (m : ℕ) (old mid : List (Option (CheckedFile B))) (fault : Fault CheckCause) → take m records ≡ before ++ kept
      → looked_at mid ≡ looked_at old → DiffersInOne texts left before kept mid fault → DiffersInOne texts left [] records old fault
  differs_later records before kept m old mid fault part same d =
      let low = slice_get_within kept d.number d.missed d.place in
      let all : records ≡ before ++ (kept ++ drop m records) = sym (take-append-drop m records) ∙ ap (λ l. l ++ drop m records) part ∙ append_assoc before kept (drop m records) in
      let those : before ++ take d.number kept ≡ take (length before + d.number) records =
      ap (λ l. before ++ l) (sym (take-append-le d.number kept (drop m records) (omega (arith, low)))) ∙ sym (take-append-add before (kept ++ drop m records) d.number) ∙ ap (take (length before + d.number)) (sym all) in
      record {
        number = length before + d.number;
        missed = d.missed;
        place = ap (λ l. slice_get l (length before + d.number)) all ∙ behind before (kept ++ drop m records) d.number ∙ in_front kept (drop m records) d.number low ∙ d.place;
        looked = subst (λ l. get_or l d.missed.iface false ≡ true) same d.looked;
        files = d.files;
        same = d.same ∙ same;
        read = subst (λ l. HaveRead texts left l d.files) those d.read;
        unlike = subst (λ l. IsUnlike texts d.missed.iface (octets_after d.missed.iface l) (record_octets d.missed) fault) those d.unlike;
      }
