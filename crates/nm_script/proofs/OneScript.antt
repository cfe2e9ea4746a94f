-- A text is one script at most.
use Rattle.std.proofs.Common.{◌≡◌, ℕ, ◌==◌, true, List, [], ◌∷◌, ◌++◌, map, decimal, codes, Some, None, refl, sym, ap, subst, ◌∙◌, arith, append_assoc}
use Rattle.std.proofs.lemmas.Bool.Decides.{nat_tests}
use Rattle.std.specs.List.{All, flat_map, onto_first, slice_split}
use Rattle.std.proofs.lemmas.List.Elements.{All-head, All-tail}
use Rattle.nm_base.specs.Text.{HasNo}
use Rattle.nm_base.proofs.Splits.{not_empty, one_split}
use Rattle.nm_rounds.specs.declared.step.WorldStep.{WorldStep}
use Rattle.nm_script.specs.declared.line.Line.{Line}
use Rattle.nm_script.specs.declared.line.Line.TheVariants.{Skipped, Step}
use Rattle.nm_script.specs.Grammar.{IsStep, Says, is_idle, words_of}
use Rattle.nm_script.specs.Script.{IsScript, Said, steps_in}
use Rattle.nm_script.specs.Tokens.{step_said}
use Rattle.nm_script.proofs.Parts.{same_numbers}
use Rattle.nm_script.proofs.Steps.{one_word}

-- a word that begins as a comment does names no step
comment_word : (w numbers : List ℕ) → step_said (35 ∷ w) numbers ≡ None
comment_word w [] = refl
comment_word w (a ∷ []) = refl
comment_word w (a ∷ b ∷ []) = refl
comment_word w (a ∷ b ∷ c ∷ []) = refl
comment_word w (a ∷ b ∷ c ∷ d ∷ []) = refl
comment_word w (a ∷ b ∷ c ∷ d ∷ e ∷ more) = refl

first_begins : (parts : List (List ℕ)) (word : List ℕ) (more : List (List ℕ)) → onto_first 35 parts ≡ word ∷ more → (w : List ℕ) × (word ≡ 35 ∷ w)
first_begins [] word more e = ([], cc)
first_begins (part ∷ parts) word more e = (part, cc)

-- an empty line, and a comment, are no step
idle_is_no_step : (line : List ℕ) (s : WorldStep) → is_idle line ≡ true → IsStep line s → ⊥
idle_is_no_step [] s idle h = one_word [] h.word h.numbers s refl h.words h.named
idle_is_no_step (c ∷ cs) s idle h =
    let same : c ≡ 35 = mark c idle in
    let begins = first_begins (slice_split (λ b. b == 32) cs) h.word (map decimal h.numbers) (subst (λ z. words_of (z ∷ cs) ≡ h.word ∷ map decimal h.numbers) same h.words) in
    let none : step_said h.word h.numbers ≡ None = subst (λ w. step_said w h.numbers ≡ None) (sym begins.1) (comment_word begins.0 h.numbers) in
    let some : Some s ≡ None = sym h.named ∙ none in
    absurd (cc)
  where
    mark : (n : ℕ) → (n == 35) ≡ true → n ≡ 35
    mark n e = grind (arith, nat_tests, e)

-- a line says one thing
one_said : (line : List ℕ) (a b : Line) → Says line a → Says line b → a ≡ b
one_said line Skipped Skipped p q = refl
one_said line Skipped (Step t) p q = absurd (idle_is_no_step line t p.0 q)
one_said line (Step s) Skipped p q = absurd (idle_is_no_step line s q.0 p)
one_said line (Step s) (Step t) p q =
    let words : p.word ∷ map decimal p.numbers ≡ q.word ∷ map decimal q.numbers = sym p.words ∙ q.words in
    let word : p.word ≡ q.word = cc in
    let texts : map decimal p.numbers ≡ map decimal q.numbers = cc in
    let numbers : p.numbers ≡ q.numbers = same_numbers p.numbers q.numbers p.small q.small texts in
    let both : Some s ≡ Some t =
    sym p.named ∙ subst (λ w. step_said p.word p.numbers ≡ step_said w q.numbers) word (ap (step_said p.word) numbers) ∙ q.named in
    cc

-- a line with its line feed
abbrev put : Said → List ℕ
put l = l.0 ++ codes "\n"

cut : (l : Said) (more : List ℕ) → put l ++ more ≡ l.0 ++ 10 ∷ more
cut l more = append_assoc l.0 (10 ∷ []) more

-- so a text is cut into one list of lines, which say one list of steps
one_text : (xs ys : List Said) → All (λ (l : Said). HasNo 10 l.0) xs → All (λ (l : Said). HasNo 10 l.0) ys → All (λ (l : Said). Says l.0 l.1) xs → All (λ (l : Said). Says l.0 l.1) ys
    → flat_map put xs ≡ flat_map put ys → flat_map (λ (l : Said). steps_in l.1) xs ≡ flat_map (λ (l : Said). steps_in l.1) ys
one_text [] [] a b p q e = refl
one_text [] (y ∷ ys) a b p q e = absurd (not_empty y.0 10 (flat_map put ys) (sym (cut y (flat_map put ys)) ∙ sym e))
one_text (x ∷ xs) [] a b p q e = absurd (not_empty x.0 10 (flat_map put xs) (sym (cut x (flat_map put xs)) ∙ e))
one_text (x ∷ xs) (y ∷ ys) a b p q e =
    let split = one_split 10 x.0 y.0 (flat_map put xs) (flat_map put ys) (All-head (λ (l : Said). HasNo 10 l.0) x xs a) (All-head (λ (l : Said). HasNo 10 l.0) y ys b)
    (sym (cut x (flat_map put xs)) ∙ e ∙ cut y (flat_map put ys)) in
    let said : x.1 ≡ y.1 = one_said y.0 x.1 y.1 (subst (λ t. Says t x.1) split.0 (All-head (λ (l : Said). Says l.0 l.1) x xs p)) (All-head (λ (l : Said). Says l.0 l.1) y ys q) in
    let rest = one_text xs ys (All-tail (λ (l : Said). HasNo 10 l.0) x xs a) (All-tail (λ (l : Said). HasNo 10 l.0) y ys b)
    (All-tail (λ (l : Said). Says l.0 l.1) x xs p) (All-tail (λ (l : Said). Says l.0 l.1) y ys q) split.1 in
    ap (λ z. steps_in z ++ flat_map (λ (l : Said). steps_in l.1) xs) said ∙ ap (λ z. steps_in y.1 ++ z) rest

pub one_script : (text : List ℕ) (one other : List WorldStep) → IsScript text one → IsScript text other → one ≡ other
one_script text one other is also =
    is.are.all
    ∙ one_text is.lines also.lines is.are.ended also.are.ended is.are.say also.are.say (sym is.are.whole ∙ also.are.whole)
    ∙ sym also.are.all
