-- What came of the partitions, a piece of the list at a time.
use Rattle.std.proofs.Common.{◌≡◌, ◌⊎◌, inl, inr, slice_index_or, ◌++◌, ◌∷◌, ℕ, zero, suc, ◌+◌, ◌<◌, IfErr, IfOk, List, [], length, map, slice_get, Option, Some, option_map, Result, Ok, Err, add-one, refl, sym, ◌∙◌, ap, subst, arith}
use Rattle.std.specs.List.{AllZip}
use Rattle.std.proofs.lemmas.List.{append_assoc, length-map}
use Rattle.std.proofs.lemmas.Option.{same_Some, get_or_from_slice_get, none-some, slice_get-map, slice_get_within}
use Rattle.nm_topology.specs.TopologyValue.{TopologyValue}
use Rattle.nm_base.specs.declared.fault.Fault.{Fault}
use Rattle.nm_base.specs.declared.fault.Fault.TheVariants.{Memory, Refused}
use denote.Param.Members.{Shared}
use Rattle.std.specs.Fork.{GivesJobs}
use Rattle.nm_files.proofs.Checked.{in_front, next_behind}
use Rattle.nm_files.proofs.Folders.{element}
use Rattle.nm_certify.specs.Checking.{IsEnd, RefusesOne, RefusesPart, jobs_from}
use Rattle.nm_certify.specs.declared.part.PartEnd.{PartEnd}
use Rattle.nm_certify.specs.declared.fault.CertifyCause.{CertifyCause}
use Rattle.nm_certify.specs.declared.part.Job.{Job}
use Rattle.nm_certify.specs.declared.part_files.PartFiles.{PartFiles}

module _ {A B : Type 0} (R : A → B → Type 0) where
  pub zip_append : (xs more : List A) (ys others : List B) → AllZip R xs ys → AllZip R more others → AllZip R (xs ++ more) (ys ++ others)
  zip_append [] more [] others h k = k
  zip_append [] more (y ∷ ys) others h k = absurd h
  zip_append (x ∷ xs) more [] others h k = absurd h
  zip_append (x ∷ xs) more (y ∷ ys) others h k = (h.0, zip_append xs more ys others h.1 k)

  pub zip_count : (xs : List A) (ys : List B) → AllZip R xs ys → length ys ≡ length xs
  zip_count [] [] h = refl
  zip_count [] (y ∷ ys) h = absurd h
  zip_count (x ∷ xs) [] h = absurd h
  zip_count (x ∷ xs) (y ∷ ys) h = ap suc (zip_count xs ys h.1)

  zip_from : (xs : List A) (ys : List B) → length ys ≡ length xs → ((i : ℕ) (x : A) (y : B) → slice_get xs i ≡ Some x → slice_get ys i ≡ Some y → R x y) → AllZip R xs ys
  zip_from [] [] same each = tt
  zip_from [] (y ∷ ys) same each = absurd (let e : suc (length ys) ≡ 0 = same in omega (arith, e))
  zip_from (x ∷ xs) [] same each = absurd (let e : 0 ≡ suc (length xs) = same in omega (arith, e))
  zip_from (x ∷ xs) (y ∷ ys) same each = (
    each zero x y refl refl,
    zip_from xs ys (let e : suc (length ys) ≡ suc (length xs) = same in omega (arith, e)) (λ i. each (suc i)),
  )

  pub zip_at : (xs : List A) (ys : List B) (i : ℕ) (x : A) (y : B) → AllZip R xs ys → slice_get xs i ≡ Some x → slice_get ys i ≡ Some y → R x y
  zip_at [] ys i x y h at here = absurd (none-some x at)
  zip_at (v ∷ xs) [] i x y h at here = absurd (none-some y here)
  zip_at (v ∷ xs) (w ∷ ys) zero x y h at here = subst (R x) (same_Some w y here) (subst (λ z. R z w) (same_Some v x at) h.0)
  zip_at (v ∷ xs) (w ∷ ys) (suc i) x y h at here = zip_at xs ys i x y h.1 at here

-- Of each element there is a result, good or bad.
module _ {J E F : Type 0} (Good : J → E → Type 0) (Bad : J → F → Type 0) (js : List J) (rs : List (Result E F)) (same : length rs ≡ length js)
    (each : (i : ℕ) (j : J) (r : Result E F) → slice_get js i ≡ Some j → slice_get rs i ≡ Some r → IfOk r (Good j) × IfErr r (Bad j)) where
  pub all_good : (es : List E) → map (λ e. Ok e) es ≡ rs → AllZip Good js es
  all_good es are = zip_from Good js es (sym (length-map es (λ e. Ok e)) ∙ ap length are ∙ same)
      (λ i j e at here. (each i j (Ok e) at (ap (λ l. slice_get l i) (sym are) ∙ slice_get-map (λ e. Ok e) es i ∙ ap (option_map (λ e. Ok e)) here)).0)

  pub one_bad : (f : F) (i : ℕ) → slice_get rs i ≡ Some (Err f) → ((k : ℕ) → k < i → (e : E) × (slice_get rs k ≡ Some (Ok e)))
      → (i : ℕ) × (j : J) × (slice_get js i ≡ Some j) × Bad j f × ((k : ℕ) (earlier : J) → k < i → slice_get js k ≡ Some earlier → (e : E) × Good earlier e)
  one_bad f i here before =
      let low = slice_get_within rs i (Err f) here in
      let there = element js i (omega (arith, low, same)) in (
        i,
        there.0,
        there.1,
        (each i there.0 (Err f) there.1 here).1,
        λ k earlier less at. let was = before k less in (was.0, (each k earlier (Ok was.0) at was.1).0),
      )

pub none_of : {X : Type 0} (xs : List X) → length xs ≡ 0 → xs ≡ []
none_of [] none = refl
none_of (x ∷ xs) none = absurd (let e : suc (length xs) ≡ 0 = none in omega (arith, e))

-- a result that is a fault, behind others that are not
pub first_fault : {E F : Type 0} (es : List E) (f : F) (left rest rs : List (Result E F)) → map (λ e. Ok e) es ++ left ≡ rs → left ≡ Err f ∷ rest
    → (i : ℕ) × (slice_get rs i ≡ Some (Err f)) × ((k : ℕ) → k < i → (e : E) × (slice_get rs k ≡ Some (Ok e)))
first_fault {E} {F} es f left rest rs all is =
    let oks : List (Result E F) = map (λ e. Ok e) es in
    let parts : oks ++ Err f ∷ rest ≡ rs = ap (λ l. oks ++ l) (sym is) ∙ all in
    let count : length oks ≡ length es = length-map es (λ e. Ok e) in (
      length oks,
      ap (λ l. slice_get l (length oks)) (sym parts) ∙ next_behind oks (Err f ∷ rest),
      λ k low.
          let there = element es k (omega (arith, low, count)) in (
            there.0,
            ap (λ l. slice_get l k) (sym parts) ∙ in_front oks (Err f ∷ rest) k low ∙ slice_get-map (λ e. Ok e) es k ∙ ap (option_map (λ e. Ok e)) there.1,
          ),
    )

-- one job more
pub next_job : {B : Type 0} (jobs new all : List (Job B)) (n k : ℕ) (files : PartFiles B) (here more : List (PartFiles B)) → jobs ++ jobs_from n here ≡ all → here ≡ files ∷ more → k ≡ n
    → new ≡ jobs ++ record { partition = k; files = files } ∷ [] → new ++ jobs_from (n + 1) more ≡ all
next_job {B} jobs new all n k files here more so_far is number pushed =
    let job : ℕ → Job B = λ m. record { partition = m; files = files } in
    ap (λ l. l ++ jobs_from (n + 1) more) (pushed ∙ ap (λ m. jobs ++ job m ∷ []) number) ∙ append_assoc jobs (job n ∷ []) (jobs_from (n + 1) more)
    ∙ ap (λ m. jobs ++ job n ∷ jobs_from m more) (add-one n) ∙ ap (λ l. jobs ++ jobs_from n l) (sym is) ∙ so_far

-- what is true of each call of a closure is true of each job and its result
pub each_result : {F J R : Type 0} (g : Shared F (J × Unit {0}) R) (f : F) (js : List J) (rs : List R) (P : J → R → Type 0) → GivesJobs g f js rs → ((j : J) (r : R) → g.post f (j, tt) r → P j r)
    → (i : ℕ) (j : J) (r : R) → slice_get js i ≡ Some j → slice_get rs i ≡ Some r → P j r
each_result g f js rs P gives says i j r at here =
    let given = (gives i r (slice_get_within js i j at)).1 in
    let job = sym (given.job_is j) ∙ get_or_from_slice_get js i j j at in
    subst (λ k. P k r) job (subst (P given.job) (get_or_from_slice_get rs i r r here) (says given.job (slice_index_or rs i r) given.call.met))

pub either : {A B C : Type 0} → A ⊎ B → (B → C) → A ⊎ C
either (inl a) f = inl a
either (inr b) f = inr (f b)

-- why one of the jobs has no book
module _ {B : Type 0} (t : TopologyValue) (left : B → Option (List ℕ)) where
  pub refused : (jobs : List (Job B)) (f : Fault CertifyCause)
      → (f ≡ Memory) ⊎ ((i : ℕ) × (job : Job B) × (slice_get jobs i ≡ Some job) × RefusesPart t left job f
      × ((k : ℕ) (earlier : Job B) → k < i → slice_get jobs k ≡ Some earlier → (end : PartEnd) × IsEnd t left earlier end))
      → RefusesOne t left jobs f
  refused jobs Memory why = tt
  refused jobs (Refused c) (inl memory) = absurd (no c memory)
    where
      no : (c : CertifyCause) → Refused c ≡ Memory → ⊥
      no c e = cc
  refused jobs (Refused c) (inr one) = one

  -- it is one of the first
  pub refused_first : (jobs more : List (Job B)) (f : Fault CertifyCause) → RefusesOne t left jobs f → RefusesOne t left (jobs ++ more) f
  refused_first jobs more Memory why = tt
  refused_first jobs more (Refused c) (i, job, at, says, before) =
      let low = slice_get_within jobs i job at in
      (i, job, in_front jobs more i low ∙ at, says, λ k earlier less there. before k earlier less (sym (in_front jobs more k (omega (arith, less, low))) ∙ there))

  -- or one of those behind them
  behind_one : (job : Job B) (end : PartEnd) → IsEnd t left job end → (jobs : List (Job B)) (f : Fault CertifyCause) → RefusesOne t left jobs f → RefusesOne t left (job ∷ jobs) f
  behind_one job end is jobs Memory why = tt
  behind_one job end is jobs (Refused c) why = (suc why.0, why.1, why.2, why.3, further)
    where
      further : (k : ℕ) (earlier : Job B) → k < suc why.0 → slice_get (job ∷ jobs) k ≡ Some earlier → (end : PartEnd) × IsEnd t left earlier end
      further zero earlier less at = (end, subst (λ z. IsEnd t left z end) (same_Some job earlier at) is)
      further (suc k) earlier less at = why.4 k earlier (omega (arith, less)) at

  pub refused_later : (done : List (Job B)) (ends : List PartEnd) → AllZip (IsEnd t left) done ends → (rest : List (Job B)) (f : Fault CertifyCause)
      → RefusesOne t left rest f → RefusesOne t left (done ++ rest) f
  refused_later [] [] zip rest f why = why
  refused_later [] (end ∷ ends) zip rest f why = absurd zip
  refused_later (job ∷ done) [] zip rest f why = absurd zip
  refused_later (job ∷ done) (end ∷ ends) zip rest f why = behind_one job end zip.0 (done ++ rest) f (refused_later done ends zip.1 rest f why)
