-- The files of what the replicas of a run know.
use Rattle.std.proofs.Common.{◌≡◌, ℕ, ◌+◌, ◌<◌, true, false, cond, List, [], ◌∷◌, ◌++◌, append-nil, get_or, length, map, take, Option, refl, sym, ◌∙◌, ap, subst, arith}
use Rattle.std.specs.List.{flat_map}
use Rattle.std.proofs.lemmas.Grind.{flat_map-append}
use Rattle.std.proofs.lemmas.List.{take_all, take_more}
use Rattle.nm_topology.specs.TopologyValue.{TopologyValue}
use Rattle.nm_book.specs.Book.{BookValue}
use Rattle.nm_files.specs.Outputs.{AreWhole, Files, HasMade, HasMadeSome}
use Rattle.nm_files.specs.declared.closed_files.ClosedFile.{ClosedFile}
use Rattle.nm_files.proofs.Made.{made_more, made_some_more, made_some_of}
use Rattle.nm_run.specs.Files.{AreClosed, AreKeptBooks, AreRunFiles, HaveFiles, HaveSomeFiles, Leaving, kept_file, kept_files, run_files}
use Rattle.nm_run.specs.declared.report.IfaceTotals.{IfaceTotals}

-- those of some books
abbrev pub firsts : List ℕ → List BookValue → Files
firsts folder books = flat_map (kept_file folder) books

pub one_book_more : (folder : List ℕ) (books : List BookValue) (n : ℕ) (book : BookValue) → n < length books → book ≡ get_or books n book → firsts folder (take (n + 1) books) ≡ firsts folder (take n books) ++ kept_file folder book
one_book_more folder books n book low is =
    ap (firsts folder) (take_more books n book low ∙ ap (λ x. take n books ++ x ∷ []) (sym is))
    ∙ flat_map-append (kept_file folder) (take n books) (book ∷ []) ∙ ap (λ l. firsts folder (take n books) ++ l) (append-nil (kept_file folder book))

pub all_books : (run : Leaving) (books : List BookValue) (n : ℕ) (made : Option Files) (closed : List (Option (List ℕ × List ℕ))) → n ≡ length books → run.keeps ≡ true
    → AreWhole made closed (firsts run.folder (take n books)) → AreWhole made closed (kept_files run books)
all_books run books n made closed all keeps whole =
    subst (λ k. AreWhole made closed (cond k (firsts run.folder books) [])) (sym keeps) (subst (λ l. AreWhole made closed (firsts run.folder l)) (take_all n books (omega (arith, all))) whole)

pub no_books : (run : Leaving) (books : List BookValue) (made : Option Files) (closed : List (Option (List ℕ × List ℕ))) → run.keeps ≡ false → closed ≡ [] → AreWhole made closed (kept_files run books)
no_books run books made closed keeps none = subst (λ k. AreWhole made closed (cond k (firsts run.folder books) [])) (sym keeps) (λ first told. none)

-- Of a run that began with `start` files made, and had made no further one before its files got their names.
module _ {C : Type 0} (closed : C → Option (List ℕ × List ℕ)) (start before mid : Option Files) (same : before ≡ start) (run : Leaving) (t : TopologyValue) (totals : List IfaceTotals)
    (traces : List (ClosedFile C)) (known : List C) (are_closed : AreClosed closed start run.folder t totals traces) (are_kept : AreKeptBooks closed start run t known) where
  first_files : Files
  first_files = run_files run.folder t are_closed.0

  files : Files
  files = first_files ++ kept_files run are_kept.0

  are_files : AreRunFiles run t totals files
  unfolding files first_files
  are_files = record {
    octets = are_closed.0;
    many = are_closed.1;
    books = are_kept.0;
    of_run = are_kept.1.0;
    certified = are_kept.1.1;
    are = refl;
  }

  -- what is true of the trace files that got their names, since the begin
  traces_got : (P : Option Files → Files → Type 0) → ((fs : Files) → AreWhole before (map (λ c. closed c.file) traces) fs → P before fs) → P start first_files
  unfolding first_files
  traces_got P placed = subst (λ m. (fs : Files) → AreWhole m (map (λ c. closed c.file) traces) fs → P m fs) same placed first_files are_closed.2

  -- all got their names
  pub all_named : (after : Option Files) → ((fs : Files) → AreWhole before (map (λ c. closed c.file) traces) fs → HasMade before mid fs) → ((fs : Files) → AreWhole mid (map closed known) fs → HasMade mid after fs)
      → HaveFiles start after run t totals
  unfolding files first_files
  all_named after placed then = (
    files,
    are_files,
    λ first told. made_more start mid after first_files (kept_files run are_kept.0) (traces_got (λ m fs. HasMade m mid fs) placed) (then (kept_files run are_kept.0) (λ now is. are_kept.2 first told)) first told,
  )

  -- the trace files did, and the first of the others
  pub traces_named : (after : Option Files) → ((fs : Files) → AreWhole before (map (λ c. closed c.file) traces) fs → HasMade before mid fs) → ((fs : Files) → AreWhole mid (map closed known) fs → HasMadeSome mid after fs)
      → HaveSomeFiles start after run t totals
  unfolding files first_files
  traces_named after placed then = (
    files,
    are_files,
    λ first told. made_some_more start mid after first_files (kept_files run are_kept.0) (traces_got (λ m fs. HasMade m mid fs) placed) (then (kept_files run are_kept.0) (λ now is. are_kept.2 first told)) first told,
  )

  -- the first of the trace files did
  pub some_named : ((fs : Files) → AreWhole before (map (λ c. closed c.file) traces) fs → HasMadeSome before mid fs) → HaveSomeFiles start mid run t totals
  unfolding files first_files
  some_named placed = (files, are_files, made_some_of start mid first_files (kept_files run are_kept.0) (traces_got (λ m fs. HasMadeSome m mid fs) placed))
