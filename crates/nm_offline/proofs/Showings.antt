-- A trace whose records are shown event by event.
use Rattle.std.proofs.Common.{◌≡◌, ℕ, ◌+◌, All, List, [], ◌++◌, drop, length, take, true, false, Bool, Result, Ok, Err, sym, ◌∙◌, ap, subst, arith}
use Rattle.std.specs.declared.alloc.AllocError.{AllocError}
use Rattle.std.proofs.Math.Seq.{take-add}
use Rattle.std.proofs.lemmas.List.Elements.{All-drop, All-take}
use Rattle.nm_base.specs.declared.record.Record.{Record}
use Rattle.nm_sim.specs.Records.{RecordsValue}
use Rattle.nm_sim.specs.Tracing.{ShowsNext}

-- how many records were shown
abbrev pub shown : RecordsValue → ℕ
shown r = r.keeping.handed + length r.kept

module _ (records : List (Record (List ℕ))) (before after : RecordsValue) where
  -- those of one more event come behind them
  pub next_shown : ShowsNext records before (Ok true) after → take (shown after) records ≡ take (shown before) records ++ after.kept
  next_shown g =
      ap (λ k. take (k.handed + length after.kept) records) g.0 ∙ take-add (shown before) (length after.kept) records
      ∙ ap (λ l. take (shown before) records ++ l) (ap (λ k. take (length after.kept) (drop k.handed records)) (sym g.0) ∙ sym g.1)

  -- where no event is left, all were
  pub all_shown : ShowsNext records before (Ok false) after → shown before ≡ length records
  all_shown g = ap (λ k. k.handed) (sym g.0) ∙ g.1.1

  -- which are wanted stays
  pub still_wanted : (outcome : Result Bool AllocError) → ShowsNext records before outcome after → after.keeping.wanted ≡ before.keeping.wanted
  still_wanted outcome g = ap (λ k. k.wanted) g.0

  none : (P : Record (List ℕ) → Type 0) → All P []
  none P k d h = absurd (omega (arith, h))

  -- what is true of each record of the trace is true of those that are shown
  pub of_each_shown : (P : Record (List ℕ) → Type 0) → (outcome : Result Bool AllocError) → ShowsNext records before outcome after → All P records → All P after.kept
  of_each_shown P (Ok true) g all = subst (All P) (sym g.1) (All-take P (length after.kept) (drop after.keeping.handed records) (All-drop P after.keeping.handed records all))
  of_each_shown P (Ok false) g all = subst (All P) (sym g.1.0) (none P)
  of_each_shown P (Err e) g all = subst (All P) (sym g.1) (none P)
