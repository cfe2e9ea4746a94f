-- One row of delays more.
use Rattle.std.proofs.Common.{◌≡◌, ℕ, zero, suc, ◌+◌, Bool, List, [], ◌∷◌, ◌++◌, take, Some, slice_get, sym, ap, ◌∙◌, arith, append_assoc, append-nil}
use Rattle.std.specs.Option.{option_map}
use Rattle.nm_model.proofs.ListLemmas.{not_some, some_inj}
use Rattle.nm_measure.specs.Spread.{bucket_of}
use Rattle.nm_measure.specs.declared.spread.Bucket.{Bucket}
use Rattle.nm_measure.specs.declared.spread.Row.{Row}
use Rattle.nm_series.specs.Buckets.{bucket_row, bucket_rows}

rows_more : (j : ℕ) (b : Bool) (rows : List Row) (n : ℕ) (x : Bucket) → option_map (bucket_of b) (slice_get rows n) ≡ Some x → bucket_rows j b (take (n + 1) rows) ≡ bucket_rows j b (take n rows) ++ bucket_row j x
rows_more j b [] n x at = absurd (not_some x at)
rows_more j b (r ∷ rs) zero x at = ap (λ (z : Bucket). bucket_row j z ++ []) (some_inj (bucket_of b r) x at) ∙ append-nil (bucket_row j x)
rows_more j b (r ∷ rs) (suc n) x at =
    let e : suc n + 1 ≡ suc (n + 1) = omega arith in
    ap (λ k. bucket_rows j b (take k (r ∷ rs))) e ∙ ap (λ l. bucket_row j (bucket_of b r) ++ l) (rows_more j b rs n x at)
    ∙ sym (append_assoc (bucket_row j (bucket_of b r)) (bucket_rows j b (take n rs)) (bucket_row j x))

pub row_next : (j : ℕ) (b : Bool) (rows : List Row) (n : ℕ) (x : Bucket) (text mid new : List ℕ) → option_map (bucket_of b) (slice_get rows n) ≡ Some x → mid ≡ text ++ bucket_rows j b (take n rows) → new ≡ mid ++ bucket_row j x
    → new ≡ text ++ bucket_rows j b (take (n + 1) rows)
row_next j b rows n x text mid new at so_far more =
    more ∙ ap (λ l. l ++ bucket_row j x) so_far ∙ append_assoc text (bucket_rows j b (take n rows)) (bucket_row j x)
    ∙ ap (λ l. text ++ l) (sym (rows_more j b rows n x at))
