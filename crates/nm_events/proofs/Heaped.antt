-- The entries of a heap as a finite map.
use Rattle.std.proofs.Common.{◌≡◌, ◌<◌, Bool, true, false, cond, List, [], ◌∷◌, length, Some, None, refl, sym, ap, ◌∙◌, ◌&&◌, subst, arith}
use Rattle.std.specs.declared.cmp.Reverse.{Reverse}
use Rattle.std.specs.List.{slice_index_or}
use Rattle.std.specs.List.Sorted.{IsPermutation}
use Rattle.std.proofs.lemmas.List.{length-map}
use Rattle.std.proofs.lemmas.List.Sorted.{IsPermutation-map}
use Rattle.std.specs.Ordering.{is_lt, eq_by_cmp, ordering_reverse}
use Rattle.std.specs.BinaryHeap.{IsUpperBound}
use Rattle.std.specs.FinMap.{find, from_entries, get, get-from_entries, insert, len, remove}
use Rattle.std.specs.FinMap.Entries.{below_all}
use Rattle.nm_base.specs.Key.{key_cmp, key_cmp_total}
use Rattle.nm_model.specs.EventList.{least}
use Rattle.nm_events.specs.declared.entry.Entry.{Entry}
use Rattle.nm_events.specs.Entries.{AreDistinct, entry_key, heap_cmp, heap_pairs, pair}
use Rattle.nm_events.proofs.Orders.{greater}
use Rattle.nm_events.proofs.Maps.{some_none, none_in_rest}
use Rattle.nm_events.proofs.AnyOrder.{count_distinct, flips, head_none, least_in, least_none, more_distinct, permuted_distinct, permuted_map, rest_in, tail_distinct}

-- what is put joins the others
pub pushed : (e : Reverse Entry) (old new : List (Reverse Entry)) → IsPermutation (e ∷ old) new → get (from_entries {R = key_cmp} (heap_pairs old)) (entry_key e.0) ≡ None
    → AreDistinct (heap_pairs old)
    → AreDistinct (heap_pairs new) × (from_entries {R = key_cmp} (heap_pairs new) ≡ insert (from_entries (heap_pairs old)) (entry_key e.0) e.0.event)
pushed e old new p none d =
    let fresh = sym (get-from_entries key_cmp_total (heap_pairs old) (entry_key e.0)) ∙ none in
    let q = IsPermutation-map (λ x. pair x.0) (e ∷ old) new p in
    let new_distinct = permuted_distinct (pair e.0 ∷ heap_pairs old) (heap_pairs new) q (more_distinct (pair e.0) (heap_pairs old) fresh d) in
    (new_distinct, sym (permuted_map (pair e.0 ∷ heap_pairs old) (heap_pairs new) q new_distinct))

-- the greatest entry has the least key
greatest_below : (e : Reverse Entry) (es : List (Reverse Entry)) → IsUpperBound heap_cmp e es → find key_cmp (entry_key e.0) (heap_pairs es) ≡ None
    → below_all key_cmp (entry_key e.0) (heap_pairs es) ≡ true
greatest_below e [] h n = refl
greatest_below e (x ∷ es) h n =
    let k = entry_key e.0 in
    let l = entry_key x.0 in
    let g = greater (key_cmp l k) h.0 (flips l k ∙ unequal (eq_by_cmp key_cmp k l) n) in
    ap (λ r. is_lt r && below_all key_cmp k (heap_pairs es)) (key_cmp_total.antisymm k l ∙ ap ordering_reverse g)
    ∙ greatest_below e es h.1 (none_in_rest key_cmp_total k (pair x.0) (heap_pairs es) n)
  where
    unequal : (b : Bool) → cond b (Some x.0.event) (find key_cmp (entry_key e.0) (heap_pairs es)) ≡ None → b ≡ false
    unequal true n = absurd (some_none x.0.event n)
    unequal false n = refl

-- what is taken is the least, and the others are left
pub popped : (e : Reverse Entry) (old new : List (Reverse Entry)) → IsPermutation old (e ∷ new) → IsUpperBound heap_cmp e new → AreDistinct (heap_pairs old)
    → AreDistinct (heap_pairs new) × (Some (pair e.0) ≡ least (from_entries (heap_pairs old)))
    × (from_entries {R = key_cmp} (heap_pairs new) ≡ remove (from_entries (heap_pairs old)) (entry_key e.0))
popped e old new p top d =
    let q = IsPermutation-map (λ x. pair x.0) old (e ∷ new) p in
    let both = permuted_distinct (heap_pairs old) (pair e.0 ∷ heap_pairs new) q d in
    let same = permuted_map (heap_pairs old) (pair e.0 ∷ heap_pairs new) q both in
    let below = greatest_below e new top (head_none (pair e.0) (heap_pairs new) both) in (
      tail_distinct (pair e.0) (heap_pairs new) both,
      sym (ap least same ∙ least_in (pair e.0) (heap_pairs new) below),
      rest_in (pair e.0) (heap_pairs new) below ∙ ap (λ m. remove m (entry_key e.0)) (sym same),
    )

-- the entry at the top is the least
pub top_least : (e : Reverse Entry) (es : List (Reverse Entry)) → 0 < length es → e ≡ slice_index_or es 0 e → IsUpperBound heap_cmp e es → AreDistinct (heap_pairs es)
    → Some (pair e.0) ≡ least (from_entries (heap_pairs es))
top_least e [] some is top d = absurd (omega arith)
top_least e (x ∷ es) some is top d =
    let d2 = subst (λ z. AreDistinct (pair z.0 ∷ heap_pairs es)) (sym is) d in
    let below = greatest_below e es top.1 (head_none (pair e.0) (heap_pairs es) d2) in
    sym (ap (λ z. least (from_entries (pair z.0 ∷ heap_pairs es))) (sym is) ∙ least_in (pair e.0) (heap_pairs es) below)

pub none_least : (es : List (Reverse Entry)) → length es ≡ 0 → least (from_entries (heap_pairs es)) ≡ None
none_least [] e = least_none
none_least (x ∷ es) e = absurd (omega arith)

pub count : (es : List (Reverse Entry)) → AreDistinct (heap_pairs es) → len (from_entries {R = key_cmp} (heap_pairs es)) ≡ length es
count es d = count_distinct (heap_pairs es) d ∙ length-map es (λ x. pair x.0)
