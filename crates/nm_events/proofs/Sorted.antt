-- The entries of a list in order as a finite map.
use Rattle.std.proofs.Common.{◌≡◌, ◌<◌, ◌≤◌, ℕ, List, [], ◌∷◌, length, Some, None, true, false, refl, sym, ap, ◌∙◌, arith, zero, suc}
use Rattle.std.specs.List.{slice_index_or, insert as insert_at}
use Rattle.std.specs.List.Sorted.{IsPartitionPoint, IsPartitionedBy}
use Rattle.std.proofs.lemmas.List.{length-map}
use Rattle.std.specs.Ordering.{is_lt}
use Rattle.std.specs.FinMap.{from_entries, get, get-from_entries, insert, is_sorted, len, remove}
use Rattle.nm_base.specs.declared.event.Event.{Event}
use Rattle.nm_base.specs.declared.key.Key.{Key}
use Rattle.nm_base.specs.Key.{key_cmp, key_cmp_total}
use Rattle.nm_model.specs.EventList.{least}
use Rattle.nm_events.specs.declared.entry.Entry.{Entry}
use Rattle.nm_events.specs.Entries.{entry_key, pair, pairs}
use Rattle.nm_events.proofs.Orders.{first, partitioned, put_at, second, sorted_after}
use Rattle.nm_events.proofs.AnyOrder.{count_distinct, insert_put, least_in, least_none, rest_in, sorted_distinct}

pub count : (es : List Entry) → is_sorted key_cmp (pairs es) ≡ true → len (from_entries {R = key_cmp} (pairs es)) ≡ length es
count es h = count_distinct (pairs es) (sorted_distinct (pairs es) h) ∙ length-map es pair

pub none_least : (es : List Entry) → length es ≡ 0 → least (from_entries (pairs es)) ≡ None
none_least [] e = least_none
none_least (x ∷ es) e = absurd (omega arith)

-- the entry at the front is the least
pub front_least : (e : Entry) (es : List Entry) → 0 < length es → e ≡ slice_index_or es 0 e → is_sorted key_cmp (pairs es) ≡ true → Some (pair e) ≡ least (from_entries (pairs es))
front_least e [] some is h = absurd (omega arith)
front_least e (x ∷ es) some is h = ap (λ z. Some (pair z)) is ∙ sym (least_in (pair x) (pairs es) (first _ _ h))

-- and to take it out leaves the others
pub rest_left : (e : Entry) (es fs : List Entry) → es ≡ e ∷ fs → is_sorted key_cmp (pairs es) ≡ true
    → (is_sorted key_cmp (pairs fs) ≡ true) × (Some (pair e) ≡ least (from_entries (pairs es)))
    × (from_entries {R = key_cmp} (pairs fs) ≡ remove (from_entries (pairs es)) (entry_key e))
rest_left e es fs is h =
    let sorted = ap (λ l. is_sorted key_cmp (pairs l)) (sym is) ∙ h in (
      second _ _ sorted,
      sym (ap (λ l. least (from_entries (pairs l))) is ∙ least_in (pair e) (pairs fs) (first _ _ sorted)),
      rest_in (pair e) (pairs fs) (first _ _ sorted) ∙ ap (λ l. remove (from_entries {R = key_cmp} (pairs l)) (entry_key e)) (sym is),
    )

map_insert : (e : Entry) (es : List Entry) (i : ℕ) → pairs (insert_at es i e) ≡ insert_at (pairs es) i (pair e)
map_insert e es zero = refl
map_insert e [] (suc i) = refl
map_insert e (x ∷ es) (suc i) = ap (λ l. pair x ∷ l) (map_insert e es i)

-- what is put in its place joins the others
pub put_in : (e : Entry) (es fs : List Entry) (i : ℕ) → fs ≡ insert_at es i e → is_sorted key_cmp (pairs es) ≡ true → get (from_entries {R = key_cmp} (pairs es)) (entry_key e) ≡ None
    → i ≤ length (pairs es) → IsPartitionPoint (λ x. is_lt (key_cmp x.0 (entry_key e)) ≡ true) (λ x. is_lt (key_cmp x.0 (entry_key e)) ≡ false) (pairs es) i
    → (is_sorted key_cmp (pairs fs) ≡ true) × (from_entries {R = key_cmp} (pairs fs) ≡ insert (from_entries (pairs es)) (entry_key e) e.event)
put_in e es fs i is h none le p =
    let fresh = sym (get-from_entries key_cmp_total (pairs es) (entry_key e)) ∙ none in
    let at = ap pairs is ∙ map_insert e es i ∙ sym (put_at key_cmp_total (entry_key e) e.event (pairs es) i h fresh le p) in
    (sorted_after key_cmp_total (entry_key e) e.event (pairs es) (pairs fs) h at, ap (λ l. from_entries {R = key_cmp} l) at ∙ insert_put (entry_key e) e.event (pairs es))

-- entries stand in a list as their keys do
at_pair : (P : Key × Event (List ℕ) → Type 0) (es : List Entry) (j : ℕ) → j < length es → ((d : Entry) → P (pair (slice_index_or es j d))) → (d : Key × Event (List ℕ))
    → P (slice_index_or (pairs es) j d)
at_pair P [] j lt h d = absurd (omega arith)
at_pair P (x ∷ es) zero lt h d = h x
at_pair P (x ∷ es) (suc j) lt h d = at_pair P es j (omega arith) h d

pair_at : (es : List Entry) (j : ℕ) (d : Entry) → slice_index_or (pairs es) j (pair d) ≡ pair (slice_index_or es j d)
pair_at [] j d = refl
pair_at (x ∷ es) zero d = refl
pair_at (x ∷ es) (suc j) d = pair_at es j d

-- the entries before a key come first
pub partitioned_entries : (k : Key) (es : List Entry) → is_sorted key_cmp (pairs es) ≡ true → IsPartitionedBy (λ e. is_lt (key_cmp (entry_key e) k)) es
partitioned_entries k es h i j d le lt e =
    let before = λ (n : ℕ). ap (λ x. is_lt (key_cmp x.0 k)) (pair_at es n d) in
    sym (before i) ∙ partitioned key_cmp_total k (pairs es) h i j (pair d) le (omega (arith, length-map es pair)) (before j ∙ e)

pub parted : (k : Key) (es : List Entry) (i : ℕ) → i ≤ length es → IsPartitionPoint (λ e. is_lt (key_cmp (entry_key e) k) ≡ true) (λ e. is_lt (key_cmp (entry_key e) k) ≡ false) es i
    → IsPartitionPoint (λ e. is_lt (key_cmp e.0 k) ≡ true) (λ e. is_lt (key_cmp e.0 k) ≡ false) (pairs es) i
parted k es i le p = (
  λ j d a b. at_pair (λ e. is_lt (key_cmp e.0 k) ≡ true) es j (omega arith) (λ f. p.0 j f a b) d,
  λ j d a b. let lt : j < length es = omega (arith, length-map es pair) in at_pair (λ e. is_lt (key_cmp e.0 k) ≡ false) es j lt (λ f. p.1 j f a lt) d,
)
