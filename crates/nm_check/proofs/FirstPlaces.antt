-- The place that `find_in` says is the first in the reading order.
use Rattle.std.proofs.Common.{◌≡◌, inl, inr, ℕ, Bool, true, false, ◌&&◌, Option, Some, None}
use Rattle.std.proofs.Common.{Result, Ok, Err, refl, sym, ap, ◌∙◌, subst, arith}
use Rattle.std.specs.Prelude.{if◌then◌else◌, nat_le, unwrap_or}
use Rattle.toml.specs.Data.{Data, Items, Members, array, get_item, get_member, table}
use Rattle.nm_topology.specs.declared.fault.Refusal.{Refusal}
use Rattle.nm_topology.specs.declared.parse.head.Head.{Head}
use Rattle.nm_topology.specs.Parse.Arrays.{all_fit, count, is_table}
use Rattle.nm_topology.specs.Parse.Fields.{all_among}
use Rattle.nm_topology.specs.declared.keys.array.Array.{Array}
use Rattle.nm_topology.specs.declared.keys.field.Field.{Field}
use Rattle.nm_topology.specs.declared.keys.field.Form.TheVariants as form
use Rattle.nm_topology.specs.declared.keys.fields.TheConstants.{ARRAYS, HEAD}
use Rattle.nm_check.specs.declared.first.MemberFault.{MemberFault}
use Rattle.nm_check.specs.declared.place.Found.{Found}
use Rattle.nm_check.specs.declared.place.FaultPlace.{FaultPlace}
use Rattle.nm_check.specs.declared.place.FaultPlace.TheVariants as place
use Rattle.nm_check.specs.declared.spot.FieldFault.{FieldFault}
use Rattle.nm_check.specs.declared.spot.Spot.{Spot}
use Rattle.nm_check.specs.declared.spot.Spot.TheVariants as spot
use Rattle.nm_check.specs.First.{AreRead, first_from}
use Rattle.nm_topology.specs.Keys.{array_key, array_limit, key_text}
use Rattle.nm_check.specs.Place.{IsFirstPlace, IsFirstTable, at_top, find_behind, find_in, found_by}
use Rattle.nm_check.specs.Place.{head_of, in_table_at, item_of, no_head, place_at, place_in_array}
use Rattle.nm_check.specs.Place.{place_in_value, place_of, place_of_member, place_refusal, spot_of}
use Rattle.nm_check.specs.Place.{top_keys}
use Rattle.nm_check.specs.Reading.{first_fault, spot_refusal, tables_of}
use Rattle.std.specs.Prelude.{IfOk, IfSome}
use Rattle.nm_topology.specs.Parse.Document.{document_of}
use Rattle.nm_check.specs.Place.{refused_in}
use Rattle.nm_check.specs.Reading.{outcome}
use Rattle.nm_check.proofs.Documents.{IsOfArray, array_field, document-refused, of-array}
use Rattle.nm_check.proofs.Firsts.{first-is}
use Rattle.nm_check.proofs.Places.{place-refused}

-- a place in an array is in its first table that is refused
abbrev InArray : Head → Array → Items → Option FaultPlace → Type 0
InArray head a ds None = Unit {0}
InArray head a ds (Some (place.Top s)) = ⊥
InArray head a ds (Some (place.Table b n s)) =
    (b ≡ a) × AreRead (item_of head a) ds n × ((m : Members) × (get_item n ds ≡ Some (table m)) × (spot_of head a m ≡ Some s))

member-in : (head : Head) (a : Array) (n : ℕ) (ds : Items) (o : Option Data) → get_item n ds ≡ o → AreRead (item_of head a) ds n → InArray head a ds (place_at head a n o)
member-in head a n ds (Some (table m)) there before = go (spot_of head a m) refl
  where
    go : (s : Option Spot) → spot_of head a m ≡ s → InArray head a ds (in_table_at a n s)
    go None h = tt
    go (Some s) h = (refl, before, (m, there, h))
member-in head a n ds (Some _) there before = tt
member-in head a n ds None there before = tt

array-in : (head : Head) (a : Array) (ds : Items) → InArray head a ds (place_in_array head a ds)
array-in head a ds = by_test (all_fit is_table ds && nat_le (count ds) (array_limit a))
  where
    by_first : (o : Option MemberFault) → first_from (item_of head a) 0 ds ≡ o → InArray head a ds (place_of_member head a ds o)
    by_first None h = tt
    by_first (Some f) h =
        let p = first-is (item_of head a) 0 ds f h in
        let same : p.0 ≡ f.number = (let q = p.1 in omega arith) in
        member-in head a f.number ds (get_item f.number ds) refl (subst (λ n. AreRead (item_of head a) ds n) same p.2.before)

    by_test : (b : Bool) → InArray head a ds (if b then place_of_member head a ds (first_from (item_of head a) 0 ds) else None)
    by_test true = by_first (first_from (item_of head a) 0 ds) refl
    by_test false = tt

-- the same of what stands at the key of an array
abbrev InValue : Head → Array → Option Data → Option FaultPlace → Type 0
InValue head a v None = Unit {0}
InValue head a v (Some p) = (ds : Items) × (v ≡ Some (array ds)) × InArray head a ds (Some p)

value-in : (head : Head) (a : Array) (v : Option Data) → InValue head a v (place_in_value head (form.Tables a) v)
value-in head a (Some (array ds)) = go (place_in_array head a ds) (array-in head a ds)
  where
    go : (o : Option FaultPlace) → InArray head a ds o → InValue head a (Some (array ds)) o
    go None h = tt
    go (Some p) h = (ds, refl, h)
value-in head a (Some _) = tt
value-in head a None = tt

-- the place of a fault of an array, in a text whose head is read
array-first-place : (t : Members) (g : FieldFault) (a : Array) → first_fault no_head t HEAD ≡ None → first_fault (head_of t) t ARRAYS ≡ Some g → IsOfArray (head_of t) t g a → (o : Option FaultPlace)
    → InValue (head_of t) a (get_member (key_text (array_key a)) t) o → place_refusal (unwrap_or o (place.Top (spot.Field g))) ≡ g.refusal → IsFirstPlace t (head_of t) (unwrap_or o (place.Top (spot.Field g)))
array-first-place t g a h k of None i r = inr (h, k)
array-first-place t g a h k of (Some (place.Top s)) i r = absurd i.2
array-first-place t g a h k of (Some (place.Table b n s)) i r =
    let same : b ≡ a = i.2.0 in
    let m = i.2.2 in
    let head = head_of t in
    let fault : ◌≡◌ {A = FieldFault} g (record { field = array_field a; refusal = spot_refusal s }) =
    ap (λ (f : Field). let x : FieldFault = record { field = f; refusal = g.refusal } in x) of.field
    ∙ ap (λ (q : Refusal). let x : FieldFault = record { field = array_field a; refusal = q } in x) (sym r) in
    let table_at : IsFirstTable head t a n s = record { items = i.0; there = i.1; before = i.2.1; members = m.0; numbered = m.1; refused = m.2 } in
    let whole : IsFirstPlace t head (place.Table a n s) = (refl, h, k ∙ ap Some fault, table_at) in
    subst (λ c. IsFirstPlace t head (place.Table c n s)) (sym same) whole

place-of-refusal : (head : Head) (a : Array) (g : FieldFault) (v : Option Data) → tables_of head a v ≡ Err g.refusal → place_refusal (unwrap_or (place_in_value head (form.Tables a) v) (place.Top (spot.Field g))) ≡ g.refusal
place-of-refusal head a g v e = place-refused head a g.field v g.refusal e

pub find_in-first : (t : Members) (f : Found) → find_in t ≡ Some f → IsFirstPlace t f.head f.place
find_in-first t f e = by_test (all_among top_keys t) refl e
  where
    by_array : (g : FieldFault) → first_fault no_head t HEAD ≡ None → first_fault (head_of t) t ARRAYS ≡ Some g → IsFirstPlace t (head_of t) (place_of (head_of t) t g)
    by_array g h k =
        let p = of-array (head_of t) t g k in
        let v = get_member (key_text (array_key p.0)) t in
        let o = place_in_value (head_of t) (form.Tables p.0) v in
        let r : place_refusal (unwrap_or o (place.Top (spot.Field g))) ≡ g.refusal = place-of-refusal (head_of t) p.0 g v p.1.refused in
        subst (λ (w : Field). IsFirstPlace t (head_of t) (unwrap_or (place_in_value (head_of t) w.form (get_member (key_text w.key) t)) (place.Top (spot.Field g)))) (sym p.1.field)
        (array-first-place t g p.0 h k p.1 o (value-in (head_of t) p.0 v) r)

    by_arrays : (o : Option FieldFault) → first_fault no_head t HEAD ≡ None → first_fault (head_of t) t ARRAYS ≡ o → found_by (head_of t) t o ≡ Some f → IsFirstPlace t f.head f.place
    by_arrays None h k e = cc
    by_arrays (Some g) h k e =
        let same : ◌≡◌ {A = Found} (record { head = head_of t; place = place_of (head_of t) t g }) f = cc in
        subst (λ (x : Found). IsFirstPlace t x.head x.place) same (by_array g h k)

    by_head : (o : Option FieldFault) → first_fault no_head t HEAD ≡ o → find_behind t o ≡ Some f → IsFirstPlace t f.head f.place
    by_head None h e = by_arrays (first_fault (head_of t) t ARRAYS) h refl e
    by_head (Some g) h e =
        let same : ◌≡◌ {A = Found} (at_top (spot.Field g)) f = cc in
        subst (λ (x : Found). IsFirstPlace t x.head x.place) same (inl h)

    by_test : (b : Bool) → all_among top_keys t ≡ b → (if b then find_behind t (first_fault no_head t HEAD) else Some (at_top spot.Unknown)) ≡ Some f → IsFirstPlace t f.head f.place
    by_test true h e = by_head (first_fault no_head t HEAD) refl e
    by_test false h e =
        let same : ◌≡◌ {A = Found} (at_top spot.Unknown) f = cc in
        subst (λ (x : Found). IsFirstPlace t x.head x.place) same h

-- what was found is the first place, and what is refused there is refused of the document
pub by_refusal : {E : Type 0} (t : Members) (r : Result (Option Found) E) → IfOk r (λ found. found ≡ find_in t) → IfOk r (λ found. outcome (document_of t) ≡ refused_in found)
by_refusal t (Ok o) e = document-refused t ∙ ap refused_in (sym e)
by_refusal t (Err q) e = tt

pub by_place : {E : Type 0} (t : Members) (r : Result (Option Found) E) → IfOk r (λ found. found ≡ find_in t) → IfOk r (λ found. IfSome found (λ f. IsFirstPlace t f.head f.place))
by_place t (Ok None) e = tt
by_place t (Ok (Some f)) e = find_in-first t f (sym e)
by_place t (Err q) e = tt
