-- Where the fault of a document lies is where it is refused.
use Rattle.std.proofs.Common.{◌≡◌, ℕ, Bool, true, false, ◌&&◌, List, Option, Some, None}
use Rattle.std.proofs.Common.{Err, refl, sym, ap, ◌∙◌, arith, ◌≤◌, length}
use Rattle.std.proofs.lemmas.Bool.Decides.{nat_tests}
use Rattle.toml.specs.View.{items_view}
use Rattle.toml.specs.declared.value.Value.{Value}
use Rattle.nm_check.proofs.Items.{count_view}
use Rattle.std.specs.Prelude.{if◌then◌else◌, nat_le, unwrap_or}
use Rattle.toml.specs.Data.{Data, Items, array, get_item, table}
use Rattle.nm_topology.specs.declared.fault.Refusal.{Refusal}
use Rattle.nm_topology.specs.declared.parse.head.Head.{Head}
use Rattle.nm_topology.specs.Parse.Arrays.{all_fit, count, in_table, is_table}
use Rattle.nm_topology.specs.Parse.Sources.{source_table_of}
use Rattle.nm_topology.specs.Parse.Tables.{iface_table_of, link_table_of, node_table_of}
use Rattle.nm_topology.specs.Parse.Tables.{route_table_of}
use Rattle.nm_topology.specs.declared.keys.array.Array.{Array}
use Rattle.nm_topology.specs.declared.keys.array.Array.TheVariants as array_of
use Rattle.nm_topology.specs.declared.keys.field.Field.{Field}
use Rattle.nm_topology.specs.declared.keys.field.Form.TheVariants as form
use Rattle.nm_check.specs.declared.first.MemberFault.{MemberFault}
use Rattle.nm_check.specs.declared.place.FaultPlace.{FaultPlace}
use Rattle.nm_check.specs.declared.place.FaultPlace.TheVariants as place
use Rattle.nm_check.specs.declared.spot.Spot.{Spot}
use Rattle.nm_check.specs.declared.spot.Spot.TheVariants as spot
use Rattle.nm_check.specs.First.{first_from}
use Rattle.nm_topology.specs.Keys.{array_limit}
use Rattle.nm_check.specs.Place.{in_table_at, item_of, place_at, place_in_array, place_in_value}
use Rattle.nm_check.specs.Place.{place_of_member, place_refusal, spot_of}
use Rattle.nm_check.specs.Reading.{refused_at, tables_of}
use Rattle.nm_check.proofs.Firsts.{array-first, first-is, refused_member}
use Rattle.nm_check.proofs.Tables.{item-table}

-- the tables of an array, where it has tables and not too many
pub tables-first : (head : Head) (a : Array) (ds : Items) → (all_fit is_table ds && nat_le (count ds) (array_limit a)) ≡ true → tables_of head a (Some (array ds)) ≡ refused_member (first_from (item_of head a) 0 ds)
tables-first head array_of.Node ds e = array-first (in_table node_table_of) (array_limit array_of.Node) ds e
tables-first head array_of.Iface ds e = array-first (in_table (iface_table_of head.format)) (array_limit array_of.Iface) ds e
tables-first head array_of.Link ds e = array-first (in_table link_table_of) (array_limit array_of.Link) ds e
tables-first head array_of.Route ds e = array-first (in_table route_table_of) (array_limit array_of.Route) ds e
tables-first head array_of.Source ds e = array-first (in_table (source_table_of head.mtu)) (array_limit array_of.Source) ds e

-- a place, or the top table
abbrev pub refused_or : Refusal → Option FaultPlace → Refusal
refused_or r None = r
refused_or r (Some p) = place_refusal p

-- where a member is refused, that is refused
member-place : (head : Head) (a : Array) (n : ℕ) (d : Data) (r : Refusal) → item_of head a d ≡ Err r → refused_or r (place_at head a n (Some d)) ≡ r
member-place head a n (table t) r e = go (spot_of head a t) (sym (item-table head a t) ∙ e)
  where
    go : (s : Option Spot) → refused_at s ≡ Err r → refused_or r (in_table_at a n s) ≡ r
    go None h = refl
    go (Some s) h = cc
member-place head a n _ r e = refl

-- the first fault of an array
first-place : (head : Head) (a : Array) (ds : Items) (f : MemberFault) → first_from (item_of head a) 0 ds ≡ Some f → refused_or f.refusal (place_of_member head a ds (Some f)) ≡ f.refusal
first-place head a ds f e =
    let p = first-is (item_of head a) 0 ds f e in
    let same : f.number ≡ p.0 = (let q = p.1 in omega arith) in
    let there : get_item f.number ds ≡ Some p.2.member = ap (λ n. get_item n ds) same ∙ p.2.there in
    ap (λ o. refused_or f.refusal (place_at head a f.number o)) there
    ∙ member-place head a f.number p.2.member f.refusal p.2.refused

array-place : (head : Head) (a : Array) (ds : Items) (r : Refusal) → tables_of head a (Some (array ds)) ≡ Err r → refused_or r (place_in_array head a ds) ≡ r
array-place head a ds r e = by_test (all_fit is_table ds && nat_le (count ds) (array_limit a)) refl
  where
    by_first : (o : Option MemberFault) → first_from (item_of head a) 0 ds ≡ o → refused_member o ≡ Err r → refused_or r (place_of_member head a ds o) ≡ r
    by_first None h g = refl
    by_first (Some f) h g =
        let same : f.refusal ≡ r = cc in
        ap (λ q. refused_or q (place_of_member head a ds (Some f))) (sym same) ∙ first-place head a ds f h ∙ same

    by_test : (b : Bool) → (all_fit is_table ds && nat_le (count ds) (array_limit a)) ≡ b → refused_or r (if b then place_of_member head a ds (first_from (item_of head a) 0 ds) else None) ≡ r
    by_test true h = by_first (first_from (item_of head a) 0 ds) refl (sym (tables-first head a ds h) ∙ e)
    by_test false h = refl

pub value-place : (head : Head) (a : Array) (v : Option Data) (r : Refusal) → tables_of head a v ≡ Err r → refused_or r (place_in_value head (form.Tables a) v) ≡ r
value-place head a None r e = refl
value-place head a (Some (array ds)) r e = array-place head a ds r e
value-place head a (Some _) r e = refl

-- what is refused of a field is refused at its place
pub place-refused : (head : Head) (a : Array) (f : Field) (v : Option Data) (r : Refusal) → tables_of head a v ≡ Err r → place_refusal (unwrap_or (place_in_value head (form.Tables a) v) (place.Top (spot.Field (record { field = f; refusal = r })))) ≡ r
place-refused head a f v r e = go (place_in_value head (form.Tables a) v) (value-place head a v r e)
  where
    go : (o : Option FaultPlace) → refused_or r o ≡ r → place_refusal (unwrap_or o (place.Top (spot.Field (record { field = f; refusal = r })))) ≡ r
    go None h = refl
    go (Some p) h = h

-- the fault of an array that has tables and not too many
pub in-array : (head : Head) (a : Array) (vs : List Value) (f : MemberFault) → all_fit is_table (items_view vs) ≡ true → length vs ≤ array_limit a → first_from (item_of head a) 0 (items_view vs) ≡ Some f
    → place_in_array head a (items_view vs) ≡ place_at head a f.number (get_item f.number (items_view vs))
in-array head a vs f fit few first =
    let ds = items_view vs in
    let counted : count ds ≤ array_limit a = omega (arith, count_view vs) in
    let small : nat_le (count ds) (array_limit a) ≡ true = grind (arith, nat_tests) in
    ap (λ b. if b && nat_le (count ds) (array_limit a) then place_of_member head a ds (first_from (item_of head a) 0 ds) else None) fit
    ∙ ap (λ b. if b then place_of_member head a ds (first_from (item_of head a) 0 ds) else None) small
    ∙ ap (place_of_member head a ds) first
