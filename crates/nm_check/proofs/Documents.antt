-- A document is refused where `find_in` says, and for what is refused there.
use Rattle.std.proofs.Common.{◌≡◌, ℕ, Bool, true, false, List, [], ◌∷◌, Option, Some, None}
use Rattle.std.proofs.Common.{Result, Ok, Err, refl, sym, ap, ◌∙◌, subst, map}
use Rattle.std.specs.Prelude.{if◌then◌else◌, unwrap_or, ◌==◌}
use Rattle.std.specs.Result.{result_ok}
use Rattle.toml.specs.Data.{Data, Members, get_member}
use Rattle.nm_topology.specs.declared.fault.Refusal.{Refusal}
use Rattle.nm_topology.specs.declared.fault.Refusal.TheVariants.{UnknownKey}
use Rattle.nm_topology.specs.declared.parse.head.Format.{Format}
use Rattle.nm_topology.specs.declared.parse.head.Format.TheVariants.{One, Two}
use Rattle.nm_topology.specs.declared.parse.head.Head.{Head}
use Rattle.nm_topology.specs.Fault.{◌>>=◌, demand}
use Rattle.nm_topology.specs.Parse.Arrays.{tables_at}
use Rattle.nm_topology.specs.Parse.DocumentValue.{DocumentValue}
use Rattle.nm_topology.specs.Parse.Sources.{source_table_of}
use Rattle.nm_topology.specs.Parse.Tables.{iface_table_of, link_table_of, node_table_of}
use Rattle.nm_topology.specs.Parse.Tables.{route_table_of}
use Rattle.nm_topology.specs.Parse.Document.{document_of, format_of, with_tables}
use Rattle.nm_topology.specs.Parse.Fields.{all_among, number_at, number_in, required, value_at}
use Rattle.nm_topology.specs.declared.keys.array.Array.{Array}
use Rattle.nm_topology.specs.declared.keys.array.Array.TheVariants as array
use Rattle.nm_topology.specs.declared.keys.field.Field.{Field}
use Rattle.nm_topology.specs.declared.keys.field.Form.TheVariants as form
use Rattle.nm_check.specs.declared.spot.FieldFault.{FieldFault}
use Rattle.nm_check.specs.declared.spot.Spot.TheVariants as spot
use Rattle.nm_topology.specs.Keys.{array_key, key_text}
use Rattle.nm_topology.specs.declared.keys.fields.TheConstants.{ARRAYS, FORMAT, HEAD, MTU, STOP}
use Rattle.nm_topology.specs.declared.keys.fields.TheConstants.{TOP_TABLE}
use Rattle.nm_topology.specs.declared.keys.key.TableKey.TheVariants as key
use Rattle.nm_check.specs.declared.place.FaultPlace.TheVariants as place
use Rattle.nm_check.specs.Place.{at_top, find_behind, find_in, find_in_arrays, found_by, head_by}
use Rattle.nm_check.specs.Place.{head_of, no_head, place_in_value, place_of, place_refusal}
use Rattle.nm_check.specs.Place.{refused_in, top_keys}
use Rattle.nm_check.specs.Reading.{at_field, first_fault, fault_or, outcome, refused_at, spot_in}
use Rattle.nm_check.specs.Reading.{tables_of}
use Rattle.nm_check.proofs.Places.{place-refused}
use Rattle.nm_check.proofs.Steps.{chain, chain-first, five-arrays, outcome-bind}
use Rattle.nm_check.proofs.Steps.{spot-chain}

-- the field of an array
abbrev pub array_field : Array → Field
array_field a = record { key = array_key a; form = form.Tables a }

-- a fault of the arrays is one of an array
pub record IsOfArray (head : Head) (t : Members) (g : FieldFault) (a : Array) : Type 0 where
  pub field : g.field ≡ array_field a
  pub refused : tables_of head a (get_member (key_text (array_key a)) t) ≡ Err g.refusal

of-arrays : (head : Head) (t : Members) (g : FieldFault) (bs : List Array) → first_fault head t (map array_field bs) ≡ Some g → (a : Array) × IsOfArray head t g a
of-arrays head t g [] e = cc
of-arrays head t g (a ∷ bs) e = go (λ h. of-arrays head t g bs h) (tables_of head a (get_member (key_text (array_key a)) t)) refl e
  where
    go : (first_fault head t (map array_field bs) ≡ Some g → (b : Array) × IsOfArray head t g b) → (r : Result Unit Refusal) → tables_of head a (get_member (key_text (array_key a)) t) ≡ r → fault_or (array_field a) r (first_fault head t (map array_field bs)) ≡ Some g → (b : Array) × IsOfArray head t g b
    go others (Ok u) h k = others k
    go others (Err q) h k =
        let same : ◌≡◌ {A = FieldFault} (record { field = array_field a; refusal = q }) g = cc in
        (a, record { field = ap (λ x. x.field) (sym same); refused = h ∙ ap (λ (x : FieldFault). Err x.refusal) same })

pub of-array : (head : Head) (t : Members) (g : FieldFault) → first_fault head t ARRAYS ≡ Some g → (a : Array) × IsOfArray head t g a
of-array head t g e = of-arrays head t g (array.Node ∷ array.Iface ∷ array.Link ∷ array.Route ∷ array.Source ∷ []) e

-- what is refused of the fault of an array is refused at its place
pub place_of-refusal : (head : Head) (t : Members) (g : FieldFault) → first_fault head t ARRAYS ≡ Some g → place_refusal (place_of head t g) ≡ g.refusal
place_of-refusal head t g e =
    let p = of-array head t g e in
    subst (λ (w : Field). place_refusal (unwrap_or (place_in_value head w.form (get_member (key_text w.key) t)) (place.Top (spot.Field g))) ≡ g.refusal) (sym p.1.field)
    (place-refused head p.0 g.field (get_member (key_text (array_key p.0)) t) g.refusal p.1.refused)

-- the arrays, one after another
arrays-chain : (head : Head) (t : Members) → refused_in (find_in_arrays head t) ≡ chain head t ARRAYS
arrays-chain head t = go (first_fault head t ARRAYS) refl ∙ sym (chain-first head t ARRAYS)
  where
    go : (o : Option FieldFault) → first_fault head t ARRAYS ≡ o → refused_in (found_by head t o) ≡ refused_at (at_field o)
    go None h = refl
    go (Some g) h = ap Err (place_of-refusal head t g h)

arrays : (head : Head) (stop : ℕ) (t : Members) → outcome (with_tables head stop t) ≡ chain head t ARRAYS
unfolding with_tables
arrays head stop t =
    five-arrays (tables_at node_table_of array.Node t)
    (tables_at (iface_table_of head.format) array.Iface t)
    (tables_at link_table_of array.Link t)
    (tables_at route_table_of array.Route t)
    (tables_at (source_table_of head.mtu) array.Source t)
    (λ nodes ifaces links routes sources. let d : DocumentValue = record { stop = stop; mtu = head.mtu; nodes = nodes; ifaces = ifaces; links = links; routes = routes; sources = sources } in d)

format-outcome : (v : Option Data) → outcome (required format_of v) ≡ outcome (required (number_in FORMAT.least FORMAT.greatest) v)
format-outcome None = refl
format-outcome (Some d) = outcome-bind (number_in FORMAT.least FORMAT.greatest d) (λ n. if n == 1 then One else Two)

-- the head that was read is that of the text
head-read : (t : Members) (format : Format) (mtu : ℕ) → required format_of (value_at key.Format t) ≡ Ok format → number_at key.Mtu MTU t ≡ Ok mtu → head_of t ≡ record { format = format; mtu = mtu }
head-read t format mtu e h =
    ap (λ m. head_by (result_ok (number_at key.Format FORMAT t)) (result_ok m)) h
    ∙ by_value (value_at key.Format t) e
  where
    by_number : (r : Result ℕ Refusal) → (r >>= λ n. Ok (if n == 1 then One else Two)) ≡ Ok format → head_by (result_ok r) (Some mtu) ≡ record { format = format; mtu = mtu }
    by_number (Ok n) g =
        let same : (if n == 1 then One else Two) ≡ format = cc in
        ap (λ (f : Format). let h : Head = record { format = f; mtu = mtu } in h) same
    by_number (Err q) g = cc

    by_value : (v : Option Data) → required format_of v ≡ Ok format → head_by (result_ok (required (number_in FORMAT.least FORMAT.greatest) v)) (Some mtu) ≡ record { format = format; mtu = mtu }
    by_value None g = cc
    by_value (Some d) g = by_number (number_in FORMAT.least FORMAT.greatest d) g

-- the keys of the top table, its head and then what follows, which is the same whatever stop is
head-chain : {A B C D : Type 0} (b : Bool) (p : Result A Refusal) (q : Result B Refusal) (r : Result C Refusal) (k : A → B → C → Result D Refusal) (o z : Result Unit Refusal) → outcome p ≡ o
    → ((x : A) (y : B) (w : C) → p ≡ Ok x → r ≡ Ok w → outcome (k x y w) ≡ z)
    → outcome (demand b UnknownKey >>= λ u. p >>= λ x. q >>= λ y. r >>= λ w. k x y w) ≡ (if b then (o >>= λ u. outcome q >>= λ u. outcome r >>= λ u. z) else Err UnknownKey)
head-chain false p q r k o z e h = refl
head-chain true (Err f) q r k o z e h = ap (λ v. v >>= λ u. outcome q >>= λ u. outcome r >>= λ u. z) e
head-chain true (Ok x) (Err f) r k o z e h = ap (λ v. v >>= λ u. Err f) e
head-chain true (Ok x) (Ok y) (Err f) k o z e h = ap (λ v. v >>= λ u. Err f) e
head-chain true (Ok x) (Ok y) (Ok w) k o z e h = h x y w refl refl ∙ ap (λ v. v >>= λ u. z) e

-- where the head is refused, and what follows where it is not
behind-chain : (t : Members) (r : Result Unit Refusal) → (refused_at (at_field (first_fault no_head t HEAD)) >>= λ u. refused_in (find_in_arrays (head_of t) t)) ≡ refused_in (find_behind t (first_fault no_head t HEAD))
behind-chain t r = go (first_fault no_head t HEAD)
  where
    go : (o : Option FieldFault) → (refused_at (at_field o) >>= λ u. refused_in (find_in_arrays (head_of t) t)) ≡ refused_in (find_behind t o)
    go None = refl
    go (Some g) = refl

find-chain : (t : Members) → (if all_among top_keys t then (chain no_head t HEAD >>= λ u. refused_in (find_in_arrays (head_of t) t)) else Err UnknownKey) ≡ refused_in (find_in t)
find-chain t = go (all_among top_keys t)
  where
    go : (b : Bool) → (if b then (chain no_head t HEAD >>= λ u. refused_in (find_in_arrays (head_of t) t)) else Err UnknownKey) ≡ refused_in (if b then find_behind t (first_fault no_head t HEAD) else Some (at_top spot.Unknown))
    go true = ap (λ o. o >>= λ u. refused_in (find_in_arrays (head_of t) t)) (chain-first no_head t HEAD) ∙ behind-chain t (Ok tt)
    go false = refl

abbrev done : Result Unit Refusal
done = Ok tt

-- the last step of a chain, and what follows it
three-units : (o p q z : Result Unit Refusal) → (o >>= λ u. p >>= λ u. q >>= λ u. z) ≡ ((o >>= λ u. p >>= λ u. q >>= λ u. done) >>= λ u. z)
three-units (Err e) p q z = refl
three-units (Ok u) (Err e) q z = refl
three-units (Ok u) (Ok v) (Err e) z = refl
three-units (Ok u) (Ok v) (Ok w) z = refl

-- the keys of the top table, and then its fields, whose last ones have this outcome
document-chain : (t : Members) (rest : Result Unit Refusal) → chain (head_of t) t ARRAYS ≡ rest
    → outcome (document_of t) ≡ (if all_among top_keys t then (outcome (number_at key.Format FORMAT t) >>= λ u. outcome (number_at key.Stop STOP t) >>= λ u. outcome (number_at key.Mtu MTU t) >>= λ u. rest) else Err UnknownKey)
unfolding document_of
document-chain t rest e =
    head-chain (all_among top_keys t) (required format_of (value_at key.Format t)) (number_at key.Stop STOP t) (number_at key.Mtu MTU t)
    (λ f s m. with_tables (record { format = f; mtu = m }) s t) (outcome (number_at key.Format FORMAT t)) rest (format-outcome (value_at key.Format t))
    (λ f s m is_format is_mtu.
    arrays (record { format = f; mtu = m }) s t
    ∙ ap (λ (h : Head). chain h t ARRAYS) (sym (head-read t f m is_format is_mtu)) ∙ e)

-- the top table is refused where its fields are
pub top_table : (t : Members) → outcome (document_of t) ≡ refused_at (spot_in (head_of t) TOP_TABLE t)
top_table t = document-chain t (chain (head_of t) t ARRAYS) refl ∙ spot-chain (head_of t) t TOP_TABLE

pub document-refused : (t : Members) → outcome (document_of t) ≡ refused_in (find_in t)
document-refused t =
    let number = outcome (number_at key.Format FORMAT t) in
    let stop = outcome (number_at key.Stop STOP t) in
    let mtu = outcome (number_at key.Mtu MTU t) in
    let rest = refused_in (find_in_arrays (head_of t) t) in
    document-chain t rest (sym (arrays-chain (head_of t) t))
    ∙ ap (λ o. if all_among top_keys t then o else Err UnknownKey) (three-units number stop mtu rest)
    ∙ find-chain t
