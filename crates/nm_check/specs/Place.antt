-- The place of a topology text's first fault in its tables.
use Rattle.std.specs.Prelude.{◌≡◌, ◌⊎◌, false, ℕ, if◌then◌else◌, List, Option, Some, None}
use Rattle.std.specs.Prelude.{Result, Ok, Err, ◌==◌, ◌&&◌, nat_le, unwrap_or}
use Rattle.std.specs.Result.{result_ok}
use Rattle.toml.specs.Data.{Data, Items, Members, array, get_item, table}
use Rattle.nm_base.specs.declared.limits.TheConstants.{MIN_MTU}
use Rattle.nm_topology.specs.declared.fault.Refusal.{Refusal}
use Rattle.nm_topology.specs.declared.parse.head.Format.{Format}
use Rattle.nm_topology.specs.declared.parse.head.Format.TheVariants.{One, Two}
use Rattle.nm_topology.specs.declared.parse.head.Head.{Head}
use Rattle.nm_topology.specs.declared.parse.sources.SourceKind.{SourceKind}
use Rattle.nm_topology.specs.Parse.Arrays.{all_fit, count, in_table, is_table}
use Rattle.nm_topology.specs.Parse.Fields.{all_among, number_at, text_at, value_at}
use Rattle.nm_topology.specs.Parse.Sources.{fields_of_kind, source_kind_of, source_table_of}
use Rattle.nm_topology.specs.Parse.Tables.{iface_fields, iface_table_of, link_table_of}
use Rattle.nm_topology.specs.Parse.Tables.{node_table_of}
use Rattle.nm_topology.specs.Parse.Tables.{route_table_of}
use Rattle.nm_topology.specs.declared.keys.array.Array.{Array}
use Rattle.nm_topology.specs.declared.keys.array.Array.TheVariants as array
use Rattle.nm_topology.specs.declared.keys.field.Field.{Field}
use Rattle.nm_topology.specs.declared.keys.fields.TheConstants.{ARRAYS, FORMAT}
use Rattle.nm_topology.specs.declared.keys.fields.TheConstants.{HEAD, KIND_OF_SOURCE, LINK_TABLE}
use Rattle.nm_topology.specs.declared.keys.fields.TheConstants.{MTU, NODE_TABLE, RAW_TABLE}
use Rattle.nm_topology.specs.declared.keys.fields.TheConstants.{ROUTE_TABLE, TOP_TABLE}
use Rattle.nm_topology.specs.declared.keys.key.TableKey.TheVariants as key
use Rattle.nm_check.specs.declared.place.Found.{Found}
use Rattle.nm_check.specs.declared.place.FaultPlace.{FaultPlace}
use Rattle.nm_check.specs.declared.place.FaultPlace.TheVariants as place
use Rattle.nm_check.specs.declared.spot.FieldFault.{FieldFault}
use Rattle.nm_check.specs.declared.spot.Spot.{Spot}
use Rattle.nm_check.specs.declared.spot.Spot.TheVariants as spot
use Rattle.nm_topology.specs.declared.keys.field.Form.{Form}
use Rattle.nm_topology.specs.declared.keys.field.Form.TheVariants as form
use Rattle.nm_check.specs.declared.first.MemberFault.{MemberFault}
use Rattle.nm_check.specs.First.{AreRead, first_from}
use Rattle.nm_topology.specs.Keys.{array_key, array_limit, keys_of}
use Rattle.nm_check.specs.Reading.{first_fault, outcome, spot_in, spot_refusal}

-- the fields of a table of `source`, by its kind
abbrev pub fields_by_kind : Result SourceKind Refusal → List Field
fields_by_kind (Ok kind) = fields_of_kind kind
fields_by_kind (Err r) = RAW_TABLE

abbrev pub source_fields : Members → List Field
source_fields t = fields_by_kind (text_at source_kind_of key.Kind t)

-- the fields of a table of an array, in a text with this head
abbrev pub fields_in : Head → Array → Members → List Field
fields_in head array.Node t = NODE_TABLE
fields_in head array.Iface t = iface_fields head.format
fields_in head array.Link t = LINK_TABLE
fields_in head array.Route t = ROUTE_TABLE
fields_in head array.Source t = source_fields t

-- a fault of the kind of a source, and else what the other fields give
abbrev pub or_spot : Option FieldFault → Option Spot → Option Spot
or_spot None others = others
or_spot (Some f) others = Some (spot.Field f)

-- the place at which a table of `source` is refused: at its kind, before all else
abbrev pub source_spot : Head → Members → Option Spot
source_spot head t =
    or_spot (first_fault head t KIND_OF_SOURCE) (spot_in head (source_fields t) t)

-- the place at which a table of an array is refused
abbrev pub spot_of : Head → Array → Members → Option Spot
spot_of head array.Node t = spot_in head NODE_TABLE t
spot_of head array.Iface t = spot_in head (iface_fields head.format) t
spot_of head array.Link t = spot_in head LINK_TABLE t
spot_of head array.Route t = spot_in head ROUTE_TABLE t
spot_of head array.Source t = source_spot head t

-- whether a member of an array is refused, by the reader of its tables
abbrev pub item_of : Head → Array → Data → Result Unit Refusal
item_of head array.Node d = outcome (in_table node_table_of d)
item_of head array.Iface d = outcome (in_table (iface_table_of head.format) d)
item_of head array.Link d = outcome (in_table link_table_of d)
item_of head array.Route d = outcome (in_table route_table_of d)
item_of head array.Source d = outcome (in_table (source_table_of head.mtu) d)

-- in a table of an array
abbrev pub in_table_at : Array → ℕ → Option Spot → Option FaultPlace
in_table_at a n None = None
in_table_at a n (Some s) = Some (place.Table a n s)

-- the place at which the member of this number is refused
abbrev pub place_at : Head → Array → ℕ → Option Data → Option FaultPlace
place_at head a n (Some (table t)) = in_table_at a n (spot_of head a t)
place_at head a n _ = None

abbrev pub place_of_member : Head → Array → Items → Option MemberFault → Option FaultPlace
place_of_member head a ds None = None
place_of_member head a ds (Some f) = place_at head a f.number (get_item f.number ds)

-- the place of an array's fault, if it is in a table and not in the array itself
abbrev pub place_in_array : Head → Array → Items → Option FaultPlace
place_in_array head a ds =
    if all_fit is_table ds && nat_le (count ds) (array_limit a)
    then place_of_member head a ds (first_from (item_of head a) 0 ds) else None

abbrev pub place_in_value : Head → Form → Option Data → Option FaultPlace
place_in_value head (form.Tables a) (Some (array ds)) = place_in_array head a ds
place_in_value head _ _ = None

abbrev pub place_in_field : Head → Members → Field → Option FaultPlace
place_in_field head t f = place_in_value head f.form (value_at f.key t)

abbrev pub place_of : Head → Members → FieldFault → FaultPlace
place_of head t f = unwrap_or (place_in_field head t f.field) (place.Top (spot.Field f))

-- the head of a text before it is read
abbrev pub no_head : Head
no_head = record { format = One; mtu = MIN_MTU }

-- a head with this format and this mtu, if they are not refused
abbrev pub head_by : Option ℕ → Option ℕ → Head
head_by (Some f) (Some m) = record { format = if f == 1 then One else Two; mtu = m }
head_by _ _ = no_head

abbrev pub head_of : Members → Head
head_of t =
    head_by (result_ok (number_at key.Format FORMAT t)) (result_ok (number_at key.Mtu MTU t))

abbrev pub found_by : Head → Members → Option FieldFault → Option Found
found_by head t None = None
found_by head t (Some f) = Some (record { head = head; place = place_of head t f })

-- the place of a fault in the arrays of a text with this head
abbrev pub find_in_arrays : Head → Members → Option Found
find_in_arrays head t = found_by head t (first_fault head t ARRAYS)

abbrev pub at_top : Spot → Found
at_top s = record { head = no_head; place = place.Top s }

abbrev pub find_behind : Members → Option FieldFault → Option Found
find_behind t None = find_in_arrays (head_of t) t
find_behind t (Some f) = Some (at_top (spot.Field f))

abbrev pub top_keys : List (List ℕ)
top_keys = keys_of TOP_TABLE

-- the place in its tables at which a text is refused, in the reading order
abbrev pub find_in : Members → Option Found
find_in t =
    if all_among top_keys t then find_behind t (first_fault no_head t HEAD)
    else Some (at_top spot.Unknown)

-- what is refused at a place
abbrev pub place_refusal : FaultPlace → Refusal
place_refusal (place.Top s) = spot_refusal s
place_refusal (place.Table a n s) = spot_refusal s

abbrev pub refused_in : Option Found → Result Unit Refusal
refused_in None = Ok tt
refused_in (Some f) = Err (place_refusal f.place)

-- the table of this number in an array is refused at this spot, and all before it are read
pub record IsFirstTable (head : Head) (t : Members) (a : Array) (n : ℕ) (s : Spot) : Type 0 where
  pub items : Items
  pub there : value_at (array_key a) t ≡ Some (array items)
  pub before : AreRead (item_of head a) items n
  pub members : Members
  pub numbered : get_item n items ≡ Some (table members)
  pub refused : spot_of head a members ≡ Some s

-- the place is the first in the reading order: a key that the top table does not have; the first
-- field of its head, or of its arrays; or, in the first array that is refused, the first table
abbrev pub IsFirstPlace : Members → Head → FaultPlace → Type 0
IsFirstPlace t head (place.Top spot.Unknown) = all_among top_keys t ≡ false
IsFirstPlace t head (place.Top (spot.Field f)) =
    (first_fault no_head t HEAD ≡ Some f)
    ⊎ ((first_fault no_head t HEAD ≡ None) × (first_fault (head_of t) t ARRAYS ≡ Some f))
IsFirstPlace t head (place.Table a n s) =
    (head ≡ head_of t) × (first_fault no_head t HEAD ≡ None)
    × (first_fault head t ARRAYS ≡ Some (record {
      field = record { key = array_key a; form = form.Tables a };
      refusal = spot_refusal s;
    }))
    × IsFirstTable head t a n s
