-- The value of a key is refused or not, and the first field of a table that is refused.
use Rattle.std.specs.Prelude.{List, [], ◌∷◌, if◌then◌else◌, Option, Some, None, Result, Ok, Err}
use Rattle.toml.specs.Data.{Data, Members}
use Rattle.nm_base.specs.declared.limits.TheConstants.{MAX_PORTS_OF_NODE}
use Rattle.nm_topology.specs.declared.fault.Refusal.{Refusal}
use Rattle.nm_topology.specs.declared.fault.Refusal.TheVariants.{UnknownKey}
use Rattle.nm_topology.specs.declared.parse.head.Head.{Head}
use Rattle.nm_topology.specs.Parse.Arrays.{array_of, in_table, is_integer, is_table}
use Rattle.nm_topology.specs.Parse.Fields.{all_among, number_in, optional, required, required_text}
use Rattle.nm_topology.specs.Parse.Fields.{value_at}
use Rattle.nm_topology.specs.Parse.Forms.{name_of, node_kind_of, prefix_of, usable_address_of}
use Rattle.nm_topology.specs.Parse.Sources.{octets_of, packets_of, source_kind_of, source_table_of}
use Rattle.nm_topology.specs.Parse.Tables.{iface_table_of, link_table_of, node_table_of}
use Rattle.nm_topology.specs.Parse.Tables.{route_table_of}
use Rattle.nm_topology.specs.declared.keys.array.Array.{Array}
use Rattle.nm_topology.specs.declared.keys.array.Array.TheVariants as array
use Rattle.nm_topology.specs.declared.keys.field.Field.{Field}
use Rattle.nm_topology.specs.declared.keys.field.Form.{Form}
use Rattle.nm_topology.specs.declared.keys.field.Form.TheVariants as form
use Rattle.nm_topology.specs.declared.keys.fields.TheConstants.{PORT}
use Rattle.nm_check.specs.declared.spot.FieldFault.{FieldFault}
use Rattle.nm_check.specs.declared.spot.Spot.{Spot}
use Rattle.nm_check.specs.declared.spot.Spot.TheVariants as spot
use Rattle.nm_topology.specs.Keys.{array_limit, keys_of, size_under}

-- whether a reading was refused and why, whatever it gave
abbrev pub outcome : {X : Type 0} → Result X Refusal → Result Unit Refusal
outcome (Ok x) = Ok tt
outcome (Err r) = Err r

-- the tables of an array
abbrev pub tables_of : Head → Array → Option Data → Result Unit Refusal
tables_of head array.Node v =
    outcome (optional [] (array_of is_table (array_limit array.Node) (in_table node_table_of)) v)
tables_of head array.Iface v =
    outcome (optional []
    (array_of is_table (array_limit array.Iface) (in_table (iface_table_of head.format))) v)
tables_of head array.Link v =
    outcome (optional [] (array_of is_table (array_limit array.Link) (in_table link_table_of)) v)
tables_of head array.Route v =
    outcome (optional [] (array_of is_table (array_limit array.Route) (in_table route_table_of)) v)
tables_of head array.Source v =
    outcome (optional []
    (array_of is_table (array_limit array.Source) (in_table (source_table_of head.mtu))) v)

-- the value of a key, if there is one, in a text with this head
abbrev pub read_as : Head → Form → Option Data → Result Unit Refusal
read_as head (form.Number b) v = outcome (required (number_in b.least b.greatest) v)
read_as head (form.OptionalNumber b) v = outcome (optional 0 (number_in b.least b.greatest) v)
read_as head form.Size v =
    outcome (required (number_in (size_under head.mtu).least (size_under head.mtu).greatest) v)
read_as head form.Name v = outcome (required_text name_of v)
read_as head form.Address v = outcome (required_text usable_address_of v)
read_as head form.Prefix v = outcome (required_text prefix_of v)
read_as head form.NodeKind v = outcome (required_text node_kind_of v)
read_as head form.SourceKind v = outcome (required_text source_kind_of v)
read_as head form.Ports v =
    outcome (optional []
    (array_of is_integer MAX_PORTS_OF_NODE (number_in PORT.least PORT.greatest)) v)
read_as head (form.Tables array) v = tables_of head array v
read_as head form.Packets v = outcome (required (packets_of head.mtu) v)
read_as head form.Octets v = outcome (required (octets_of head.mtu) v)

-- a field of a table
abbrev pub field_of : Head → Members → Field → Result Unit Refusal
field_of head t f = read_as head f.form (value_at f.key t)

-- a field that was read, and else what the others give
abbrev pub fault_or : Field → Result Unit Refusal → Option FieldFault → Option FieldFault
fault_or f (Ok u) others = others
fault_or f (Err r) others = Some (record { field = f; refusal = r })

-- the first field that is refused: all before it are read
abbrev pub first_fault : Head → Members → List Field → Option FieldFault
first_fault head t [] = None
first_fault head t (f ∷ fs) = fault_or f (field_of head t f) (first_fault head t fs)

abbrev pub at_field : Option FieldFault → Option Spot
at_field None = None
at_field (Some f) = Some (spot.Field f)

-- the place at which a table of these fields is refused: a key that is none of theirs, and else the
-- first field
abbrev pub spot_in : Head → List Field → Members → Option Spot
spot_in head fields t =
    if all_among (keys_of fields) t then at_field (first_fault head t fields)
    else Some spot.Unknown

abbrev pub spot_refusal : Spot → Refusal
spot_refusal spot.Unknown = UnknownKey
spot_refusal (spot.Field f) = f.refusal

-- what is refused there, if there is such a place
abbrev pub refused_at : Option Spot → Result Unit Refusal
refused_at None = Ok tt
refused_at (Some s) = Err (spot_refusal s)
