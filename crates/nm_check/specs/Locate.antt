-- The place at which a topology text is refused, and that this is what is refused of the text.
use Rattle.std.specs.Prelude.{◌≡◌, ℕ, ◌≤◌, List, Ok, Err}
use Rattle.sha2.specs.Sha256.{sha256}
use Rattle.toml.specs.Data.{Members}
use Rattle.toml.specs.View.{table_view}
use Rattle.nm_topology.specs.declared.fault.Refusal.TheVariants.{Range, Text}
use Rattle.nm_topology.specs.Parse.{top_table_of}
use Rattle.nm_topology.specs.Parse.Document.{document_of}
use Rattle.nm_topology.specs.Topology.{network_of, topology_of}
use Rattle.nm_check.specs.declared.locate.Located.{Located}
use Rattle.nm_check.specs.declared.locate.Located.TheVariants as located
use Rattle.nm_check.specs.declared.locate.Reading.{Reading}
use Rattle.nm_check.specs.declared.locate.Reading.TheVariants as reading
use Rattle.nm_check.specs.Place.{IsFirstPlace, place_refusal}

-- the place at which a document is refused, if it is
abbrev pub IsLocatedIn : Members → Reading → Type 0
IsLocatedIn t (reading.Tables table f) =
    (28 ≤ f.head.mtu) × (table_view table ≡ t) × (document_of t ≡ Err (place_refusal f.place))
    × IsFirstPlace t f.head f.place
IsLocatedIn t (reading.Whole d) = document_of t ≡ Ok d

-- the place at which a text is refused, if it is, and that the text is refused for what is refused
-- there; if its tables are all read, only the tests of the whole are left
abbrev pub IsLocated : List ℕ → Located → Type 0
IsLocated text located.Length = topology_of text ≡ Err Range
IsLocated text located.Letters = topology_of text ≡ Err Text
IsLocated text (located.Read (reading.Tables table f)) =
    (28 ≤ f.head.mtu) × (topology_of text ≡ Err (place_refusal f.place))
    × (top_table_of text ≡ Ok (table_view table))
    × IsFirstPlace (table_view table) f.head f.place
IsLocated text (located.Read (reading.Whole d)) = topology_of text ≡ network_of (sha256 text) d
