-- The TOML document of a text.
pub mod Arrays
pub mod Document
pub mod DocumentValue
pub mod Fields
pub mod Forms
pub mod NamedRawValue
pub mod Ranges
pub mod SourceTableValue
pub mod Sources
pub mod TableValues
pub mod Tables
use Rattle.nm_topology.specs.declared.fault.Refusal.{Refusal}
use Rattle.nm_topology.specs.declared.fault.Refusal.TheVariants.{Text}
use Rattle.std.specs.Option.{ok_or}
use Rattle.std.specs.Prelude.{ℕ, ◌==◌, if◌then◌else◌, List, Result, Err, length}
use Rattle.std.specs.Str.Lossy.{utf8_valid_len}
use Rattle.toml.specs.Data.{Members}
use Rattle.toml.specs.Parse.{parse_document}

-- the TOML document of a text of octets
abbrev pub top_table_of : List ℕ → Result Members Refusal
top_table_of text =
    if utf8_valid_len text == length text then ok_or (parse_document text) Text else Err Text
