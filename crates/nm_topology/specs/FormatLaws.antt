-- What a text of format 1 and the same text of format 2 are read to.
use Rattle.std.specs.Prelude.{◌≡◌, ℕ, ◌≤◌, List, length, Ok}
use Rattle.sha2.specs.Sha256.{sha256}
use Rattle.toml.specs.Data.{Members}
use Rattle.nm_base.specs.declared.limits.TheConstants.{MAX_TEXT_OCTETS}
use Rattle.nm_topology.specs.Formats.{with_digest, with_format_two}
use Rattle.nm_topology.specs.Parse.{top_table_of}
use Rattle.nm_topology.specs.Parse.Document.{document_of}
use Rattle.nm_topology.specs.Topology.{topology_of}

-- the same document with `format = 2` is read to the same, and so is each text of it, the digest
-- aside
pub record SaysTheSameInFormatTwo (t : Members) : Type 0 where
  pub document : document_of (with_format_two t) ≡ document_of t
  pub text : (one two : List ℕ) → length one ≤ MAX_TEXT_OCTETS → length two ≤ MAX_TEXT_OCTETS
      → top_table_of one ≡ Ok t → top_table_of two ≡ Ok (with_format_two t)
      → topology_of two ≡ with_digest (sha256 two) (topology_of one)
