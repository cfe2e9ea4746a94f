-- What a replica did with its trace files.
use Rattle.std.specs.Prelude.{ℕ, List, Option}
use Rattle.nm_base.specs.Sink.{SinkSeen}
use Rattle.nm_base.specs.declared.record.Record.{Record}
use Rattle.nm_pcap.specs.Writer.{Writer}
use Rattle.nm_files.specs.Files.{FilesTook}

-- they took some records, each those at its own interface
abbrev pub TookSome : {S : Type 0} → (S → SinkSeen) → (old new : List (Option (Writer S)))
    → Type 0
TookSome seen old new =
    (records : List (Record (List ℕ))) × FilesTook seen records old new
