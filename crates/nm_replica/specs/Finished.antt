-- That a replica is done.
use Rattle.std.specs.Prelude.{◌≡◌, true}
use Rattle.nm_model.specs.Certificate.{is_done}
use Rattle.nm_sim.specs.Network.{net_of}
use Rattle.nm_book.specs.Book.{BookValue, replica_of}

-- nothing is left to do for the replica
abbrev pub IsDone : BookValue → Type 0
IsDone b = is_done (net_of b.topology) b.partition (replica_of b) ≡ true
