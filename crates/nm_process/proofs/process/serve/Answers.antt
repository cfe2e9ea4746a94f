use Rattle.std.proofs.Common.{subst}
use Rattle.nm_peers.specs.Peers.{ArePeers}
use Rattle.nm_process.proofs.process.serve.Goals as goal

pub serve_over-requires-clause-peers : goal.serve_over-requires-clause-peers
serve_over-requires-clause-peers g c = λ κs bounds. (
  c.in_ok-partitions.field-0,
  subst (λ t. ArePeers t c.args.book.now.partition c.args.process.now.listeners.now c.in_ok-partitions.field-0) c.deref.ensures c.in_ok-partitions.ensures,
  c.as_slice.ensures.value,
  c.as_slice-2.ensures.value,
)
