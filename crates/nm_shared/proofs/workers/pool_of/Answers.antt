use denote.Exit.{no}
use denote.Param.{param}
use denote.Param.Send.{arg_send, param_send, sendable}
use Rattle.nm_shared.proofs.workers.pool_of.Goals as goal

-- what both closures ask of the types that threads share
pub join-results-requires-after_bounds : goal.join-results-requires-after_bounds
join-results-requires-after_bounds g c κs within =
    let t = c.type_bounds in (
      (c.requires.named, (c.requires.books, (c.requires.limits, (param_send 0 _ (arg_send _ no (param 0 g.row.C) t.send-C), param_send 1 _ (arg_send _ no (param 1 g.row.J) t.send-J), param_send 4 _ (arg_send _ no (param 4 g.row.C-Share) t.send-C-Share), search (sendable, t.sync-J), search (sendable, t.sync-G), search (sendable, t.sync-R))))),
      (c.requires.named, (c.requires.length, (c.requires.books, (c.requires.limits, (param_send 0 _ (arg_send _ no (param 0 g.row.C) t.send-C), param_send 1 _ (arg_send _ no (param 1 g.row.J) t.send-J), param_send 4 _ (arg_send _ no (param 4 g.row.C-Share) t.send-C-Share), search (sendable, t.sync-J), search (sendable, t.sync-G), search (sendable, t.sync-R)))))),
    )
