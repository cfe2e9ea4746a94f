-- The links of a replica: those of the replicas that call it, and those of the peers that it calls.
use Rattle.std.specs.Prelude.{Bool, ◌&&◌, List}
use Rattle.std.specs.List.{list_all}
use Rattle.nm_policy.specs.Ends.{has_ended, is_sure}
use Rattle.nm_policy.specs.declared.callers.Caller.{Caller}
use Rattle.nm_policy.specs.declared.peer.Peer.{Peer}

-- all of them have ended
abbrev pub have_ended : List Caller → List Peer → Bool
have_ended callers peers =
    list_all (λ c. has_ended c.ends) callers && list_all (λ p. has_ended p.ends) peers

-- the ends of all are sure, so that nobody is to call again
abbrev pub are_sure : List Caller → List Peer → Bool
are_sure callers peers =
    list_all (λ c. is_sure c.ends) callers && list_all (λ p. is_sure p.ends) peers
