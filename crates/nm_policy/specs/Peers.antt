-- The peers that a replica calls.
use Rattle.std.specs.Prelude.{Bool, true, false, not, ◌==◌, ◌&&◌}
use Rattle.nm_policy.specs.Ends.{after_break, has_ended, once_more, rest_after, rest_of}
use Rattle.nm_policy.specs.declared.ends.Ends.TheVariants.{Open}
use Rattle.nm_policy.specs.declared.peer.Peer.{Peer}

-- a peer at the beginning: not connected, and to be called
abbrev pub new_peer : Peer
new_peer = record { is_called = false; rest = 0; ends = Open }

-- it is to be called: no connection to it is begun, and it has rested
abbrev pub is_due : Peer → Bool
is_due p = not p.is_called && (p.rest == 0)

-- it is not connected, and its link has not ended
abbrev pub is_missing : Peer → Bool
is_missing p = not p.is_called && not (has_ended p.ends)

-- after a connection to it was begun
abbrev pub called : Peer → Peer
called p = record p { is_called = true }

-- after it could not be called
abbrev pub not_called : Peer → Peer
not_called p = record p { rest = rest_of p.ends false }

-- after its link has ended: it may be called again at once, for a Bye that was lost
abbrev pub link_ended : Peer → Peer
link_ended p = record {
  is_called = false;
  rest = rest_of (once_more p.ends) true;
  ends = once_more p.ends;
}

-- after its connection broke: it had sent Hello or not, a period was over since then or not, and
-- somebody was at its other end or nobody
abbrev pub link_broke : (has_greeted had_settled was_there : Bool) → Peer → Peer
link_broke has_greeted had_settled was_there p = record {
  is_called = false;
  rest = rest_of (after_break p.ends has_greeted was_there) had_settled;
  ends = after_break p.ends has_greeted was_there;
}

-- after a poll, at which a period was over or not
abbrev pub rested : (ran_out : Bool) → Peer → Peer
rested ran_out p = record p { rest = rest_after p.rest ran_out }
