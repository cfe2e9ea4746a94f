-- A session written out: of replica 1 of partition 1 with partition 0, from which channel 4 comes,
-- and to which channel 5 goes.
use Rattle.std.specs.Prelude.{ℕ, List, [], ◌∷◌, Some, None, false}
use Rattle.nm_frames.specs.declared.frame.Frame.{Frame}
use Rattle.nm_frames.specs.declared.version.Version.{Version}
use Rattle.nm_frames.specs.declared.version.Version.TheVariants.{Two}
use Rattle.nm_frames.specs.Frame.{hello_frame}
use Rattle.nm_frames.specs.Session.{SessionValue, new_incoming, new_outgoing}

abbrev pub digest : List ℕ
digest = 7 ∷ []

abbrev pub session : SessionValue
session = record {
  me = 1;
  replica = 1;
  peer = 0;
  digest = digest;
  incoming = new_incoming 4 ∷ [];
  outgoing = new_outgoing 5 ∷ [];
  hello_given = None;
  hello_taken = None;
  peer_replica = None;
  offered = Two;
  bye_given = false;
  bye_taken = false;
}

-- the same once replica 0 of the peer greeted in this version
abbrev pub greeted : Version → SessionValue
greeted v = record session { hello_taken = Some v; peer_replica = Some 0 }

-- the session's own Hello of this version
abbrev pub own_hello : ℕ → Frame
own_hello v = hello_frame v 1 1 digest
