-- What contracts see of a link.
use Rattle.std.specs.Prelude.{◌≡◌, ℕ, ◌+◌, ◌<◌, ◌≤◌, Bool, false, List, length, Option, Some, None, is_some}
use Rattle.nm_frames.specs.Session.{SessionValue, peer_name}
use Rattle.nm_frames.specs.declared.replica_name.ReplicaName.{ReplicaName}
use Rattle.nm_frames.specs.Stream.{fault_shown, stated_length}
use Rattle.nm_engine.specs.Acceptor.{AcceptorValue}
use Rattle.nm_base.specs.declared.limits.TheConstants.{MAX_FRAME_OCTETS, MAX_OUT_OCTETS}

pub record LinkValue (W : Type 0) : Type 0 where
  pub wire : W
  -- the acceptor that awaits a session, if the peer connected
  pub acceptor : Option AcceptorValue
  -- None up to the peer's first frame, if the peer connected
  pub session : Option SessionValue
  -- the octets of a frame that has not come whole
  pub rest : List ℕ
  -- the octets that the wire has not taken
  pub out : List ℕ
  pub failed : Bool

-- octets of a frame that has not come whole: they show no fault, and are fewer than its length, if
-- they have that
pub record IsPart (rest : List ℕ) : Type 0 where
  pub none : fault_shown rest ≡ None
  pub short : length rest < 4 + stated_length rest
  pub most : length rest < MAX_FRAME_OCTETS

-- the octets that a link keeps are bounded, whatever the peer sends and takes
pub record IsBounded (rest out : List ℕ) : Type 0 where
  pub part : IsPart rest
  pub out_most : length out ≤ MAX_OUT_OCTETS

-- the peer's Hello was taken
abbrev pub has_greeted : Option SessionValue → Bool
has_greeted None = false
has_greeted (Some session) = is_some session.hello_taken

-- the peer has sent Bye
abbrev pub bye_taken : Option SessionValue → Bool
bye_taken None = false
bye_taken (Some session) = session.bye_taken

-- which replica the peer is, once its Hello was taken
abbrev pub greeted_by : Option SessionValue → Option ReplicaName
greeted_by None = None
greeted_by (Some session) = peer_name session
