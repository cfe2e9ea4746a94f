-- What the program prepares, in the words of the definitions.
use Rattle.nm_forward.specs.declared.prepared.Prepared.{Prepared}
use Rattle.nm_forward.specs.declared.prepared.Prepared.TheVariants as prepared
use Rattle.nm_forward.specs.declared.prepared.Body as program
use Rattle.nm_forward.specs.declared.prepared.Body.TheVariants as body
use Rattle.nm_forward.specs.declared.prepared.Draft as program_out
use Rattle.nm_forward.specs.declared.prepared.Handed.{Handed}
use Rattle.nm_forward.specs.declared.prepared.Handed.TheVariants as handed
use Rattle.nm_forward.specs.declared.counter.Counter.TheVariants.{Raw}
use Rattle.nm_forward.specs.State.{NodeStateValue, state_counted}
use Rattle.nm_forward.specs.Originate.{Consequence, Nothing, Counts, Sends, Originates, Body, Datagram, Message, Whole, Draft, Reacted, concluded}

abbrev pub consequence : Prepared → Consequence
consequence prepared.Nothing = Nothing
consequence (prepared.Counts c) = Counts c
consequence (prepared.Sends via twin) = Sends via twin.packet
consequence (prepared.Originates via twin) = Originates via twin.packet

-- what a source gives goes as it is, and is counted as such; or a packet with it is originated
abbrev pub handed_on : Handed → NodeStateValue → Reacted
handed_on (handed.AsItIs via twin) n = concluded (Sends via twin.packet) (state_counted Raw n)
handed_on (handed.InPacket p) n = concluded (consequence p) n

abbrev pub body_of : program.Body → Body
body_of (body.Datagram ports payload) = Datagram ports payload.now
body_of (body.Message kind rest payload) = Message kind rest payload.now
body_of (body.Whole octets) = Whole octets.now

abbrev pub draft_of : program_out.Draft → Draft
draft_of out = record {
  source = out.source;
  destination = out.destination;
  time_to_live = out.time_to_live;
  body = body_of out.body;
}
