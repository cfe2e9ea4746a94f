-- How the program ends, and why.
use Rattle.std.specs.Prelude.{◌≡◌, Bool, false, Option, Some, None}
use Rattle.nm_command.specs.declared.status.Status.{Status}
use Rattle.nm_command.specs.declared.status.Status.TheVariants.{Done, Usage, File}
use Rattle.nm_command.specs.Command.{CommandValue, Trace, All, Verify, Certify, Rounds, Script, Check, Show, Text, Series, Packets, Path, Run, Node}
use Rattle.nm_program.specs.Node.{EndsNode}
use Rattle.nm_offline.specs.Output.{Exchange}
use Rattle.nm_offline.specs.Rounds.{EndsRounds}
use Rattle.nm_program.specs.Run.{EndsRun}
use Rattle.nm_program.specs.Surroundings.{Surroundings, files_of}
use Rattle.nm_offline.specs.All.{MakesAll}
use Rattle.nm_offline.specs.Certify.{EndsCertify}
use Rattle.nm_offline.specs.Check.{EndsCheck}
use Rattle.nm_offline.specs.Packets.{EndsPackets}
use Rattle.nm_offline.specs.Path.{EndsPath}
use Rattle.nm_offline.specs.Script.{EndsScript}
use Rattle.nm_offline.specs.Series.{EndsSeries}
use Rattle.nm_offline.specs.Shown.{EndsShown, EndsText}
use Rattle.nm_offline.specs.Traces.{EndsTrace}
use Rattle.nm_offline.specs.Verify.{EndsVerify}

-- The meaning of each status for a command. Words that are no command are `Usage`. Only `all`,
-- `run` and `node` make files.
module _ {S : Type 0} (before after : Surroundings S) where
  -- the word itself says so, and makes no file
  abbrev pub MakesNone : (Exchange S → Exchange S → Type 0) → Type 0
  MakesNone Ends = Ends before.exchange after.exchange × (after.made ≡ before.made)

  abbrev pub ProgramEnds : Option CommandValue → Status → Type 0
  ProgramEnds None status = (status ≡ Usage) × (after ≡ before)
  ProgramEnds (Some (Trace form ways topology iface)) status =
      MakesNone (λ old new. EndsTrace old new
      (record { form = form; ways = ways; topology = topology; iface = iface }) status)
  ProgramEnds (Some (All topology folder ifaces)) status =
      MakesAll (files_of before) (files_of after)
      (record { topology = topology; folder = folder; names = ifaces }) status
      × (after.exchange.output ≡ before.exchange.output)
  ProgramEnds (Some (Verify topology folder ifaces)) status =
      MakesNone (λ old new. EndsVerify old new
      (record { topology = topology; folder = folder; names = ifaces }) status)
  ProgramEnds (Some (Rounds topology max)) status =
      MakesNone (λ old new. EndsRounds old new topology max status)
  ProgramEnds (Some (Script topology steps)) status =
      MakesNone (λ old new. EndsScript old new topology steps status)
  ProgramEnds (Some (Check topology)) status =
      MakesNone (λ old new. EndsCheck old new topology status)
  ProgramEnds (Some (Show topology view)) status =
      MakesNone (λ old new. EndsShown old new view topology status)
  ProgramEnds (Some (Text topology iface)) status =
      MakesNone (λ old new. EndsText old new topology iface status)
  ProgramEnds (Some (Series topology step subject)) status =
      MakesNone (λ old new. EndsSeries old new topology step subject status)
  ProgramEnds (Some (Packets topology source)) status =
      MakesNone (λ old new. EndsPackets old new topology source status)
  ProgramEnds (Some (Path topology node address)) status =
      MakesNone (λ old new. EndsPath old new topology node address status)
  ProgramEnds (Some (Certify topology workers folders)) status =
      MakesNone (λ old new. EndsCertify old new
      (record { topology = topology; folders = folders }) status)
  ProgramEnds (Some (Run topology folder workers replicas keeps)) status =
      EndsRun before after
      (record {
        topology = topology;
        leaving = record { folder = folder; replicas = replicas; keeps = keeps };
      })
      status
  ProgramEnds (Some (Node topology folder partition replica addresses keeps)) status =
      EndsNode before after
      (record {
        topology = topology;
        folder = folder;
        partition = partition;
        replica = replica;
        addresses = addresses;
        keeps = keeps;
      })
      status

-- the status once the output was passed on, or was not: what was written is no more than held back
-- then
abbrev pub status_handed_on : Bool → Status → Status
status_handed_on false Done = File
status_handed_on handed status = status
