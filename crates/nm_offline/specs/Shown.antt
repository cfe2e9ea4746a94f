-- The words `report`, `dot` and `text`: a run or a network in words and pictures.
use Rattle.std.specs.Prelude.{◌≡◌, ◌⊎◌, ℕ, List, [], Some, Ok, length}
use Rattle.nm_model.specs.Before.{IsBefore}
use Rattle.nm_topology.specs.Topology.{topology_of}
use Rattle.nm_topology.specs.TopologyValue.{TopologyValue}
use Rattle.nm_command.specs.declared.status.Status.{Status}
use Rattle.nm_command.specs.declared.status.Status.TheVariants.{Done}
use Rattle.nm_command.specs.declared.view.View.{View}
use Rattle.nm_command.specs.declared.view.View.TheVariants.{Delays, Graph, Load, Rows, Tables, Values}
use Rattle.nm_sim.specs.Network.{net_of}
use Rattle.nm_measure.specs.Lines.{EndsLine}
use Rattle.nm_report.specs.Csv.{HaveValues}
use Rattle.nm_report.specs.Sources.{AreRows}
use Rattle.nm_series.specs.Buckets.{AreDelayRows}
use Rattle.nm_offline.specs.Input.{IsRefused}
use Rattle.nm_offline.specs.Output.{EndsWord, Exchange, FailsOfInput, SaysOfInput}
use Rattle.nm_offline.specs.Traces.{HasNoIface, iface_named}

-- what a text for a program says of the whole run of a network: in all events before `stop`
pub record ShowsRun (Has : (events : ℕ) → List ℕ → Type 0) (t : TopologyValue) (octets : List ℕ)
    : Type 0 where
  pub events : ℕ
  pub over : IsBefore (net_of t) t.stop events
  pub has : Has events octets

-- the values of nodes, interfaces and sources, a row of them for each source, and how the delays of
-- each are spread; tables for people and pictures may have any words
abbrev pub ShowsView : View → TopologyValue → List ℕ → Type 0
ShowsView Values t octets = ShowsRun (HaveValues t) t octets
ShowsView Rows t octets = ShowsRun (λ n text. AreRows t n (length t.sources) text) t octets
ShowsView Tables t octets = Unit {0}
ShowsView Delays t octets = ShowsRun (λ n text. AreDelayRows t n (length t.sources) text) t octets
ShowsView Graph t octets = Unit {0}
ShowsView Load t octets = Unit {0}

-- the view of the network of a text, in whole lines
pub record IsShown (view : View) (text octets : List ℕ) : Type 0 where
  pub network : TopologyValue
  pub read : topology_of text ≡ Ok network
  pub lines : EndsLine octets
  pub shows : ShowsView view network octets

-- whole lines, or nothing
abbrev pub ArePacketLines : List ℕ → Type 0
ArePacketLines octets = (octets ≡ []) ⊎ EndsLine octets

-- the text of the interface of that name is whole lines, or nothing
pub record IsShownAt (name text octets : List ℕ) : Type 0 where
  pub network : TopologyValue
  pub read : topology_of text ≡ Ok network
  pub iface : ℕ
  pub named : iface_named network.ifaces (Some name) ≡ Some iface
  pub lines : ArePacketLines octets

-- both are printed once they are made
abbrev pub SaysShown : View → List ℕ → Status → List ℕ → Type 0
SaysShown view text status octets = (status ≡ Done) × IsShown view text octets

abbrev pub SaysText : List ℕ → List ℕ → Status → List ℕ → Type 0
SaysText name text status octets = (status ≡ Done) × IsShownAt name text octets

-- The meaning of each status.
module _ {S : Type 0} (before after : Exchange S) where
  abbrev pub EndsShown : View → List ℕ → Status → Type 0
  EndsShown view topology status =
      EndsWord before after (SaysOfInput before.inputs topology (SaysShown view))
      (FailsOfInput before.inputs after.inputs topology IsRefused) status

  abbrev pub EndsText : List ℕ → List ℕ → Status → Type 0
  EndsText topology name status =
      EndsWord before after (SaysOfInput before.inputs topology (SaysText name))
      (FailsOfInput before.inputs after.inputs topology (HasNoIface (Some name))) status
