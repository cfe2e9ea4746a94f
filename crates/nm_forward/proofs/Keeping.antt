-- What a node knows of itself stays.
use Rattle.std.proofs.Common.{◌≡◌, ℕ, Bool, true, false, cond, List, Option, Some, None, Result, Ok, Err, refl, ap, ◌∙◌}
use Rattle.std.specs.Prelude.{◌==◌, slice_get, IfOk, OnErr}
use Rattle.nm_base.specs.declared.event.Origin.{Origin}
use Rattle.nm_base.specs.declared.event.Origin.TheVariants.{Arrival, Source as FromSource}
use Rattle.nm_iface.specs.PortValue.{PortValue}
use Rattle.nm_packet.specs.Ipv4.{cut_of}
use Rattle.nm_topology.specs.declared.traffic.Source.{Source}
use Rattle.nm_topology.specs.declared.traffic.Traffic.{Traffic}
use Rattle.nm_topology.specs.declared.traffic.Traffic.TheVariants.{Cbr, Echo, Raw}
use Rattle.nm_topology.specs.PartValues.{IfaceValue}
use Rattle.nm_forward.specs.declared.reaction.Reaction.{Reaction}
use Rattle.nm_topology.specs.TopologyValue.{TopologyValue}
use Rattle.nm_forward.specs.State.{NodeConfiguration, NodeStateValue, table_of, state_counted}
use Rattle.nm_forward.specs.Row.{arrival_row, row_counter}
use Rattle.nm_forward.specs.Originate.{consequence_of, Consequence, Nothing, Counts, Sends, Originates, originate, concluded}
use Rattle.nm_forward.specs.Reaction.{handed, handed_by, reaction, arrived}
use Rattle.nm_forward.specs.Reacting.{IsReaction}

concluded-table : (c : Consequence) (n : NodeStateValue) → (concluded c n).0.table ≡ n.table
concluded-table Nothing n = refl
concluded-table (Counts c) n = refl
concluded-table (Sends via x) n = refl
concluded-table (Originates via x) n = refl

pub arrived-table : (ifaces : List IfaceValue) (table : NodeConfiguration) (n : NodeStateValue) (x : List ℕ)
    → (arrived ifaces table n x).0.table ≡ n.table
unfolding arrived
arrived-table ifaces table n x =
    concluded-table (consequence_of ifaces table n.identification (cut_of x) (arrival_row table x))
    (state_counted (row_counter (arrival_row table x)) n)

module _ (t : TopologyValue) (v : ℕ) (n : NodeStateValue) (x : List ℕ) where
  handed-table : (traffic : Traffic)
      → (handed t.ifaces (table_of t v) n traffic x).0.table ≡ n.table
  handed-table (Cbr c) = concluded-table (originate t.ifaces (table_of t v) n.identification _) n
  handed-table (Echo e) = concluded-table (originate t.ifaces (table_of t v) n.identification _) n
  handed-table (Raw r) = refl

  by-table : (o : Option Source) → (handed_by t v n o x).0.table ≡ n.table
  by-table None = refl
  by-table (Some s) = at (s.node == v) where
    at : (b : Bool) →
        (cond b (handed t.ifaces (table_of t v) n s.traffic x) (n, None)).0.table ≡ n.table
    at true = handed-table s.traffic
    at false = refl

  pub reaction-table : (o : Origin) → (reaction t v n o x).0.table ≡ n.table
  unfolding reaction
  reaction-table (Arrival i) = arrived-table t.ifaces (table_of t v) n x
  reaction-table (FromSource j) = by-table (slice_get t.sources j)

-- where a call leaves what the definition says, or what was there
pub kept : {E : Type 0} (ports : List (Option PortValue)) (r : Result Reaction E)
    (new old : NodeStateValue) (after : NodeStateValue × Option (ℕ × List ℕ))
    → after.0.table ≡ old.table
    → IfOk r (λ x. IsReaction ports x new after) → OnErr r (new ≡ old) → new.table ≡ old.table
kept ports (Ok x) new old after same ok err = ap (λ s. s.table) ok.0 ∙ same
kept ports (Err e) new old after same ok err = ap (λ s. s.table) err
