-- How the word `run` ends.
use Rattle.std.proofs.Common.{◌≡◌, ℕ, List, ◌++◌, Option, Result, Ok, Err, IfOk, codes, subst}
use Rattle.nm_base.specs.declared.record.Record.{Record}
use Rattle.nm_topology.specs.Topology.{topology_of}
use Rattle.nm_topology.specs.TopologyValue.{TopologyValue}
use Rattle.nm_sim.specs.Totals.{totals_of}
use Rattle.nm_sim.specs.Trace.{IsTraceBefore}
use Rattle.nm_run.specs.Report.{IsCertifiedRun}
use Rattle.nm_run.specs.declared.report.IfaceTotals.{IfaceTotals}
use Rattle.nm_offline.specs.Lines.{iface_lines}
use Rattle.nm_files.specs.Outputs.{Files}
use Rattle.nm_run.specs.Files.{HaveFiles}
use Rattle.nm_program.specs.Run.{RunAsked, SaysCertified}

pub says_certified : (asked : RunAsked) (before after : Option Files) (t seen : TopologyValue) (found : List IfaceTotals) (records : List (Record (List ℕ))) (text octets : List ℕ)
    → seen ≡ t → IsCertifiedRun t found → HaveFiles before after asked.leaving t found → IsTraceBefore t t.stop records → topology_of text ≡ Ok t
    → ((rs : List (Record (List ℕ))) → IsTraceBefore seen seen.stop rs → octets ≡ codes "certified\n" ++ iface_lines (λ i. totals_of i rs) seen) → SaysCertified asked before after text octets
says_certified asked before after t seen found records text octets same run files trace read said = record {
  network = t;
  read = read;
  totals = found;
  run = run;
  files = files;
  records = records;
  trace = trace;
  said = subst (λ z. IsTraceBefore z z.stop records → octets ≡ codes "certified\n" ++ iface_lines (λ i. totals_of i records) z) same (said records) trace;
}

pub says_if : {V E : Type 0} (items : V → List ℕ) (t seen : TopologyValue) (found : List IfaceTotals) (records : List (Record (List ℕ))) (r : Result V E)
    → seen ≡ t → IsCertifiedRun t found → IsTraceBefore t t.stop records
    → ((rs : List (Record (List ℕ))) → IsTraceBefore seen seen.stop rs → IfOk r (λ v. items v ≡ codes "certified\n" ++ iface_lines (λ i. totals_of i rs) seen))
    → IfOk r (λ v. (asked : RunAsked) (before after : Option Files) (text : List ℕ) → topology_of text ≡ Ok t → HaveFiles before after asked.leaving t found → SaysCertified asked before after text (items v))
says_if items t seen found records (Ok v) same run trace said = λ asked before after text read files. says_certified asked before after t seen found records text (items v) same run files trace read said
says_if items t seen found records (Err e) same run trace said = tt
