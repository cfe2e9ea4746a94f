use Rattle.nm_run.proofs.Words.{HaveOf, HaveWords}
use Rattle.nm_run.proofs.jobs.words_of.Given as goal

abbrev pub invariant-loop-number : goal.invariant-loop-number
invariant-loop-number l = HaveWords l.topology l.partition l.replicas l.number l.words.items

abbrev pub invariant-loop-replica : goal.invariant-loop-replica
invariant-loop-replica l = record {
  before : HaveWords l.topology l.partition l.replicas l.number l.words.items;
  here : HaveOf l.number l.replica l.words.items;
}
