-- How the process of a replica ends.
use Rattle.std.proofs.Common.{◌≡◌, ◌∙◌, ℕ, Option, None, Some, true, refl, ap}
use Rattle.std.specs.Prelude.{IfErr, IfOk, IfSome}
use Rattle.nm_topology.specs.TopologyValue.{TopologyValue}
use Rattle.nm_book.specs.Book.{BookValue}
use Rattle.nm_shared.specs.Home.{Home, home_at, home_of}
use Rattle.nm_replica.specs.Finished.{IsDone}
use Rattle.nm_replica.specs.declared.served.Served.{Served}
use Rattle.nm_process.specs.Ending.{process_end}
use Rattle.nm_process.specs.Process.{IsDoneReplica, is_stall}

-- a book that is left is that of the replica at home
pub done_end : (t : TopologyValue) (p r : ℕ) (home : Home) (closed : Option BookValue) (served : Served) → home ≡ home_at t p r
    → IfSome closed (λ b. (home_of b ≡ home) × IsDone b × (b.handed ≡ 0)) → IfOk (process_end closed served) (λ e. IsDoneReplica t p r e.book)
done_end t p r home None served at left = tt
done_end t p r home (Some b) served at left =
    let same : home_of b ≡ home_at t p r = left.0 ∙ at in
    record {
      topology = ap (λ h. h.topology) same;
      partition = ap (λ h. h.partition) same;
      replica = ap (λ h. h.replica) same;
      finished = left.1;
      whole = left.2;
    }

-- where none is left it is not done
pub stalled_end : (Q : Type 0) (closed : Option BookValue) (served : Served) → (closed ≡ None → Q) → IfErr (process_end closed served) (λ f. is_stall f ≡ true → Q)
stalled_end Q None served left = λ _. left refl
stalled_end Q (Some b) served left = tt
