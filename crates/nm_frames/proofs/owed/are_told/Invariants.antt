use Rattle.std.proofs.Common.{◌≡◌, drop}
use Rattle.std.specs.List.{list_all}
use Rattle.nm_frames.specs.Owed.{is_told}
use Rattle.nm_frames.specs.Version.{promising}
use Rattle.nm_frames.proofs.owed.are_told.Given as goal

abbrev pub invariant-loop-side : goal.invariant-loop-side
invariant-loop-side l = list_all (λ o. is_told l.book (promising l.version) o) (drop l.side-index l.outgoing) ≡ list_all (λ o. is_told l.book (promising l.version) o) l.outgoing
