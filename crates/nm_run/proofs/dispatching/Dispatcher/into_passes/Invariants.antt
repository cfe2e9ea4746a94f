use Rattle.std.proofs.Common.{◌≡◌, ◌+◌, length, vec_len}
use Rattle.nm_run.proofs.dispatching.Dispatcher.into_passes.Given as goal

abbrev pub invariant-loop-one : goal.invariant-loop-one
invariant-loop-one l = vec_len l.passes ≡ vec_len l.fn.self.passes + length l.yielded
