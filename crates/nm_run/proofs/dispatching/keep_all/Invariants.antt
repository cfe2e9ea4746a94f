use Rattle.std.proofs.Common.{◌≡◌, ◌+◌, length, vec_len}
use Rattle.nm_run.proofs.dispatching.keep_all.Given as goal

abbrev pub invariant-loop-pass : goal.invariant-loop-pass
invariant-loop-pass l = vec_len l.all ≡ vec_len l.fn.all + length l.yielded
