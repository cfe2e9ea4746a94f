-- How many packets were dropped at the queue of an interface.
use Rattle.std.specs.Prelude.{ℕ, List}
use Rattle.nm_base.specs.Count.{saturated}
use Rattle.nm_forward.specs.State.{NodeStateValue}
use Rattle.nm_model.specs.Run.{State}

abbrev pub drops_of : ℕ → State (List ℕ) NodeStateValue → ℕ
drops_of i s = saturated (s.port i).dropped
