use Rattle.std.proofs.Common.{◌≡◌}
use Rattle.std.specs.Option.{option_map}
use Rattle.nm_forward.specs.Routes.{route_of, longest_below}
use Rattle.nm_forward.proofs.routes.Routes.look.Given as goal

abbrev pub invariant-loop-length : goal.invariant-loop-length
invariant-loop-length l =
    route_of l.«self» l.address ≡ option_map (λ r. r.via)
    (longest_below l.length l.«self» l.address)
