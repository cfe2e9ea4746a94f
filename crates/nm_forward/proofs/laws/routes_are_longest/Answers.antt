use Rattle.nm_forward.proofs.Longest.{route-longest_route}
use Rattle.nm_forward.proofs.laws.routes_are_longest.Goals as goal

pub returns : goal.returns
returns c = route-longest_route
