use Rattle.std.proofs.Common.{take}
use Rattle.nm_forward.specs.Routes.{IsLaidOut}
use Rattle.nm_forward.proofs.routes.Routes.of.Given as goal

abbrev pub invariant-loop-route : goal.invariant-loop-route
invariant-loop-route l = IsLaidOut (take l.route-index l.routes) l.occurs l.vias
