use Rattle.std.proofs.Common.{◌≡◌, map, take}
use Rattle.surf_trace.specs.Sights.{sight_of}
use Rattle.surf_trace.proofs.sight.list_sights.Given as goal

abbrev pub invariant-loop-id : goal.invariant-loop-id
invariant-loop-id l = l.sights.items ≡ map sight_of (take l.id l.names)
