use Rattle.std.proofs.Common.{◌≡◌, take}
use Rattle.surf_place.specs.Placed.{placement_of}
use Rattle.surf_route.specs.Sealed.{output_sites}
use Rattle.surf_route.proofs.ends.output_sites.Given as goal

abbrev pub invariant-loop-k : goal.invariant-loop-k
invariant-loop-k l = l.sites.items ≡ output_sites (placement_of l.drawing) l.first (take l.k l.outputs)
