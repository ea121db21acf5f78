use Rattle.surf_lanes.proofs.Placing.{IsSoFar}
use Rattle.surf_lanes.proofs.packing.pack.Given as goal

abbrev pub invariant-loop-span : goal.invariant-loop-span
invariant-loop-span l = IsSoFar l.spans l.span-index (record { lane = l.packing.lane.items; last = l.packing.last.items; row = l.packing.row })
