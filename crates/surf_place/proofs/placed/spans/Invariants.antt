use Rattle.std.proofs.Common.{◌≡◌, ◌-◌, ◌++◌, length, drop}
use Rattle.surf_place.specs.Placed.{spans_of}
use Rattle.surf_place.proofs.placed.spans.Given as goal

abbrev pub invariant-loop-i : goal.invariant-loop-i
invariant-loop-i l = l.spans.items ++ spans_of (drop l.i l.source) (drop l.i l.last) ≡ spans_of l.source l.last

abbrev pub decreases-loop-i : goal.decreases-loop-i
decreases-loop-i l = length l.source - l.i
