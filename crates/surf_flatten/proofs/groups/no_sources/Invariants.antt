use Rattle.std.proofs.Common.{◌≡◌, []}
use Rattle.std.proofs.Math.ListN.{replicate}
use Rattle.surf_flatten.proofs.groups.no_sources.Given as goal

abbrev pub invariant-loop-place : goal.invariant-loop-place
invariant-loop-place l = l.sources.items ≡ replicate l._place []
