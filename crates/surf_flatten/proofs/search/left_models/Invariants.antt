use Rattle.std.proofs.Common.{reverse}
use Rattle.surf_flatten.proofs.Walking.{Walking, remaining}
use Rattle.surf_flatten.proofs.search.left_models.Given as goal

abbrev pub invariant-loop-place : goal.invariant-loop-place
invariant-loop-place l = Walking l.models l.progress.items (reverse l.path.items) (reverse l.left.items)

abbrev pub decreases-loop-place : goal.decreases-loop-place
decreases-loop-place l = remaining l.models l.progress.items
