use Rattle.std.proofs.Common.{◌≡◌, ℕ, ◌+◌, ◌<◌, slice_index}
use Rattle.surf_life.proofs.rows.add_rows.Given as goal

abbrev pub invariant-loop-x : goal.invariant-loop-x
invariant-loop-x l = (k : ℕ) → k < l.x → slice_index l.sums (k + 1) ≡ slice_index l.above k + slice_index l.own k + slice_index l.below k
