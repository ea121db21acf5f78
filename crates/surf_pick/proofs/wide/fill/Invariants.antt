use Rattle.std.proofs.Common.{ℕ, ◌≡◌, ◌<◌, ◌≤◌, slice_index}
use Rattle.surf_pick.specs.Wides.{SameLeaves, SumsFrom}
use Rattle.surf_pick.proofs.wide.fill.Given as goal

abbrev pub invariant-loop-place : goal.invariant-loop-place
invariant-loop-place l = record {
  leaves : SameLeaves l.initial.sums.items l.sums.items l.leaf;
  sums : SumsFrom l.place l.leaf l.sums.items;
  zeros : (i : ℕ) → i < l.place → slice_index l.sums.items i ≡ 0;
  high : l.place ≤ l.leaf;
}

abbrev pub decreases-loop-place : goal.decreases-loop-place
decreases-loop-place l = l.place
