use Rattle.std.proofs.Common.{◌<◌, ◌≤◌, ◌^◌, ℕ, slice_index_or}
use Rattle.surf_rules.specs.declared.rule.Rule.{Rule}
use Rattle.surf_rules.proofs.sums.left_count.Given as goal

abbrev pub invariant-loop-place : goal.invariant-loop-place
invariant-loop-place l = record {
  above : (k : ℕ) (d : Rule) → k < l.place → (slice_index_or l.rules k d).left < l.count;
  bound : l.count ≤ 2 ^ 32;
}
