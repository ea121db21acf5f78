use Rattle.std.proofs.Common.{◌<◌, ◌≤◌, ◌^◌, ℕ, IfSome, slice_index_or}
use Rattle.surf_rules.specs.declared.rule.Rule.{Rule}
use Rattle.surf_rules.proofs.sums.right_count.Given as goal

abbrev pub invariant-loop-place : goal.invariant-loop-place
invariant-loop-place l = record {
  above : (k : ℕ) (d : Rule) → k < l.place → IfSome (slice_index_or l.rules k d).right (λ b. b < l.count);
  bound : l.count ≤ 2 ^ 32;
}
