use Rattle.std.proofs.Common.{ℕ, ◌≡◌, ◌≤◌, ◌+◌, ◌++◌, ◌∷◌, [], length, Some}
use Rattle.surf_text.specs.Bytes.{lines_of}
use Rattle.surf_blif.specs.Logical.{joined_from}
use Rattle.surf_blif.proofs.logical.LogicalLines.join.Given as goal

abbrev pub invariant-loop-line : goal.invariant-loop-line
invariant-loop-line l = record {
  same : (k : ℕ) → joined_from (l.fn.self.lines.number + 1) (Some (record { number = k; text = l.fn.front ++ 32 ∷ [] })) (lines_of l.fn.self.lines.left) ≡ joined_from (l.self.lines.number + 1) (Some (record { number = k; text = l.self.joined.items })) (lines_of l.self.lines.left);
  within : length l.self.joined.items + length l.self.lines.left ≤ length l.fn.front + 1 + length l.fn.self.lines.left;
  shorter : length l.self.lines.left ≤ length l.fn.self.lines.left;
}

abbrev pub decreases-loop-line : goal.decreases-loop-line
decreases-loop-line l = length l.self.lines.left
