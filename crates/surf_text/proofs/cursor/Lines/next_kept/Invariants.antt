use Rattle.std.proofs.Common.{◌≡◌, ◌+◌, ◌≤◌, length}
use Rattle.surf_text.specs.Bytes.{lines_of}
use Rattle.surf_text.specs.Cursors.{first_kept}
use Rattle.surf_text.proofs.cursor.Lines.next_kept.Given as goal

abbrev pub invariant-loop-line : goal.invariant-loop-line
invariant-loop-line g l = record {
  same : first_kept g.S.Skip.skipped l.initial.self.number (lines_of l.initial.self.left) ≡ first_kept g.S.Skip.skipped l.self.number (lines_of l.self.left);
  within : length l.self.left ≤ length l.initial.self.left;
  bound : l.self.number + length l.self.left ≤ l.initial.self.number + length l.initial.self.left;
  counted : l.initial.self.number + length (lines_of l.initial.self.left) ≡ l.self.number + length (lines_of l.self.left);
}

abbrev pub decreases-loop-line : goal.decreases-loop-line
decreases-loop-line g l = length l.self.left
