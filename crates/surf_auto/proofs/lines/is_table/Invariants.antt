use Rattle.std.proofs.Common.{◌≡◌, length}
use Rattle.surf_text.specs.Bytes.{lines_of}
use Rattle.surf_auto.specs.Lines.{first_told}
use Rattle.surf_auto.proofs.lines.is_table.Given as goal

abbrev pub invariant-loop-line : goal.invariant-loop-line
invariant-loop-line l = first_told (lines_of l.bytes) ≡ first_told (lines_of l.lines.left)

abbrev pub decreases-loop-line : goal.decreases-loop-line
decreases-loop-line l = length l.lines.left
