use Rattle.std.proofs.Common.{◌≡◌, length, []}
use Rattle.surf_text.specs.Bytes.{lines_of}
use Rattle.surf_trace.specs.TraceTexts.{block_of}
use Rattle.surf_trace.proofs.block.read_block.Given as goal

abbrev pub invariant-loop-line : goal.invariant-loop-line
invariant-loop-line l = block_of l.opened l.opened [] (lines_of l.initial.lines.left) ≡ block_of l.opened l.lines.number l.events.items (lines_of l.lines.left)

abbrev pub decreases-loop-line : goal.decreases-loop-line
decreases-loop-line l = length l.lines.left
