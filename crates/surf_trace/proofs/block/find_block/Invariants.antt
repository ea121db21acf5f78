use Rattle.std.proofs.Common.{◌≡◌, length}
use Rattle.surf_text.specs.Bytes.{lines_of}
use Rattle.surf_trace.specs.TraceTexts.{trace_of, trace_in}
use Rattle.surf_trace.proofs.block.find_block.Given as goal

abbrev pub invariant-loop-line : goal.invariant-loop-line
invariant-loop-line l = trace_of l.text ≡ trace_in l.lines.number (lines_of l.lines.left)

abbrev pub decreases-loop-line : goal.decreases-loop-line
decreases-loop-line l = length l.lines.left
