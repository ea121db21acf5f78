use Rattle.std.proofs.Common.{◌≡◌, ◌+◌, map, length, None}
use Rattle.surf_text.specs.Bytes.{lines_of}
use Rattle.surf_blif.specs.Drafts.{IsDraft, HasRoom, reached_by}
use Rattle.surf_blif.specs.Grammar.{placed}
use Rattle.surf_blif.specs.Logical.{joined_from, logical_lines}
use Rattle.surf_blif.specs.Steps.{at_start, read_on}
use Rattle.surf_blif.proofs.reader.read_model.Given as goal

abbrev pub invariant-loop-lines : goal.invariant-loop-lines
invariant-loop-lines l = record {
  draft : IsDraft l.reading.draft;
  room : HasRoom l.reading.draft (length l.lines.lines.left);
  read : read_on at_start (map placed (logical_lines l.bytes)) ≡ read_on (reached_by l.reading) (map placed (joined_from (l.lines.lines.number + 1) None (lines_of l.lines.lines.left)));
}

abbrev pub decreases-loop-lines : goal.decreases-loop-lines
decreases-loop-lines l = length l.lines.lines.left
