use Rattle.std.proofs.Common.{◌≡◌, ◌≤◌, ◌-◌, map, length}
use Rattle.surf_text.specs.Bytes.{lines_of}
use Rattle.surf_manifest.specs.Drafts.{IsDraft}
use Rattle.surf_manifest_lines.specs.Line.{line_of}
use Rattle.surf_manifest.specs.Grammar.{manifest_of}
use Rattle.surf_manifest.specs.Limits.{after_lines, at_start, read_on}
use Rattle.surf_manifest.specs.Readings.{IsCounted, reached_by}
use Rattle.surf_manifest.proofs.reader.read_lines.Given as goal

abbrev pub invariant-loop-line : goal.invariant-loop-line
invariant-loop-line l = record {
  draft : IsDraft l.reading.draft;
  within : length l.lines.left ≤ length l.text;
  counted : IsCounted (length l.text - length l.lines.left) (reached_by l.reading);
  read : manifest_of l.text ≡ read_on (reached_by l.reading) (map line_of (lines_of l.lines.left));
  after : after_lines at_start (map line_of (lines_of l.text)) ≡ after_lines (reached_by l.reading) (map line_of (lines_of l.lines.left));
}

abbrev pub decreases-loop-line : goal.decreases-loop-line
decreases-loop-line l = length l.lines.left
