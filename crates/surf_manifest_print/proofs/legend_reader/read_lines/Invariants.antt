use Rattle.std.proofs.Common.{◌≡◌, length}
use Rattle.surf_text.specs.Bytes.{lines_of}
use Rattle.surf_manifest_print.specs.LegendReadings.{KnowsSites, parts_of}
use Rattle.surf_manifest_print.specs.LegendTexts.{legend_in, legend_of}
use Rattle.surf_manifest_print.proofs.legend_reader.read_lines.Given as goal

abbrev pub invariant-loop-line : goal.invariant-loop-line
invariant-loop-line l = record {
  read : legend_of l.bytes ≡ legend_in l.lines.number (parts_of l.reading) (lines_of l.lines.left);
  sites : KnowsSites l.reading;
}

abbrev pub decreases-loop-line : goal.decreases-loop-line
decreases-loop-line l = length l.lines.left
