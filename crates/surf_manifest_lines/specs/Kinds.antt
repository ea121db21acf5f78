-- Lines by what the reader found.
use Rattle.surf_manifest_lines.specs.declared.line.LineKind.{LineKind}
use Rattle.surf_manifest_lines.specs.declared.line.LineKind.TheVariants as kinds
use Rattle.surf_manifest_lines.specs.Line.{Line}
use Rattle.surf_manifest_lines.specs.Line as lines

abbrev pub line_of_kind : LineKind → Line
line_of_kind kinds.Skipped = lines.Skipped
line_of_kind (kinds.Opens p) = lines.Opens p
line_of_kind (kinds.Closes p) = lines.Closes p
line_of_kind kinds.Includes = lines.Includes
line_of_kind kinds.Unknown = lines.Unknown
line_of_kind (kinds.Content t) = lines.Content t.now
