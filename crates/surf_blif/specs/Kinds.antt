-- Lines and rows by what the reader found.
use Rattle.std.specs.Prelude.{ℕ, length, map}
use Rattle.surf_text.specs.Bytes.{tokens_of}
use Rattle.surf_blif.specs.declared.kinds.LineKind.{LineKind}
use Rattle.surf_blif.specs.declared.kinds.LineKind.TheVariants as kinds
use Rattle.surf_blif.specs.declared.rows.RowText.{RowText}
use Rattle.surf_blif.specs.Covers.{RowOf, literal_of}
use Rattle.surf_blif.specs.Lines.{Line, Skipped, Model, End, Bad, Inputs, Outputs, Other, Names, Row}

abbrev pub line_of_kind : LineKind → Line
line_of_kind kinds.Skipped = Skipped
line_of_kind (kinds.Model stand) = Model stand
line_of_kind (kinds.End stand) = End stand
line_of_kind kinds.Bad = Bad
line_of_kind (kinds.Inputs rest) = Inputs (tokens_of rest.now)
line_of_kind (kinds.Outputs rest) = Outputs (tokens_of rest.now)
line_of_kind (kinds.Names rest) = Names (tokens_of rest.now)
line_of_kind (kinds.Other token) = Other token.now
line_of_kind (kinds.Row text) = Row (tokens_of text.now)

-- how many bytes the part of the line has that is still to be read
abbrev pub length_of_kind : LineKind → ℕ
length_of_kind kinds.Skipped = 0
length_of_kind (kinds.Model stand) = 0
length_of_kind (kinds.End stand) = 0
length_of_kind kinds.Bad = 0
length_of_kind (kinds.Inputs rest) = length rest.now
length_of_kind (kinds.Outputs rest) = length rest.now
length_of_kind (kinds.Names rest) = length rest.now
length_of_kind (kinds.Other token) = 0
length_of_kind (kinds.Row text) = length text.now

abbrev pub row_said : RowText → RowOf
row_said r = record { literals = map literal_of r.literals.now; output = r.output }
