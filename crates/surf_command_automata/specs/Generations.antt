-- The source that the text of an automaton spells, and a generation of it as text.
use Rattle.std.specs.Prelude.{ℕ, List, map, Result, Ok, Err, if◌then◌else◌}
use Rattle.std.specs.Fmt.{decimal}
use Rattle.surf_lattice.specs.Grids.{Grid, sites}
use Rattle.surf_auto.specs.Lines.{is_table}
use Rattle.surf_auto.specs.Sync.{Universe}
use Rattle.surf_auto.specs.declared.error.SourceError.{SourceError}
use Rattle.surf_rle.specs.Rle.{rle_of}
use Rattle.surf_rle.specs.Sources.{Plain, shown, universe_of}
use Rattle.surf_rle.specs.Sources as sources
use Rattle.surf_table.specs.TableTexts.{table_of}
use Rattle.surf_status.specs.declared.status.Refusal.{Refusal}
use Rattle.surf_status.specs.declared.status.Refusal.TheVariants.{Source}
use Rattle.surf_cells.specs.Rows.{rows_text}

abbrev pub as_source : Result Universe SourceError → Result sources.Source SourceError
as_source (Ok U) = Ok (Plain U)
as_source (Err e) = Err e

-- a table where the first line that tells says so, else a pattern in RLE, with a margin on each
-- side
abbrev pub source_of : ℕ → List ℕ → Result sources.Source SourceError
source_of margin input =
    if is_table input then as_source (table_of margin input) else rle_of margin input

-- the grid of the cells
abbrev pub source_grid : sources.Source → Grid
source_grid S = (universe_of S).grid

-- the states of all cells after so many steps, in rows
abbrev pub generation_text : ℕ → sources.Source → List ℕ
generation_text times S =
    rows_text (source_grid S) (map decimal (map (shown S times) (sites (source_grid S))))

abbrev pub printed_generation : ℕ → Result sources.Source SourceError → Result (List ℕ) Refusal
printed_generation times (Ok S) = Ok (generation_text times S)
printed_generation times (Err e) = Err (Source e)
