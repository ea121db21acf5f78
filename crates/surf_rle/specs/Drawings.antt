-- What is left to read of a pattern where some of its cells are drawn.
use Rattle.std.specs.Prelude.{◌≡◌, ℕ, ◌+◌, ◌<◌, ◌≤◌, true, List, ◌++◌, length, map, slice_index, Option, Some, None, Result, Ok, Err, if◌then◌else◌}
use Rattle.std.specs.List.{list_any}
use Rattle.surf_lattice.specs.Grids.{IsGrid, is_coloured, sites, place}
use Rattle.surf_auto.specs.declared.error.SourceError.{SourceError}
use Rattle.surf_auto.specs.declared.error.SourceError.TheVariants.{Unclosed}
use Rattle.surf_rle.specs.Patterns.{Mark, Placed, before_end, has_end, placed, first_fault, covers, unless}
use Rattle.surf_rle.specs.Sheets.{area, sheet_grid}
use Rattle.surf_rle.specs.declared.sheet.Sheet.{Sheet}
use Rattle.surf_rle.specs.declared.sheet.Pen.{Pen}

-- the box lies inside the grid, whose colours close where its sides are joined
pub record IsPlaced (s : Sheet) : Type 0 where
  pub across : s.corner + s.width ≤ s.full_width
  pub down : s.corner + s.height ≤ s.full_height
  pub coloured : is_coloured (sheet_grid s) ≡ true
  pub joined : s.wrap ≡ true → (3 ≤ s.full_width) × (3 ≤ s.full_height)

-- dead and live cells, one for each site of a grid whose colours close
pub record AreCells (s : Sheet) (cells : List ℕ) : Type 0 where
  pub is_grid : IsGrid (sheet_grid s)
  pub coloured : is_coloured (sheet_grid s) ≡ true
  pub one_per_site : length cells ≡ area s
  pub few : area s ≤ 1000000
  pub two : (i : ℕ) → i < length cells → slice_index cells i < 2

-- one cell per site of the grid, and a box that isn't empty
pub record IsSheet (s : Sheet) (cells : List ℕ) : Type 0 where
  pub wide : 1 ≤ s.width
  pub high : 1 ≤ s.height
  pub across : s.corner + s.width ≤ s.full_width
  pub down : s.corner + s.height ≤ s.full_height
  pub whole : length cells ≡ area s
  pub few : length cells ≤ 1000000

-- the cells, and besides those that these signs make live
abbrev pub over : Sheet → List ℕ → List Placed → List ℕ
over s cells ps =
    map
    (λ p. if list_any (covers s.corner p) ps then 1
    else slice_index cells (place (sheet_grid s) p))
    (sites (sheet_grid s))

-- what the signs from here on give
abbrev pub rest_of : Sheet → Pen → List ℕ → List Mark → Result (List ℕ) SourceError
rest_of s pen cells ms =
    unless (first_fault s.width s.height (placed pen.row pen.column (before_end ms)))
    (if has_end ms then Ok (over s cells (placed pen.row pen.column (before_end ms)))
    else Err Unclosed)

-- some signs are drawn: the pattern goes on at a place, it ended, or a sign was a fault
abbrev pub Draws : Sheet → Pen → List ℕ → List Mark → List ℕ →
    Result (Option Pen) SourceError → Type 0
Draws s pen cells ms new (Ok (Some next)) =
    (more : List Mark) → rest_of s pen cells (ms ++ more) ≡ rest_of s next new more
Draws s pen cells ms new (Ok None) = (more : List Mark) → rest_of s pen cells (ms ++ more) ≡ Ok new
Draws s pen cells ms new (Err f) = (more : List Mark) → rest_of s pen cells (ms ++ more) ≡ Err f
