-- Where the box of a pattern stands: its upper left corner has both coordinates `corner` in a grid
-- of the full sides.
use Rattle.std.specs.Prelude.{ℕ, ◌+◌, ◌*◌, true, false, Option, Some, None}
use Rattle.surf_lattice.specs.declared.site.GridKind.{GridKind}
use Rattle.surf_lattice.specs.Grids.{Grid}
use Rattle.surf_auto.specs.Sync.{box_of}
use Rattle.surf_rle.specs.Headers.{Header}
use Rattle.surf_rle.specs.declared.sheet.Sheet.{Sheet}
use Rattle.surf_rle.specs.declared.torus.Sides.{Sides}

abbrev pub sheet_grid : Sheet → Grid
sheet_grid s = box_of s.kind s.wrap s.full_width s.full_height

abbrev pub area : Sheet → ℕ
area s = s.full_width * s.full_height

-- at the corner of a torus, or inside a margin on each side
abbrev pub sheet_of : ℕ → GridKind → Header → Option Sides → Sheet
sheet_of margin kind h None = record {
  kind = kind;
  wrap = false;
  full_width = h.width + 2 * margin;
  full_height = h.height + 2 * margin;
  width = h.width;
  height = h.height;
  corner = margin;
}
sheet_of margin kind h (Some t) = record {
  kind = kind;
  wrap = true;
  full_width = t.width;
  full_height = t.height;
  width = h.width;
  height = h.height;
  corner = 0;
}
