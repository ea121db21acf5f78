-- The layout of a drawing.
use Rattle.std.specs.Prelude.{ℕ, ◌+◌, ◌-◌, ◌*◌, ◌/◌, ◌%◌, List, [], ◌∷◌, map, length}
use Rattle.std.specs.List.{range_with_len}
use Rattle.surf_tiles.specs.declared.kind.Kind.{Kind}
use Rattle.surf_lattice.specs.declared.site.Site.{Site}
use Rattle.surf_tiles.specs.Netlists.{NetlistOf}
use Rattle.surf_settle.specs.Law.{Plan}
use Rattle.surf_tiles.specs.Tiles.{spot_of, kind_in}
use Rattle.surf_tiles.specs.declared.tile.Tile.{Tile}
use Rattle.surf_place.specs.Placed.{PlacedOf, placement_of, tiles_of}
use Rattle.surf_place.specs.Drawing.{rows_of, Placement, tile_of}

-- the kind of the site at a place in row-major order
abbrev pub kind_drawn : NetlistOf → Placement → (width place : ℕ) → Kind
kind_drawn N p width place =
    kind_in (tile_of N p (place % width / 3) (place / width / 3))
    (spot_of (place % width % 3) (place / width % 3))

-- the centre of a tile
abbrev pub centre : (column row : ℕ) → Site
centre column row = record { x = 3 * column + 1; y = 3 * row + 1 }

-- the inputs stand in the first rows, and the outputs in the last ones
abbrev pub input_sites : NetlistOf → List Site
input_sites N = map (centre 0) (range_with_len 0 N.inputs)

abbrev pub output_sites : Placement → (row : ℕ) → (outputs : List ℕ) → List Site
output_sites p row [] = []
output_sites p row (net ∷ outputs) = centre (p.column net) row ∷ output_sites p (row + 1) outputs

abbrev pub sealed : NetlistOf → Placement → Plan
sealed N p = record {
  netlist = N;
  width = 3 * p.columns;
  height = 3 * length (rows_of N);
  kinds = map (kind_drawn N p (3 * p.columns))
      (range_with_len 0 (3 * p.columns * (3 * length (rows_of N))));
  inputs = input_sites N;
  outputs = output_sites p (length (rows_of N) - length N.outputs) N.outputs;
}

-- the layout and the tiles of a drawing
abbrev pub sealed_of : PlacedOf → Plan
sealed_of d = sealed d.netlist (placement_of d)

abbrev pub tiles_by : PlacedOf → List Tile
tiles_by d = tiles_of d.netlist (placement_of d)
