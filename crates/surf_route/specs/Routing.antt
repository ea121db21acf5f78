-- Rows of tiles that are drawn one after another.
use Rattle.std.specs.Prelude.{◌≡◌, ℕ, zero, suc, ◌+◌, ◌<◌, ◌≤◌, Bool, false, ◌&&◌, nat_eq, nat_lt, is_some, Some, List, [], ◌∷◌, drop, map, length, slice_get, slice_index_or}
use Rattle.std.specs.Option.{option_map}
use Rattle.std.specs.List.{flat_map, range_with_len}
use Rattle.surf_tiles.specs.declared.tile.Tile.{Tile}
use Rattle.surf_tiles.specs.declared.netlist.Gate.{Gate}
use Rattle.surf_tiles.specs.Netlists.{NetlistOf, nets_of}
use Rattle.surf_place.specs.Drawing.{Row, Source, Tap, Ends, Place, Placement, place_in, gate_rows, greatest, last_row, rows_of, source_row, tile_in, tile_of}
use Rattle.surf_place.specs.Placed.{PlacedOf, IsPlaced, placement_of}
use Rattle.surf_route.specs.declared.line.Line.{Line}
use Rattle.surf_route.specs.declared.line.Line.TheVariants.{Source as SourceLine, Tap as TapLine, End as EndLine}
use Rattle.surf_route.specs.declared.sheet.Sheet.{Sheet}

-- a row without the gate that its tap is for
abbrev pub line_of : Row → Line
line_of (Source net device) = SourceLine net device
line_of (Tap net gate device) = TapLine net device
line_of (Ends net) = EndLine net

-- and a row that has it
abbrev pub row_by : Line → Row
row_by (SourceLine net device) = Source net device
row_by (TapLine net device) = Tap net 0 device
row_by (EndLine net) = Ends net

-- the tile of a row at a place, which does not ask for the gate
abbrev pub line_tile : Line → Place → (passed below : Bool) → Tile
line_tile line place passed below = tile_in (row_by line) place passed below

-- its tile in a column, where the table says in which columns another net comes from above
abbrev pub tile_by : Line → (lane : ℕ) → (table : List Bool) → (below : Bool) → (column : ℕ) → Tile
tile_by line lane table below c =
    line_tile line (place_in c lane) (slice_index_or table c false) below

-- its first tiles
abbrev pub line_tiles : Line → (lane : ℕ) → (table : List Bool) → (below : Bool) → (count : ℕ) →
    List Tile
line_tiles line lane table below count =
    map (tile_by line lane table below) (range_with_len 0 count)

-- the net goes from a row to the next in this column
abbrev pub goes : NetlistOf → Placement → (c r n : ℕ) → Bool
goes N p c r n =
    nat_eq (p.column n) c && (nat_lt (source_row N n) (suc r) && nat_lt r (last_row N n))

-- a net comes into a row from the one above it
abbrev pub arrives : NetlistOf → Placement → (c r : ℕ) → Bool
arrives N p c zero = false
arrives N p c (suc r) = is_some (greatest (goes N p c r) (nets_of N))

-- for each column but the first, whether a net comes into this row
pub record IsTable (N : NetlistOf) (p : Placement) (r : ℕ) (table : List Bool) : Type 0 where
  pub long : length table ≡ p.columns
  pub each : (c : ℕ) → suc c < p.columns → slice_index_or table (suc c) false
      ≡ arrives N p (suc c) r

abbrev pub tiles_in_row : NetlistOf → Placement → ℕ → List Tile
tiles_in_row N p r = map (λ c. tile_of N p c r) (range_with_len 0 p.columns)

-- the next row is drawn as this line
abbrev pub IsNext : NetlistOf → (r : ℕ) → Line → Type 0
IsNext N r line = option_map line_of (slice_get (rows_of N) r) ≡ Some line

-- these rows come next
abbrev pub AreNext : NetlistOf → (r : ℕ) → List Row → Type 0
AreNext N r rows =
    (i : ℕ) (row : Row) → slice_get rows i ≡ Some row → slice_get (rows_of N) (r + i) ≡ Some row

-- the rows of a gate
abbrev pub band_of : (net : ℕ) → Gate → List Row
band_of net gate = gate_rows net (gate ∷ []) []

-- the rows of the gates from the j-th on, and of the outputs
abbrev pub gates_below : NetlistOf → (j : ℕ) → List Row
gates_below N j = gate_rows (N.inputs + j) (drop j N.gates) (map Ends N.outputs)

-- these rows are left to draw
abbrev pub AreLeft : PlacedOf → (r : ℕ) → List Row → Type 0
AreLeft d r rows = drop r (rows_of d.netlist) ≡ rows

-- all rows above the next one are drawn, and the table is that of the next one
pub record IsSheet (d : PlacedOf) (s : Sheet) : Type 0 where
  pub placed : IsPlaced d
  pub within : s.row ≤ length (rows_of d.netlist)
  pub table : IsTable d.netlist (placement_of d) s.row s.table.items
  pub tiles : s.tiles.items ≡ flat_map (tiles_in_row d.netlist (placement_of d))
      (range_with_len 0 s.row)
