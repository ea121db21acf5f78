-- Netlists that can be drawn, the lanes of their nets, and all tiles in order.
use Rattle.std.specs.Prelude.{◌≡◌, ℕ, ◌+◌, ◌<◌, ◌≤◌, List, [], ◌∷◌, map, length}
use Rattle.std.specs.List.{flat_map, range_with_len}
use Rattle.surf_tiles.specs.declared.tile.Tile.{Tile}
use Rattle.surf_tiles.specs.Netlists.{NetlistOf, nets_of, IsNetlist}
use Rattle.surf_lanes.specs.declared.lanes.Span.{Span}
use Rattle.surf_lanes.specs.Lanes.{LanesOf, lane_at, IsPacked}
use Rattle.surf_place.specs.Drawing.{rows_of, source_row, last_row, Placement, IsPlacement, tile_of}

-- at most a thousand nets, some output, and at most three thousand rows
pub record IsDrawable (N : NetlistOf) : Type 0 where
  pub netlist : IsNetlist N
  pub few : nets_of N ≤ 1000
  pub some : 0 < length N.outputs
  pub rows : length (rows_of N) ≤ 3000

-- the rows of the nets, from the source row to the last
abbrev pub net_spans : NetlistOf → List Span
net_spans N =
    map (λ n. record { from = source_row N n; to = last_row N n }) (range_with_len 0 (nets_of N))

-- spans from the first rows to the last rows
abbrev pub spans_of : (source last : List ℕ) → List Span
spans_of [] last = []
spans_of (s ∷ source) [] = []
spans_of (s ∷ source) (l ∷ last) = record { from = s; to = l } ∷ spans_of source last

-- column 0 holds the devices, and a net in lane j stands in column j + 1
abbrev pub packed : LanesOf → Placement
packed l = record { columns = 1 + l.count; column = λ n. lane_at l n + 1 }

-- a netlist whose nets have lanes
pub record PlacedOf : Type 0 where
  pub netlist : NetlistOf
  pub lanes : LanesOf

abbrev pub placement_of : PlacedOf → Placement
placement_of d = packed d.lanes

-- the lanes are packed, and the three facts on columns hold
pub record IsPlaced (d : PlacedOf) : Type 0 where
  pub drawable : IsDrawable d.netlist
  pub law : IsPacked (net_spans d.netlist) d.lanes
  pub placement : IsPlacement d.netlist (placement_of d)

-- what is kept beside the netlist: how many rows there are, the source row and the last row of each
-- net, and its lane
pub record IsLaid (N : NetlistOf) (rows : ℕ) (source last : List ℕ) (lanes : LanesOf) : Type 0 where
  pub drawable : IsDrawable N
  pub rows_are : rows ≡ length (rows_of N)
  pub sources : source ≡ map (source_row N) (range_with_len 0 (nets_of N))
  pub lasts : last ≡ map (last_row N) (range_with_len 0 (nets_of N))
  pub law : IsPacked (net_spans N) lanes

-- the tiles, row by row
abbrev pub tiles_of : NetlistOf → Placement → List Tile
tiles_of N p =
    flat_map (λ r. map (λ c. tile_of N p c r) (range_with_len 0 p.columns))
    (range_with_len 0 (length (rows_of N)))
