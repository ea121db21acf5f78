-- The rows of a netlist, placements, and the tile at each column and row.
use Rattle.std.specs.Prelude.{◌≡◌, ℕ, zero, suc, ◌+◌, ◌<◌, ◌≤◌, Bool, true, false, cond, ◌&&◌, nat_eq, nat_lt, is_some, Option, Some, None, List, [], ◌∷◌, map, length, slice_index_or}
use Rattle.surf_tiles.specs.declared.netlist.Gate.{Gate}
use Rattle.surf_tiles.specs.declared.netlist.Gate.TheVariants.{Constant, One, Two}
use Rattle.surf_tiles.specs.declared.tile.Heading.TheVariants.{East as Eastward, West as Westward}
use Rattle.surf_tiles.specs.declared.tile.Tile.{Tile}
use Rattle.surf_tiles.specs.declared.tile.Tile.TheVariants.{Empty as NoTile, Input as Inputs, Constant as Constants, Gate1 as Ones, Gate2 as Twos, Cross as Crosses, Output as Outputs}
use Rattle.surf_tiles.specs.Netlists.{NetlistOf, nets_of}
use Rattle.surf_tiles.specs.Tiles.{wires}

-- what a row of tiles is for: it begins a net, brings a net to a gate, or ends at an output.
-- `device` is the tile in column 0
pub data Row : Type 0 where
  Source : (net : ℕ) → (device : Tile) → Row
  Tap : (net gate : ℕ) → (device : Tile) → Row
  Ends : (net : ℕ) → Row

abbrev pub net_of : Row → ℕ
net_of (Source net device) = net
net_of (Tap net gate device) = net
net_of (Ends net) = net

abbrev pub input_rows : (count net : ℕ) → (below : List Row) → List Row
input_rows zero net below = below
input_rows (suc count) net below = Source net Inputs ∷ input_rows count (net + 1) below

-- a band for each gate. A two-input gate stands beside its second tap, the first tap's wire above
-- it and the wire of its own net below
abbrev pub gate_rows : (net : ℕ) → List Gate → (below : List Row) → List Row
gate_rows net [] below = below
gate_rows net (Constant v ∷ gates) below =
    Source net (Constants v) ∷ gate_rows (net + 1) gates below
gate_rows net (One z o input ∷ gates) below =
    Tap input net (wires false true true false) ∷ Source net (Ones z o)
    ∷ gate_rows (net + 1) gates below
gate_rows net (Two t00 t01 t10 t11 first second ∷ gates) below =
    Tap first net (wires false true true false) ∷ Tap second net (Twos t00 t01 t10 t11)
    ∷ Source net (wires true true false false) ∷ gate_rows (net + 1) gates below

abbrev pub rows_of : NetlistOf → List Row
rows_of N = input_rows N.inputs 0 (gate_rows N.inputs N.gates (map Ends N.outputs))

abbrev pub row_at : NetlistOf → ℕ → Row
row_at N r = slice_index_or (rows_of N) r (Ends 0)

-- the greatest number below a bound that passes a test
abbrev pub greatest : (ℕ → Bool) → ℕ → Option ℕ
greatest test zero = None
greatest test (suc n) = cond (test n) (Some n) (greatest test n)

abbrev pub found : Option ℕ → ℕ
found None = 0
found (Some n) = n

abbrev pub begins : Row → ℕ → Bool
begins (Source net device) n = nat_eq net n
begins row n = false

abbrev pub source_row : NetlistOf → ℕ → ℕ
source_row N n = found (greatest (λ r. begins (row_at N r) n) (length (rows_of N)))

-- the last row that names the net
abbrev pub last_row : NetlistOf → ℕ → ℕ
last_row N n = found (greatest (λ r. nat_eq (net_of (row_at N r)) n) (length (rows_of N)))

-- a column for each net
pub record Placement : Type 0 where
  pub columns : ℕ
  pub column : ℕ → ℕ

abbrev pub HasRow : NetlistOf → (net r : ℕ) → Type 0
HasRow N n r = (source_row N n ≤ r) × (r ≤ last_row N n)

pub record IsPlacement (N : NetlistOf) (p : Placement) : Type 0 where
  pub few : p.columns ≤ 1 + nets_of N
  pub inside : (n : ℕ) → n < nets_of N → (1 ≤ p.column n) × (p.column n < p.columns)
  pub apart : (m n r : ℕ) → m < nets_of N → n < nets_of N → p.column m ≡ p.column n → HasRow N m r →
      HasRow N n r → m ≡ n

-- where a column stands in a row: the devices' column, left of the row's own lane, in it, or right
-- of it
pub data Place : Type 0 where
  Device Left Own Right : Place

abbrev pub place_in : (column lane : ℕ) → Place
place_in zero lane = Device
place_in (suc c) lane = cond (nat_lt (suc c) lane) Left (cond (nat_eq (suc c) lane) Own Right)

-- the table of tiles. `passed` says that a net passes there, and `below` that the row's net goes on
-- below
abbrev pub tile_in : Row → Place → (passed below : Bool) → Tile
tile_in (Source n device) Device passed below = device
tile_in (Source n device) Left passed below =
    cond passed (Crosses Eastward) (wires false true false true)
tile_in (Source n device) Own passed below = wires false false below true
tile_in (Source n device) Right passed below = cond passed (wires true false true false) NoTile
tile_in (Tap n gate device) Device passed below = device
tile_in (Tap n gate device) Left passed below =
    cond passed (Crosses Westward) (wires false true false true)
tile_in (Tap n gate device) Own passed below = wires true false below true
tile_in (Tap n gate device) Right passed below = cond passed (wires true false true false) NoTile
tile_in (Ends n) Device passed below = NoTile
tile_in (Ends n) Left passed below = cond passed (wires true false true false) NoTile
tile_in (Ends n) Own passed below = Outputs below
tile_in (Ends n) Right passed below = cond passed (wires true false true false) NoTile

abbrev pub passes : NetlistOf → Placement → (c r n : ℕ) → Bool
passes N p c r n = nat_eq (p.column n) c && (nat_lt (source_row N n) r && nat_lt r (last_row N n))

-- the net that passes row r in column c
abbrev pub passing : NetlistOf → Placement → (c r : ℕ) → Option ℕ
passing N p c r = greatest (passes N p c r) (nets_of N)

abbrev pub tile_of : NetlistOf → Placement → (c r : ℕ) → Tile
tile_of N p c r =
    tile_in (row_at N r) (place_in c (p.column (net_of (row_at N r)))) (is_some (passing N p c r))
    (nat_lt r (last_row N (net_of (row_at N r))))
