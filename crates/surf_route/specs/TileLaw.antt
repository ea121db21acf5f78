-- A law over tiles.
use Rattle.std.specs.Prelude.{◌≡◌, ℕ, ◌+◌, ◌-◌, ◌<◌, Bool, true, false, cond}
use Rattle.surf_tiles.specs.declared.netlist.Gate.TheVariants.{Constant, One, Two}
use Rattle.surf_tiles.specs.declared.tile.Heading.TheVariants.{East as Eastward, West as Westward}
use Rattle.surf_tiles.specs.declared.tile.Tile.{Tile}
use Rattle.surf_tiles.specs.declared.tile.Tile.TheVariants.{Empty as NoTile, Wire as Wires, Input as Inputs, Constant as Constants, Gate1 as Ones, Gate2 as Twos, Cross as Crosses, Output as Outputs}
use Rattle.surf_tiles.specs.Netlists.{NetlistOf, IsGate}
use Rattle.surf_tiles.specs.Tiles.{Side, North, East, South, West, port}

abbrev pub opposite : Side → Side
opposite North = South
opposite East = West
opposite South = North
opposite West = East

abbrev pub same_side : Side → Side → Bool
same_side North North = true
same_side East East = true
same_side South South = true
same_side West West = true
same_side _ _ = false

-- which way a value goes through a side of a tile. `entry` is the side by which a wire tile is
-- entered
pub data Flow : Type 0 where
  Shut In Out : Flow

abbrev pub flow : Tile → (entry : Side) → Side → Flow
flow (Wires ports) entry side =
    cond (port (Wires ports) side) (cond (same_side side entry) In Out) Shut
flow Inputs entry East = Out
flow (Constants v) entry East = Out
flow (Ones z o) entry North = In
flow (Ones z o) entry East = Out
flow (Twos t00 t01 t10 t11) entry North = In
flow (Twos t00 t01 t10 t11) entry East = In
flow (Twos t00 t01 t10 t11) entry South = Out
flow (Crosses heading) entry North = In
flow (Crosses heading) entry South = Out
flow (Crosses Eastward) entry West = In
flow (Crosses Eastward) entry East = Out
flow (Crosses Westward) entry West = Out
flow (Crosses Westward) entry East = In
flow (Outputs south) entry North = In
flow (Outputs south) entry South = cond south Out Shut
flow _ entry side = Shut

-- the side by which the middle of a tile reads
abbrev pub enters : Tile → (entry : Side) → (read : Bool) → Side
enters (Wires ports) entry i = entry
enters (Twos t00 t01 t10 t11) entry i = cond i East North
enters (Crosses Eastward) entry i = cond i North West
enters (Crosses Westward) entry i = cond i North East
enters _ entry i = North

-- the slot of the middle that a side is joined to
abbrev pub joined : Tile → Side → Bool
joined (Crosses heading) North = true
joined (Crosses heading) South = true
joined _ side = false

-- a wire tile is entered by one of its ports
abbrev pub IsEntered : Tile → Side → Type 0
IsEntered (Wires ports) entry = port (Wires ports) entry ≡ true
IsEntered _ entry = Unit {0}

-- the tiles, by column and row, and what the law over them says exists
pub record Tiling : Type 0 where
  pub tile : ℕ → ℕ → Tile
  pub entry : ℕ → ℕ → Side
  pub port_net : ℕ → ℕ → Side → ℕ
  pub mid_net : ℕ → ℕ → Bool → ℕ
  pub level : ℕ → ℕ → Bool → ℕ

abbrev pub column_beyond : Side → ℕ → ℕ
column_beyond East c = c + 1
column_beyond West c = c - 1
column_beyond _ c = c

abbrev pub row_beyond : Side → ℕ → ℕ
row_beyond North r = r - 1
row_beyond South r = r + 1
row_beyond _ r = r

abbrev pub HasBeyond : (columns rows : ℕ) → Side → ℕ → ℕ → Type 0
HasBeyond columns rows North c r = 0 < r
HasBeyond columns rows East c r = c + 1 < columns
HasBeyond columns rows South c r = r + 1 < rows
HasBeyond columns rows West c r = 0 < c

abbrev pub flow_at : Tiling → ℕ → ℕ → Side → Flow
flow_at t c r side = flow (t.tile c r) (t.entry c r) side

-- the nets of a tile's ports and of its middle
abbrev pub TileNets : NetlistOf → Tile → (mid : Bool → ℕ) → (ports : Side → ℕ) → Type 0
TileNets N NoTile mid ports = Unit {0}
TileNets N (Wires sides) mid ports =
    (side : Side) → port (Wires sides) side ≡ true → ports side ≡ mid false
TileNets N Inputs mid ports = ports East ≡ mid false
TileNets N (Constants v) mid ports = (ports East ≡ mid false) × IsGate N (mid false) (Constant v)
TileNets N (Ones z o) mid ports =
    (ports East ≡ mid false) × IsGate N (mid false) (One z o (ports North))
TileNets N (Twos t00 t01 t10 t11) mid ports =
    (ports South ≡ mid false)
    × IsGate N (mid false) (Two t00 t01 t10 t11 (ports North) (ports East))
TileNets N (Crosses heading) mid ports = (ports East ≡ mid false) × (ports West ≡ mid false)
    × (ports North ≡ mid true) × (ports South ≡ mid true)
TileNets N (Outputs south) mid ports =
    (ports North ≡ mid false) × (south ≡ true → ports South ≡ mid false)

-- a port faces the opposite port of the tile beyond, of the same net; one of them is a way out, and
-- the other a way in, of a higher level
pub record Faces (columns rows : ℕ) (t : Tiling) (c r : ℕ) (side : Side) : Type 0 where
  pub there : HasBeyond columns rows side c r
  pub opens : flow_at t (column_beyond side c) (row_beyond side r) (opposite side) ≡ Out
  pub same_net : t.port_net c r side ≡ t.port_net (column_beyond side c) (row_beyond side r)
      (opposite side)
  pub lower : t.level (column_beyond side c) (row_beyond side r)
      (joined (t.tile (column_beyond side c) (row_beyond side r)) (opposite side)) < t.level c r
      (joined (t.tile c r) side)

pub record TileLaw (N : NetlistOf) (columns rows : ℕ) (t : Tiling) : Type 0 where
  pub entered : (c r : ℕ) → c < columns → r < rows → IsEntered (t.tile c r) (t.entry c r)
  pub comes_in : (c r : ℕ) → c < columns → r < rows → (side : Side) → flow_at t c r side ≡ In →
      Faces columns rows t c r side
  pub goes_out : (c r : ℕ) → c < columns → r < rows → (side : Side) → flow_at t c r side ≡ Out →
      HasBeyond columns rows side c r
      × (flow_at t (column_beyond side c) (row_beyond side r) (opposite side) ≡ In)
  pub nets : (c r : ℕ) → c < columns → r < rows → TileNets N (t.tile c r) (t.mid_net c r)
      (t.port_net c r)
