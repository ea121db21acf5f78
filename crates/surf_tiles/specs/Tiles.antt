-- Tiles of three by three sites, and the kind of each of their sites.
use Rattle.std.specs.Prelude.{ℕ, zero, suc, Bool, false, cond, List, [], ◌∷◌, map}
use Rattle.surf_tiles.specs.declared.kind.Kind.{Kind}
use Rattle.surf_tiles.specs.declared.kind.Kind.TheVariants.{Empty, Input, Value, Wire, A, B, H, V, P, Q, Gate1, Gate2, Centre}
use Rattle.surf_tiles.specs.declared.tile.Heading.TheVariants.{East as Eastward, West as Westward}
use Rattle.surf_tiles.specs.declared.tile.Tile.{Tile}
use Rattle.surf_tiles.specs.declared.tile.Tile.TheVariants.{Wire as Wires, Input as Inputs, Constant as Constants, Gate1 as Ones, Gate2 as Twos, Cross as Crosses, Output as Outputs}

pub data Side : Type 0 where
  North East South West : Side

-- where a site stands in its tile
pub data Spot : Type 0 where
  Mid Corner : Spot
  At : Side → Spot

-- by its column and row in the tile
abbrev pub spot_of : ℕ → ℕ → Spot
spot_of (suc zero) (suc zero) = Mid
spot_of (suc zero) zero = At North
spot_of (suc (suc zero)) (suc zero) = At East
spot_of (suc zero) (suc (suc zero)) = At South
spot_of zero (suc zero) = At West
spot_of _ _ = Corner

-- a wire tile with these ports
abbrev pub wires : (north east south west : Bool) → Tile
wires north east south west =
    Wires (record { north = north; east = east; south = south; west = west })

-- whether a wire tile has a port on a side
abbrev pub port : Tile → Side → Bool
port (Wires ports) North = ports.north
port (Wires ports) East = ports.east
port (Wires ports) South = ports.south
port (Wires ports) West = ports.west
port _ side = false

-- the kind of a site, by its tile and where it stands there
abbrev pub kind_in : Tile → Spot → Kind
kind_in (Wires ports) Mid = Wire
kind_in (Wires ports) (At side) = cond (port (Wires ports) side) Wire Empty
kind_in Inputs Mid = Input
kind_in Inputs (At East) = Wire
kind_in (Constants v) Mid = Value v
kind_in (Constants v) (At East) = Wire
kind_in (Ones z o) Mid = Gate1 z o
kind_in (Ones z o) (At North) = Wire
kind_in (Ones z o) (At East) = Wire
kind_in (Twos t00 t01 t10 t11) Mid = Gate2 t00 t01 t10 t11
kind_in (Twos t00 t01 t10 t11) (At North) = A
kind_in (Twos t00 t01 t10 t11) (At East) = B
kind_in (Twos t00 t01 t10 t11) (At South) = Wire
kind_in (Crosses heading) Mid = Centre
kind_in (Crosses heading) (At North) = V
kind_in (Crosses heading) (At South) = Q
kind_in (Crosses Eastward) (At West) = H
kind_in (Crosses Eastward) (At East) = P
kind_in (Crosses Westward) (At East) = H
kind_in (Crosses Westward) (At West) = P
kind_in (Outputs south) Mid = Wire
kind_in (Outputs south) (At North) = Wire
kind_in (Outputs south) (At South) = cond south Wire Empty
kind_in _ _ = Empty

abbrev pub columns_of : Tile → (y : ℕ) → List Kind
columns_of t y = map (λ x. kind_in t (spot_of x y)) (0 ∷ 1 ∷ 2 ∷ [])

-- the kinds of a tile's sites, rows first
abbrev pub sites_of : Tile → List (List Kind)
sites_of t = map (columns_of t) (0 ∷ 1 ∷ 2 ∷ [])
