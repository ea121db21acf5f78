-- Grids of sites: which sites are inside, which are neighbours, and in which order they are listed.
use Rattle.std.specs.Prelude.{◌≡◌, ℕ, zero, suc, ◌+◌, ◌-◌, ◌*◌, ◌/◌, ◌%◌, ◌<◌, ◌≤◌, Bool, true, false, if◌then◌else◌, not, ◌&&◌, ◌||◌, ◌==◌, nat_lt, nat_le, List, map, Option, Some, None}
use Rattle.std.specs.List.{range_with_len, filter_map}
use Rattle.surf_lattice.specs.declared.site.Site.{Site}
use Rattle.surf_lattice.specs.declared.site.GridKind.{GridKind}
use Rattle.surf_lattice.specs.declared.site.GridKind.TheVariants.{Square, Hex}

-- a grid: its kind, whether its sides are joined, and its sides
pub record Grid : Type 0 where
  pub kind : GridKind
  pub wrap : Bool
  pub width : ℕ
  pub height : ℕ

-- both sides are at least 1, and at least 3 where they are joined
pub record IsGrid (g : Grid) : Type 0 where
  pub wide : 1 ≤ g.width
  pub high : 1 ≤ g.height
  pub joined : g.wrap ≡ true → (3 ≤ g.width) × (3 ≤ g.height)

-- the number of directions
abbrev pub degree : GridKind → ℕ
degree Square = 4
degree Hex = 6

-- The directions are west, east, north, south, and on a hexagonal grid north-west and south-east.
-- A shift is what a direction adds to a coordinate, and one more.
abbrev pub shift_x : ℕ → ℕ
shift_x zero = 0
shift_x (suc zero) = 2
shift_x (suc (suc zero)) = 1
shift_x (suc (suc (suc zero))) = 1
shift_x (suc (suc (suc (suc zero)))) = 0
shift_x (suc (suc (suc (suc (suc n))))) = 2

abbrev pub shift_y : ℕ → ℕ
shift_y zero = 1
shift_y (suc zero) = 1
shift_y (suc (suc zero)) = 0
shift_y (suc (suc (suc zero))) = 2
shift_y (suc (suc (suc (suc zero)))) = 0
shift_y (suc (suc (suc (suc (suc n))))) = 2

-- a coordinate after a shift: joined sides wrap, and else it has to stay on the side
abbrev pub moved : Bool → ℕ → ℕ → ℕ → Option ℕ
moved true side x shift = Some ((x + shift + side - 1) % side)
moved false side x shift =
    if nat_lt 0 (x + shift) && nat_le (x + shift) side then Some (x + shift - 1) else None

abbrev pub site_from : Option ℕ → Option ℕ → Option Site
site_from (Some x) (Some y) = Some (record { x = x; y = y })
site_from None (Some y) = None
site_from (Some x) None = None
site_from None None = None

-- the neighbour in a direction, if there is one
abbrev pub neighbour : Grid → Site → ℕ → Option Site
neighbour g p i =
    site_from (moved g.wrap g.width p.x (shift_x i)) (moved g.wrap g.height p.y (shift_y i))

abbrev pub IsInside : Grid → Site → Type 0
IsInside g p = (p.x < g.width) × (p.y < g.height)

-- q is p moved in one of the directions, and both are inside
pub record Adjacent (g : Grid) (p q : Site) : Type 0 where
  pub first : IsInside g p
  pub second : IsInside g q
  pub direction : ℕ
  pub listed : direction < degree g.kind
  pub moves : neighbour g p direction ≡ Some q

-- the directions in order
abbrev pub directions : Grid → List ℕ
directions g = range_with_len 0 (degree g.kind)

-- the neighbours that exist, in the order of directions
abbrev pub neighbours : Grid → Site → List Site
neighbours g p = filter_map (neighbour g p) (directions g)

-- the place of a site in row-major order, and the site at a place
abbrev pub place : Grid → Site → ℕ
place g p = p.y * g.width + p.x

abbrev pub site_at : Grid → ℕ → Site
site_at g i = record { x = i % g.width; y = i / g.width }

-- the sites in row-major order
abbrev pub sites : Grid → List Site
sites g = map (site_at g) (range_with_len 0 (g.width * g.height))

-- the number of colours, one more than the directions
abbrev pub colours : Grid → ℕ
colours g = suc (degree g.kind)

abbrev pub colour : Grid → Site → ℕ
colour g p = (p.x + 2 * p.y) % colours g

-- what a direction adds to the colour, modulo the colours: -1, +1, -2, +2, -3, +3
abbrev pub difference : Grid → ℕ → ℕ
difference g i = colours g + shift_x i + 2 * shift_y i - 3

-- the colouring closes on joined sides
abbrev pub is_coloured : Grid → Bool
is_coloured g = not g.wrap || ((g.width % colours g == 0) && (g.height % colours g == 0))
