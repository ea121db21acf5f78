-- What holds of every grid.
use Rattle.std.specs.List.{Contains}
use Rattle.std.specs.Prelude.{◌≡◌, ◌≢◌, ◌↔◌, ℕ, ◌+◌, ◌%◌, ◌<◌, ◌⊎◌, true, Some}
use Rattle.surf_lattice.specs.declared.site.Site.{Site}
use Rattle.surf_lattice.specs.declared.site.GridKind.TheVariants.{Square, Hex}
use Rattle.surf_lattice.specs.Grids.{Grid, IsGrid, IsInside, Adjacent, degree, neighbour, neighbours, colours, colour, difference, is_coloured}

-- four directions on square grids, six on hexagonal ones
abbrev pub HasDegrees : Type 0
HasDegrees = (degree Square ≡ 4) × (degree Hex ≡ 6)

-- the listed neighbours are the adjacent sites
abbrev pub ListsAdjacent : Type 0
ListsAdjacent =
    (g : Grid) (p q : Site) → IsInside g p → Contains (neighbours g p) q ↔ Adjacent g p q

abbrev pub NeighboursInside : Type 0
NeighboursInside =
    (g : Grid) (p q : Site) (i : ℕ) → IsInside g p → neighbour g p i ≡ Some q → IsInside g q

-- a site is no neighbour of its own
abbrev pub NeighboursApart : Type 0
NeighboursApart = (g : Grid) → IsGrid g → (p q : Site) → Adjacent g p q → p ≢ q

-- one site in one direction
abbrev pub NeighboursDiffer : Type 0
NeighboursDiffer = (g : Grid) → IsGrid g → (p q r : Site) (i j : ℕ) → IsInside g p →
    i < degree g.kind → j < degree g.kind → i ≢ j → neighbour g p i ≡ Some q →
    neighbour g p j ≡ Some r → q ≢ r

abbrev pub IsSymmetric : Type 0
IsSymmetric = (g : Grid) (p q : Site) → Adjacent g p q → Adjacent g q p

-- one step away, or two
abbrev pub IsNear : Grid → Site → Site → Type 0
IsNear g p q = Adjacent g p q ⊎ ((s : Site) × Adjacent g p s × Adjacent g s q)

-- different sites of distance one or two differ in colour
abbrev pub NearDiffer : Type 0
NearDiffer = (g : Grid) → is_coloured g ≡ true → (p q : Site) → p ≢ q → IsNear g p q →
    colour g p ≢ colour g q

-- the colour of a neighbour follows from the colour and the direction
abbrev pub NeighboursColoured : Type 0
NeighboursColoured = (g : Grid) → is_coloured g ≡ true → (p q : Site) (i : ℕ) → IsInside g p →
    i < degree g.kind → neighbour g p i ≡ Some q → colour g q
    ≡ (colour g p + difference g i) % colours g

-- and other directions have other colours
abbrev pub DirectionsDiffer : Type 0
DirectionsDiffer = (g : Grid) (k i j : ℕ) → i < degree g.kind → j < degree g.kind → i ≢ j →
    (k + difference g i) % colours g ≢ (k + difference g j) % colours g
