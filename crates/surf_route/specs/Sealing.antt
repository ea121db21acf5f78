-- The sites of a drawing, as they are made one after another.
use Rattle.std.specs.Prelude.{◌≡◌, ℕ, ◌+◌, ◌*◌, List, map}
use Rattle.std.specs.List.{range_with_len}
use Rattle.surf_tiles.specs.declared.kind.Kind.{Kind}
use Rattle.surf_place.specs.Placed.{PlacedOf, placement_of}
use Rattle.surf_route.specs.Sealed.{kind_drawn}

abbrev pub width_of : PlacedOf → ℕ
width_of d = 3 * (placement_of d).columns

-- where the row of sites begins that is the y-th one of a row of tiles
abbrev pub line_start : PlacedOf → (row y : ℕ) → ℕ
line_start d row y = width_of d * (3 * row + y)

-- these are the kinds of the first so many sites
abbrev pub AreKinds : PlacedOf → ℕ → List Kind → Type 0
AreKinds d count kinds =
    kinds ≡ map (kind_drawn d.netlist (placement_of d) (width_of d)) (range_with_len 0 count)
