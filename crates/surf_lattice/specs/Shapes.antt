-- The grids of two sides.
use Rattle.std.specs.Prelude.{ℕ, true, false}
use Rattle.surf_lattice.specs.declared.site.GridKind.TheVariants.{Square, Hex}
use Rattle.surf_lattice.specs.Grids.{Grid}

abbrev pub square : ℕ → ℕ → Grid
square width height = record { kind = Square; wrap = false; width = width; height = height }

abbrev pub hex : ℕ → ℕ → Grid
hex width height = record { kind = Hex; wrap = false; width = width; height = height }

-- the same grid with its sides joined
abbrev pub joined : Grid → Grid
joined g = record g { wrap = true }
