-- The shift that an enum of the program stands for.
use Rattle.std.specs.Prelude.{ℕ}
use Rattle.surf_lattice.specs.declared.shift.Shift.{Shift}
use Rattle.surf_lattice.specs.declared.shift.Shift.TheVariants.{Back, Stay, Ahead}

-- what is added to a coordinate, and one more
abbrev pub shift_of : Shift → ℕ
shift_of Back = 0
shift_of Stay = 1
shift_of Ahead = 2
