use Rattle.std.proofs.Common.{refl}
use Rattle.surf_lattice.proofs.Neighbours.{listed_adjacent, adjacent_listed, neighbour_inside, adjacent_apart, neighbours_apart, adjacent_back}
use Rattle.surf_lattice.proofs.Colours.{near_differ, neighbour_coloured, one_coloured}
use Rattle.surf_lattice.proofs.laws.grid_laws.Goals as goal

pub returns-clause-degrees : goal.returns-clause-degrees
returns-clause-degrees c = (refl, refl)

pub returns-clause-listed : goal.returns-clause-listed
returns-clause-listed c = λ g p q inside. (listed_adjacent g p q inside, adjacent_listed g p q)

pub returns-clause-inside : goal.returns-clause-inside
returns-clause-inside c = λ g p q i inside e. neighbour_inside g p i q inside e

pub returns-clause-apart : goal.returns-clause-apart
returns-clause-apart c = adjacent_apart

pub returns-clause-different : goal.returns-clause-different
returns-clause-different c = neighbours_apart

pub returns-clause-symmetric : goal.returns-clause-symmetric
returns-clause-symmetric c = adjacent_back

pub returns-clause-near : goal.returns-clause-near
returns-clause-near c = near_differ

pub returns-clause-coloured : goal.returns-clause-coloured
returns-clause-coloured c = λ g is p q i inside below e. neighbour_coloured g is p q i inside e

pub returns-clause-directions : goal.returns-clause-directions
returns-clause-directions c = λ g k i j a b other e. other (one_coloured g k i j a b e)
