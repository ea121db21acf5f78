-- How great the weights of a surface get, whatever its sites hold.
use Rattle.std.specs.Prelude.{ℕ, ◌+◌, ◌*◌, sum_by}
use Rattle.surf_lattice.specs.Grids.{degree}
use Rattle.surf_world.specs.Systems.{Surface}

abbrev pub sum_of_rates : Surface ℕ → ℕ
sum_of_rates S = sum_by (λ r. r.rate) S.rules

-- each rule counts once for a site alone and once for each of its directions
abbrev pub most_weight : Surface ℕ → ℕ
most_weight S = (degree S.grid.kind + 1) * sum_of_rates S

abbrev pub most_total : Surface ℕ → ℕ
most_total S = S.grid.width * S.grid.height * most_weight S
