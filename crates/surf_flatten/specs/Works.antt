-- The work of an item, by a table of places and one of works.
use Rattle.std.specs.Prelude.{ℕ, ◌+◌, Bool, List, Option}
use Rattle.surf_flatten.specs.declared.models.Item.{Item}
use Rattle.surf_flatten.specs.declared.models.Item.TheVariants.{Cover, Place}
use Rattle.surf_flatten.specs.Substituted.{equation_work}
use Rattle.surf_flatten.specs.Laws.{worth}

abbrev pub work_in : (List ℕ → Option ℕ) → List ℕ → Bool → Item → ℕ
work_in find table inside (Cover q) = equation_work inside q
work_in find table inside (Place p) = 1 + worth table (find p.model)
