-- Which models reach which by placings. A model is named by its place in the list of models.
use Rattle.std.specs.Prelude.{ℕ, ◌≡◌, true, List, [], ◌∷◌, Option, Some, None, suc, nat_eq, slice_get, if◌then◌else◌}
use Rattle.surf_logic.specs.Order.{has}
use Rattle.surf_flatten.specs.declared.models.Item.{Item}
use Rattle.surf_flatten.specs.declared.models.Item.TheVariants.{Cover, Place}
use Rattle.surf_flatten.specs.Designs.{Design, is_name, items_of}

-- the place of the first model of that name, where the first of the list stands at n
abbrev pub place_from : ℕ → List Design → List ℕ → Option ℕ
place_from n [] t = None
place_from n (m ∷ ms) t = if is_name t m.name then Some n else place_from (suc n) ms t

abbrev pub place_of : List Design → List ℕ → Option ℕ
place_of models t = place_from 0 models t

abbrev pub onto : Option ℕ → List ℕ → List ℕ
onto None ks = ks
onto (Some k) ks = k ∷ ks

-- the places of the models that these items place, in order
abbrev pub targets_in : List Design → List Item → List ℕ
targets_in models [] = []
targets_in models (Cover q ∷ is) = targets_in models is
targets_in models (Place p ∷ is) = onto (place_of models p.model) (targets_in models is)

abbrev pub items_at : List Design → ℕ → List Item
items_at models i = items_of (slice_get models i)

abbrev pub targets : List Design → ℕ → List ℕ
targets models i = targets_in models (items_at models i)

-- the model at i places the one at j
abbrev pub Places : List Design → ℕ → ℕ → Type 0
Places models i j = has nat_eq (targets models i) j ≡ true

-- from i to j by placings of these models in turn
abbrev pub Way : List Design → ℕ → List ℕ → ℕ → Type 0
Way models i [] j = i ≡ j
Way models i (k ∷ ks) j = Places models i k × Way models k ks j

-- by zero or more placings
abbrev pub Reaches : List Design → ℕ → ℕ → Type 0
Reaches models i j = (ks : List ℕ) × Way models i ks j

-- from main
abbrev pub IsReached : List Design → ℕ → Type 0
IsReached models i = Reaches models 0 i

-- no placing of a reached model leads back to it
pub record IsFree (models : List Design) : Type 0 where
  pub no_way : (i j : ℕ) → IsReached models i → Places models i j → Reaches models j i → ⊥
