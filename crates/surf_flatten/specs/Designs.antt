-- Models that place each other, and their items unfolded: each placing with the items of the model
-- that it places.
use Rattle.std.specs.Prelude.{ℕ, ◌≡◌, Bool, false, List, [], ◌∷◌, Option, Some, None, if◌then◌else◌, All}
use Rattle.std.specs.Str.{bytes_eq}
use Rattle.surf_logic.specs.Equations.{EquationOf}
use Rattle.surf_flatten.specs.Placements.{Placement}
use Rattle.surf_flatten.specs.declared.models.Item.{Item}
use Rattle.surf_flatten.specs.declared.models.Item.TheVariants.{Cover, Place}

-- what a model says
pub record Design : Type 0 where
  pub line : ℕ
  pub name : Option (List ℕ)
  pub inputs : List (List ℕ)
  pub outputs : List (List ℕ)
  pub items : List Item

abbrev pub is_name : List ℕ → Option (List ℕ) → Bool
is_name t None = false
is_name t (Some n) = bytes_eq n t

-- the first model of that name
abbrev pub model_named : List Design → List ℕ → Option Design
model_named [] t = None
model_named (m ∷ ms) t = if is_name t m.name then Some m else model_named ms t

abbrev pub items_of : Option Design → List Item
items_of None = []
items_of (Some m) = m.items

-- the items of the first model of that name; none where no model has it
abbrev pub items_named : List Design → List ℕ → List Item
items_named models t = items_of (model_named models t)

-- items, in which each placing holds the items of the placed model
pub data Tree : Type 0 where
  Done : Tree
  Gives : EquationOf (List ℕ) → Tree → Tree
  Holds : Placement → Tree → Tree → Tree

-- the tree is that of these items: each placing holds the tree of the items of the model that it
-- names
abbrev pub Unfolds : List Design → List Item → Tree → Type 0
Unfolds models [] Done = Unit {0}
Unfolds models [] (Gives q rest) = ⊥
Unfolds models [] (Holds p inner rest) = ⊥
Unfolds models (Cover q ∷ is) Done = ⊥
Unfolds models (Cover q ∷ is) (Gives r rest) = (q ≡ r) × Unfolds models is rest
Unfolds models (Cover q ∷ is) (Holds p inner rest) = ⊥
Unfolds models (Place p ∷ is) Done = ⊥
Unfolds models (Place p ∷ is) (Gives r rest) = ⊥
Unfolds models (Place p ∷ is) (Holds r inner rest) =
    (p ≡ r) × Unfolds models (items_named models p.model) inner × Unfolds models is rest
