-- The faults of models that place each other, in their order.
use Rattle.std.specs.Prelude.{ℕ, ◌≡◌, ◌≢◌, ◌<◌, ◌⊎◌, not, ◌&&◌, List, [], ◌∷◌, ◌++◌, map, Option, Some, None, suc, if◌then◌else◌}
use Rattle.std.specs.Str.{bytes_eq}
use Rattle.std.specs.Option.{option_map}
use Rattle.surf_logic.specs.Equations.{capped}
use Rattle.surf_logic.specs.Order.{has, or_else, first_missing}
use Rattle.surf_flatten.specs.declared.models.Bind.{Bind}
use Rattle.surf_flatten.specs.declared.models.Item.{Item}
use Rattle.surf_flatten.specs.declared.models.Item.TheVariants.{Cover, Place}
use Rattle.surf_flatten.specs.Placements.{Placement}
use Rattle.surf_flatten.specs.Designs.{Design, model_named, Tree, Unfolds}
use Rattle.surf_flatten.specs.Substituted.{text_cost}
use Rattle.surf_flatten.specs.Reaching.{place_of, IsReached, Reaches}

pub data ModelFault : Type 0 where
  ModelTwice : ℕ → List ℕ → ModelFault
  UnknownModel : ℕ → List ℕ → ModelFault
  BadFormal : ℕ → List ℕ → ModelFault
  Unconnected : ℕ → List ℕ → ModelFault
  Recursive : ℕ → List ℕ → ModelFault
  TooLarge : ℕ → ModelFault

abbrev pub named : Option (List ℕ) → List (List ℕ) → List (List ℕ)
named None above = above
named (Some n) above = n ∷ above

abbrev pub twice_at : ℕ → List (List ℕ) → Option (List ℕ) → Option ModelFault
twice_at line above None = None
twice_at line above (Some n) = if has bytes_eq above n then Some (ModelTwice line n) else None

-- the first model whose name an earlier one has
abbrev pub model_twice : List (List ℕ) → List Design → Option ModelFault
model_twice above [] = None
model_twice above (m ∷ ms) =
    or_else (twice_at m.line above m.name) (model_twice (named m.name above) ms)

-- the first formal that isn't among the known or stands earlier on the line
abbrev pub bad_formal : List (List ℕ) → List (List ℕ) → List Bind → Option (List ℕ)
bad_formal known above [] = None
bad_formal known above (b ∷ bs) =
    if has bytes_eq known b.formal && not (has bytes_eq above b.formal)
    then bad_formal known (b.formal ∷ above) bs else Some b.formal

abbrev pub binding_fault : Placement → Design → Option ModelFault
binding_fault p m = or_else
    (option_map (BadFormal p.line) (bad_formal (m.inputs ++ m.outputs) [] p.binds))
    (option_map (Unconnected p.line)
    (first_missing bytes_eq (map (λ b. b.formal) p.binds) m.inputs))

abbrev pub fault_by : Placement → Option Design → Option ModelFault
fault_by p None = Some (UnknownModel p.line p.model)
fault_by p (Some m) = binding_fault p m

-- the fault of a placing by itself
abbrev pub placing_fault : List Design → Placement → Option ModelFault
placing_fault models p = fault_by p (model_named models p.model)

-- a placing, and the place of the model in which it stands
pub record Spot : Type 0 where
  pub place : ℕ
  pub placing : Placement

abbrev pub spots_in : ℕ → List Item → List Spot
spots_in i [] = []
spots_in i (Cover q ∷ is) = spots_in i is
spots_in i (Place p ∷ is) = (record { place = i; placing = p }) ∷ spots_in i is

abbrev pub spots_from : ℕ → List Design → List Spot
spots_from i [] = []
spots_from i (m ∷ ms) = spots_in i m.items ++ spots_from (suc i) ms

-- all placings of a text in the order of its lines
abbrev pub spots : List Design → List Spot
spots models = spots_from 0 models

-- x is the first of the list of which P is true
abbrev pub IsFirst : {X : Type 0} → (X → Type 0) → List X → X → Type 0
IsFirst P [] x = ⊥
IsFirst P (y ∷ ys) x = ((y ≡ x) × P y) ⊎ ((P y → ⊥) × IsFirst P ys x)

abbrev pub IsNone : {X : Type 0} → (X → Type 0) → List X → Type 0
IsNone P [] = Unit {0}
IsNone P (y ∷ ys) = (P y → ⊥) × IsNone P ys

abbrev pub IsMisplaced : List Design → Spot → Type 0
IsMisplaced models s = IsReached models s.place × (placing_fault models s.placing ≢ None)

-- the model that the placing names reaches the one in which the placing stands
abbrev pub IsRecursive : List Design → Spot → Type 0
IsRecursive models s = IsReached models s.place × ((j : ℕ)
    × (place_of models s.placing.model ≡ Some j) × Reaches models j s.place)

abbrev pub HasPlacingFault : List Design → ModelFault → Type 0
HasPlacingFault models f = (model_twice [] models ≡ None) × ((s : Spot)
    × IsFirst (IsMisplaced models) (spots models) s × (placing_fault models s.placing ≡ Some f))

-- a text of models without a fault before its cost
pub record AreSound (models : List Design) : Type 0 where
  pub once : model_twice [] models ≡ None
  pub placed : IsNone (IsMisplaced models) (spots models)
  pub free : IsNone (IsRecursive models) (spots models)

-- the text whose first model is main has the fault
abbrev pub HasModelFault : Design → List Design → ModelFault → Type 0
HasModelFault main ms (ModelTwice line n) = model_twice [] (main ∷ ms) ≡ Some (ModelTwice line n)
HasModelFault main ms (UnknownModel line n) = HasPlacingFault (main ∷ ms) (UnknownModel line n)
HasModelFault main ms (BadFormal line n) = HasPlacingFault (main ∷ ms) (BadFormal line n)
HasModelFault main ms (Unconnected line n) = HasPlacingFault (main ∷ ms) (Unconnected line n)
HasModelFault main ms (Recursive line n) =
    (model_twice [] (main ∷ ms) ≡ None) × IsNone (IsMisplaced (main ∷ ms)) (spots (main ∷ ms))
    × ((s : Spot) × IsFirst (IsRecursive (main ∷ ms)) (spots (main ∷ ms)) s
    × (s.placing.line ≡ line) × (s.placing.model ≡ n))
HasModelFault main ms (TooLarge n) =
    AreSound (main ∷ ms) × ((t : Tree) × Unfolds (main ∷ ms) main.items t
    × (capped (text_cost main t) ≡ n) × (1000 < n))
