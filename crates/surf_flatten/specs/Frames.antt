-- Placing one item after another: frames of models that are being placed, and the equations that
-- are still to come of them.
use Rattle.std.specs.Prelude.{ℕ, ◌≡◌, ◌+◌, ◌≤◌, List, [], ◌∷◌, ◌++◌, map, Option, Some, None, suc, decimal}
use Rattle.surf_logic.specs.Equations.{EquationOf}
use Rattle.surf_logic.specs.Renamed.{equation_by}
use Rattle.surf_flatten.specs.declared.models.Bind.{Bind}
use Rattle.surf_flatten.specs.declared.models.Item.{Item}
use Rattle.surf_flatten.specs.Designs.{Design, Tree, Done, Gives, Holds, Unfolds}
use Rattle.surf_flatten.specs.Substituted.{actual_of}

-- the text of a way that is one placing longer; main has none
abbrev pub longer : Option (List ℕ) → ℕ → List ℕ
longer None k = decimal k
longer (Some way) k = way ++ 46 ∷ decimal k

-- the name that a model's own signal has at a way
abbrev pub own_name : Option (List ℕ) → List ℕ → List ℕ
own_name None s = s
own_name (Some way) s = way ++ 32 ∷ s

abbrev pub or_own : Option (List ℕ) → List ℕ → List ℕ
or_own None mine = mine
or_own (Some a) mine = a

abbrev pub bind_by : (List ℕ → List ℕ) → Bind → Bind
bind_by name b = record { formal = b.formal; actual = name b.actual }

-- the names in a placed model, by those in the placing one
abbrev pub name_inside : (List ℕ → List ℕ) → List ℕ → List Bind → List ℕ → List ℕ
name_inside name way binds s =
    or_own (actual_of (map (bind_by name) binds) s) (own_name (Some way) s)

-- a model that is being placed: the text of its way from main, the names of its signals in the
-- circuit, the number of its next placing, and its items that are left
pub record Frame : Type 0 where
  pub way : Option (List ℕ)
  pub name : List ℕ → List ℕ
  pub next : ℕ
  pub items : List Item

-- the equations of a tree over the names of the circuit
abbrev pub named_in : (List ℕ → List ℕ) → Option (List ℕ) → ℕ → Tree →
    List (EquationOf (List ℕ))
named_in name way k Done = []
named_in name way k (Gives q rest) = equation_by name q ∷ named_in name way k rest
named_in name way k (Holds p inner rest) =
    named_in (name_inside name (longer way k) p.binds) (Some (longer way k)) 1 inner
    ++ named_in name way (suc k) rest

-- an item is one step, and so is leaving a frame
abbrev pub steps : Tree → ℕ
steps Done = 0
steps (Gives q rest) = 1 + steps rest
steps (Holds p inner rest) = 2 + steps inner + steps rest

-- the frames, the last placed first, stand for these equations, in so many steps
abbrev pub Stands : ℕ → List Design → List Frame → List (EquationOf (List ℕ)) → ℕ → Type 0
Stands limit models [] qs n = (qs ≡ []) × (n ≡ 0)
Stands limit models (f ∷ fs) qs n =
    (t : Tree) × (more : List (EquationOf (List ℕ))) × (m : ℕ) × Unfolds models f.items t
    × Stands limit models fs more m × (qs ≡ named_in f.name f.way f.next t ++ more)
    × (n ≡ steps t + 1 + m) × (f.next + steps t ≤ limit)
