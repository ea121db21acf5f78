-- What a tree of items stands for: equations over signals, and their cost.
use Rattle.std.specs.Prelude.{ℕ, ◌+◌, Bool, true, false, ◌&&◌, nat_lt, List, [], ◌∷◌, ◌++◌, length, map, Option, Some, None, suc, decimal, if◌then◌else◌}
use Rattle.std.specs.Str.{bytes_eq}
use Rattle.surf_logic.specs.Equations.{EquationOf, PartsOf, equation_cost}
use Rattle.surf_logic.specs.Renamed.{equation_by, parts_by}
use Rattle.surf_flatten.specs.declared.models.Bind.{Bind}
use Rattle.surf_flatten.specs.Designs.{Design, Tree, Done, Gives, Holds}

-- a signal by the numbers of the placings on the way from main, and its name in its model.
-- Main's own have no numbers
pub record Signal : Type 0 where
  pub path : List ℕ
  pub name : List ℕ

abbrev pub own : List ℕ → List ℕ → Signal
own path s = record { path = path; name = s }

-- the actual that the formal is bound to
abbrev pub actual_of : List Bind → List ℕ → Option (List ℕ)
actual_of [] s = None
actual_of (b ∷ bs) s = if bytes_eq b.formal s then Some b.actual else actual_of bs s

abbrev pub seen_or : (List ℕ → Signal) → Option (List ℕ) → Signal → Signal
seen_or see None mine = mine
seen_or see (Some a) mine = see a

-- the signals of a placed model: a connected formal is its actual, as the placing model sees it,
-- and each other is one of its own
abbrev pub seen_inside : (List ℕ → Signal) → List ℕ → List Bind → List ℕ → Signal
seen_inside see path binds s = seen_or see (actual_of binds s) (own path s)

-- the equations of a model at a path, the next of whose placings has number k
abbrev pub equations_in : (List ℕ → Signal) → List ℕ → ℕ → Tree → List (EquationOf Signal)
equations_in see path k Done = []
equations_in see path k (Gives q rest) = equation_by see q ∷ equations_in see path k rest
equations_in see path k (Holds p inner rest) =
    equations_in (seen_inside see (path ++ k ∷ []) p.binds)
    (path ++ k ∷ []) 1 inner ++ equations_in see path (suc k) rest

-- main's inputs and outputs, and the equations of its items
abbrev pub signal_parts : Design → Tree → PartsOf Signal
signal_parts main tree = record {
  inputs = map (own []) main.inputs;
  outputs = map (own []) main.outputs;
  equations = equations_in (own []) [] 1 tree;
}

-- numbers joined by points
abbrev pub way_text : List ℕ → List ℕ
way_text [] = []
way_text (k ∷ []) = decimal k
way_text (k ∷ l ∷ ls) = decimal k ++ 46 ∷ way_text (l ∷ ls)

abbrev pub below_way : List ℕ → List ℕ → List ℕ
below_way [] name = name
below_way (k ∷ ks) name = way_text (k ∷ ks) ++ 32 ∷ name

-- the name of a signal: the way, a blank and the name in its model; main's own keep theirs
abbrev pub spelled : Signal → List ℕ
spelled s = below_way s.path s.name

-- the inputs, outputs and equations that the text means
abbrev pub meant : Design → Tree → PartsOf (List ℕ)
meant main tree = parts_by spelled (signal_parts main tree)

-- an equation of more than 1,000 inputs
abbrev pub is_wide : {N : Type 0} → EquationOf N → Bool
is_wide q = nat_lt 1000 (length q.inputs)

-- what an equation counts, in main or in a placed model
abbrev pub equation_work : {N : Type 0} → Bool → EquationOf N → ℕ
equation_work inside q = equation_cost q + (if inside && is_wide q then 1001 else 0)

-- the work of a model: its equations, and for each placing 1 and the work of the placed model
abbrev pub work : Bool → Tree → ℕ
work inside Done = 0
work inside (Gives q rest) = equation_work inside q + work inside rest
work inside (Holds p inner rest) = 1 + work true inner + work inside rest

-- the cost of a text by its main model
abbrev pub text_cost : Design → Tree → ℕ
text_cost main tree = length main.inputs + length main.outputs + work false tree

-- how many placings there are, those in placed models among them
abbrev pub placing_count : Tree → ℕ
placing_count Done = 0
placing_count (Gives q rest) = placing_count rest
placing_count (Holds p inner rest) = 1 + placing_count inner + placing_count rest

-- how many equations of placed models are wide
abbrev pub wide_count : Bool → Tree → ℕ
wide_count inside Done = 0
wide_count inside (Gives q rest) = (if inside && is_wide q then 1 else 0) + wide_count inside rest
wide_count inside (Holds p inner rest) = wide_count true inner + wide_count inside rest
