-- Equations over names of any kind, the assignments that solve them, and their cost.
use Rattle.std.specs.Prelude.{ℕ, ◌+◌, ◌≡◌, Bool, true, false, not, ◌&&◌, List, [], ◌∷◌, length, map, sum, if◌then◌else◌, slice_index_or, slice_set, min, ◌^◌, ◌-◌}
use Rattle.std.specs.List.{list_any, All}
use Rattle.surf_logic.specs.declared.equation.Literal.{Literal}
use Rattle.surf_logic.specs.declared.equation.Literal.TheVariants.{Zero, One, Any}

-- an output by its inputs: rows of literals, and whether a row that matches makes it true or false
pub record EquationOf (N : Type 0) : Type 0 where
  pub output : N
  pub inputs : List N
  pub rows : List (List Literal)
  pub polarity : Bool

-- inputs, outputs and equations
pub record PartsOf (N : Type 0) : Type 0 where
  pub inputs : List N
  pub outputs : List N
  pub equations : List (EquationOf N)

-- parts over places in a list of names
pub record Numbered : Type 0 where
  pub names : List (List ℕ)
  pub parts : PartsOf ℕ

abbrev pub literal_fits : Literal → Bool → Bool
literal_fits Zero value = not value
literal_fits One value = value
literal_fits Any value = true

-- each literal of the row fits its value
abbrev pub row_matches : List Literal → List Bool → Bool
row_matches [] values = true
row_matches (l ∷ ls) [] = true
row_matches (l ∷ ls) (v ∷ vs) = literal_fits l v && row_matches ls vs

abbrev pub some_matches : List (List Literal) → List Bool → Bool
some_matches rows values = list_any (λ row. row_matches row values) rows

-- the output's value at these values of the inputs; without rows it is false
abbrev pub value_of : List (List Literal) → Bool → List Bool → Bool
value_of [] polarity values = false
value_of (row ∷ rows) polarity values =
    if polarity then some_matches (row ∷ rows) values else not (some_matches (row ∷ rows) values)

-- the assignment satisfies the equation
abbrev pub Satisfies : {N : Type 0} → (N → Bool) → EquationOf N → Type 0
Satisfies e q = e q.output ≡ value_of q.rows q.polarity (map e q.inputs)

-- the assignment satisfies every equation, in whatever order they stand
abbrev pub Solves : {N : Type 0} → List (EquationOf N) → (N → Bool) → Type 0
Solves qs e = All (Satisfies e) qs

-- a row costs 1 and 1 for each literal that asks something
abbrev pub literal_cost : Literal → ℕ
literal_cost Zero = 1
literal_cost One = 1
literal_cost Any = 0

abbrev pub row_cost : List Literal → ℕ
row_cost row = 1 + sum (map literal_cost row)

abbrev pub equation_cost : {N : Type 0} → EquationOf N → ℕ
equation_cost q = 1 + sum (map row_cost q.rows)

abbrev pub cost_of : {N : Type 0} → PartsOf N → ℕ
cost_of p = length p.inputs + length p.outputs + sum (map equation_cost p.equations)

-- a number, or the greatest u128 where that is less
abbrev pub capped : ℕ → ℕ
capped n = min n (2 ^ 128 - 1)

-- the value at a place of a list of values
abbrev pub at : List Bool → ℕ → Bool
at values n = slice_index_or values n false

-- the values after the equations were evaluated one after another
abbrev pub evaluated : List Bool → List (EquationOf ℕ) → List Bool
evaluated values [] = values
evaluated values (q ∷ qs) =
    evaluated (slice_set values q.output (value_of q.rows q.polarity (map (at values) q.inputs))) qs

-- the values with these bits at these names
abbrev pub placed : List Bool → List ℕ → List Bool → List Bool
placed values [] bits = values
placed values (n ∷ ns) [] = values
placed values (n ∷ ns) (b ∷ bits) = placed (slice_set values n b) ns bits
