-- Rows of covers, and the equations that covers are.
use Rattle.std.specs.Prelude.{ℕ, Bool, true, false, ◌&&◌, ◌||◌, ◌==◌, List, [], ◌∷◌, length, map, Option, Some, None, if◌then◌else◌}
use Rattle.std.specs.List.{list_all}
use Rattle.surf_logic.specs.declared.equation.Literal.{Literal}
use Rattle.surf_logic.specs.declared.equation.Literal.TheVariants.{Zero, One, Any}
use Rattle.surf_logic.specs.Equations.{EquationOf}
use Rattle.surf_blif.specs.Logical.{last_of, front_of}

abbrev pub is_literal : ℕ → Bool
is_literal b = (b == 48) || ((b == 49) || (b == 45))

-- what a byte 0, 1 or - asks
abbrev pub literal_of : ℕ → Literal
literal_of b = if b == 48 then Zero else (if b == 49 then One else Any)

abbrev pub bit_of : List ℕ → Option Bool
bit_of [] = None
bit_of (b ∷ []) = if b == 48 then Some false else (if b == 49 then Some true else None)
bit_of (b ∷ c ∷ cs) = None

-- a row of a cover: what it asks of each input, and its output
pub record RowOf : Type 0 where
  pub literals : List Literal
  pub output : Bool

abbrev pub row_with : List ℕ → Option Bool → Option RowOf
row_with literals None = None
row_with literals (Some output) =
    Some (record { literals = map literal_of literals; output = output })

-- a row of no inputs is its output
abbrev pub constant_row : List (List ℕ) → Option RowOf
constant_row [] = None
constant_row (t ∷ []) = row_with [] (bit_of t)
constant_row (t ∷ u ∷ ts) = None

-- a row of some inputs is one literal for each, and its output
abbrev pub signed_row : ℕ → List (List ℕ) → Option RowOf
signed_row inputs [] = None
signed_row inputs (t ∷ []) = None
signed_row inputs (t ∷ u ∷ []) =
    if list_all is_literal t && (length t == inputs) then row_with t (bit_of u) else None
signed_row inputs (t ∷ u ∷ v ∷ ts) = None

-- the row that tokens spell in a cover of so many inputs
abbrev pub row_of : ℕ → List (List ℕ) → Option RowOf
row_of inputs ts = if inputs == 0 then constant_row ts else signed_row inputs ts

-- without rows it is true, and the equation is constant 0
abbrev pub polarity_of : List RowOf → Bool
polarity_of [] = true
polarity_of (r ∷ rs) = r.output

-- the equation of a .names of these signals, the last of which is the output, with these rows
abbrev pub equation_of : List (List ℕ) → List RowOf → EquationOf (List ℕ)
equation_of signals rows = record {
  output = last_of [] signals;
  inputs = front_of signals;
  rows = map (λ r. r.literals) rows;
  polarity = polarity_of rows;
}
