-- Covers as equations over the names of their model.
use Rattle.std.specs.Prelude.{ℕ, Bool, ◌-◌, List, [], length, take, slice_index_or}
use Rattle.surf_logic.specs.declared.equation.Literal.{Literal}
use Rattle.surf_logic.specs.Equations.{EquationOf}

-- the last signal is given by the others
abbrev pub cover_of : List (List ℕ) → List (List Literal) → Bool → EquationOf (List ℕ)
cover_of signals rows polarity =
    record {
      output = slice_index_or signals (length signals - 1) [];
      inputs = take (length signals - 1) signals;
      rows = rows;
      polarity = polarity;
    }
