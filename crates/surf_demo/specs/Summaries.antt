-- What the demonstrations tell of their runs, as text.
use Rattle.std.specs.Prelude.{ℕ, ◌+◌, ◌*◌, List, [], ◌∷◌, ◌++◌, codes}
use Rattle.std.specs.Fmt.{decimal}

-- a line of a name and a number
abbrev pub number_line : List ℕ → ℕ → List ℕ
number_line name n = name ++ 32 ∷ (decimal n ++ 10 ∷ [])

-- the cost and the gates of the adder of n bits, and the events of its runs
abbrev pub adder_lines : ℕ → ℕ → List ℕ
adder_lines n events =
    number_line (codes "cost") (30 * n + 2)
    ++ (number_line (codes "gates") (16 * n) ++ number_line (codes "events") events)

-- the cells of a vote, the events, the least and the greatest number of generations that a cell
-- came to, and how many cells are live in the second
abbrev pub vote_lines : ℕ → ℕ → ℕ → ℕ → ℕ → List ℕ
vote_lines cells events least greatest live =
    number_line (codes "cells") cells
    ++ (number_line (codes "events") events ++ (number_line (codes "least") least
    ++ (number_line (codes "greatest") greatest ++ number_line (codes "live") live)))
