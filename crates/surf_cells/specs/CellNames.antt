-- The names of an automaton's cells.
use Rattle.std.specs.Prelude.{ℕ, ◌≡◌, true, List}
use Rattle.surf_world.specs.Systems.{System}
use Rattle.surf_trace.specs.Observations.{is_cell, AllNamed}

-- every name is a cell's or the frame's
abbrev pub OfCells : System (List ℕ) → Type 0
OfCells S = AllNamed (λ name. is_cell name ≡ true) S.surface S.start
