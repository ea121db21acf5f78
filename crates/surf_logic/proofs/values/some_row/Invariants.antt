use Rattle.std.proofs.Common.{◌≡◌, map, drop}
use Rattle.surf_logic.specs.Equations.{some_matches, at}
use Rattle.surf_logic.proofs.values.some_row.Given as goal

abbrev pub invariant-loop-row : goal.invariant-loop-row
invariant-loop-row l = some_matches (drop l.row-index l.rows) (map (at l.values) l.inputs) ≡ some_matches l.rows (map (at l.values) l.inputs)
