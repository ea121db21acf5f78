use Rattle.std.proofs.Common.{◌<◌, ℕ, get_or}
use Rattle.surf_trace.specs.Sights.{IsTold}
use Rattle.surf_trace.proofs.cells.are_names_told.Given as goal

abbrev pub invariant-loop-place : goal.invariant-loop-place
invariant-loop-place g l = (k : ℕ) → k < l.place → IsTold l.sights (get_or l.world.names k 0)
