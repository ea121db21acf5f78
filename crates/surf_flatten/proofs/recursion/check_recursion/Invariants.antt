use Rattle.std.proofs.Common.{◌≡◌, drop}
use Rattle.surf_flatten.specs.Checks.{back_fault, models_fault}
use Rattle.surf_flatten.specs.Tables.{place_in}
use Rattle.surf_flatten.proofs.recursion.check_recursion.Given as goal

abbrev pub invariant-loop-place : goal.invariant-loop-place
invariant-loop-place l = models_fault (back_fault (place_in l.library) l.parts) (drop l.place l.parts) (drop l.place l.models) ≡ models_fault (back_fault (place_in l.library) l.parts) l.parts l.models
