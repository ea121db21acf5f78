use Rattle.std.proofs.Common.{◌≡◌, drop}
use Rattle.surf_flatten.specs.Checks.{placings_fault}
use Rattle.surf_flatten.specs.Tables.{place_in}
use Rattle.surf_flatten.proofs.checks.check_placings.Given as goal

abbrev pub invariant-loop-place : goal.invariant-loop-place
invariant-loop-place l = placings_fault (place_in l.library) l.ports (drop l.place l.parts) (drop l.place l.models) ≡ placings_fault (place_in l.library) l.ports l.parts l.models
