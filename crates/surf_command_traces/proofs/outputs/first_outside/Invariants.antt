use Rattle.std.proofs.Common.{◌≡◌, drop}
use Rattle.surf_command_traces.specs.Finals.{first_outside}
use Rattle.surf_command_traces.proofs.outputs.first_outside.Given as goal

abbrev pub invariant-loop-output : goal.invariant-loop-output
invariant-loop-output g l = first_outside (g.L.Lattice.grid l.grid) l.places ≡ first_outside (g.L.Lattice.grid l.grid) (drop l.output-index l.places)
