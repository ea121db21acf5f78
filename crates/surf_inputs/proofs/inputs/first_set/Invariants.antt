use Rattle.std.proofs.Common.{◌≡◌, drop}
use Rattle.surf_inputs.specs.Inputs.{first_set}
use Rattle.surf_inputs.proofs.inputs.first_set.Given as goal

abbrev pub invariant-loop-place : goal.invariant-loop-place
invariant-loop-place l = first_set l.manifest.text.system l.inputs ≡ first_set l.manifest.text.system (drop l.place-index l.inputs)
