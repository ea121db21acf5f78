use Rattle.std.proofs.Common.{◌≡◌, ◌++◌, drop, map}
use Rattle.surf_flatten.specs.Checks.{port_of}
use Rattle.surf_flatten.proofs.checks.all_ports.Given as goal

abbrev pub invariant-loop-model : goal.invariant-loop-model
invariant-loop-model l = l.ports.items ++ map port_of (drop l.model-index l.models) ≡ map port_of l.models
