use Rattle.std.proofs.Common.{◌≡◌, drop}
use Rattle.std.specs.Str.{bytes_eq}
use Rattle.surf_logic.specs.Order.{first_missing}
use Rattle.surf_flatten.proofs.checks.check_inputs.Given as goal

abbrev pub invariant-loop-number : goal.invariant-loop-number
invariant-loop-number l = first_missing bytes_eq l.bound (drop l.number l.inputs) ≡ first_missing bytes_eq l.bound l.inputs
