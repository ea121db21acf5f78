use Rattle.std.proofs.Common.{◌≡◌, ◌<◌, ℕ, Some, slice_get}
use Rattle.surf_rules.specs.declared.rule.Rule.{Rule}
use Rattle.surf_world.specs.Worlds.{rule_of}
use Rattle.surf_trace.specs.Observations.{RuleNamed}
use Rattle.surf_trace.specs.Sights.{IsTold}
use Rattle.surf_trace.proofs.cells.are_rules_told.Given as goal

abbrev pub invariant-loop-number : goal.invariant-loop-number
invariant-loop-number g l = (k : ℕ) (r : Rule) → k < l.number → slice_get l.book k ≡ Some r → RuleNamed (IsTold l.sights) (rule_of r)
