-- A world: a surface of numbers and the numbers that its sites hold.
use Rattle.std.specs.Prelude.{ℕ, List}
use Rattle.surf_rules.specs.declared.rule.Rule.{Rule}
use Rattle.surf_world.specs.Systems.{Surface}
use Rattle.surf_world.specs.Systems as systems

-- a rule as the definitions see it
abbrev pub rule_of : Rule → systems.Rule ℕ
rule_of r =
    record {
      rate = r.rate;
      left = r.left;
      right = r.right;
      left_after = r.left_after;
      right_after = r.right_after;
    }

pub record Placed : Type 0 where
  pub surface : Surface ℕ
  pub names : List ℕ
