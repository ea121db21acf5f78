-- The names and the rules of which a colony's manifest is made.
use Rattle.std.specs.Prelude.{◌≡◌, ℕ, ◌≤◌, true, List, length, All}
use Rattle.std.specs.List.{list_all}
use Rattle.surf_rules.specs.declared.rule.Rule.{Rule}
use Rattle.surf_manifest.specs.Drafts.{RulesBelow}
use Rattle.surf_manifest_lines.specs.Item.{is_name}

-- the texts can be names, the rules are over their numbers, and both are few enough
pub record AreParts (names : List (List ℕ)) (rules : List Rule) : Type 0 where
  pub texts : list_all is_name names ≡ true
  pub room : length names ≤ 2147483648
  pub below : RulesBelow (length names) rules
  pub rates : All (λ r. r.rate ≤ 1000000000000) rules
  pub few : length rules ≤ 1048576
