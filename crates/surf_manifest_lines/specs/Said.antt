-- Items by what the reader found.
use Rattle.std.specs.Prelude.{ℕ, List, Some, None}
use Rattle.surf_world.specs.Systems as systems
use Rattle.surf_manifest_lines.specs.declared.option_lines.Setting.{Setting}
use Rattle.surf_manifest_lines.specs.declared.option_lines.Setting.TheVariants as settings
use Rattle.surf_manifest_lines.specs.declared.rule_lines.Sides.{Sides}
use Rattle.surf_manifest_lines.specs.declared.rule_lines.Sides.TheVariants.{One, Two}
use Rattle.surf_manifest_lines.specs.declared.rule_lines.RuleLine.{RuleLine}
use Rattle.surf_manifest_lines.specs.Item as items

abbrev pub item_of_setting : Setting → items.Item
item_of_setting (settings.Geometry k) = items.Geometry k
item_of_setting (settings.Wrap b) = items.Wrap b
item_of_setting (settings.Kept key value) = items.Kept (record { key = key.now; value = value.now })

abbrev pub rule_of_sides : ℕ → Sides → systems.Rule (List ℕ)
rule_of_sides rate (One a c) =
    record { rate = rate; left = a.now; right = None; left_after = c.now; right_after = None }
rule_of_sides rate (Two a b c d) =
    record {
      rate = rate;
      left = a.now;
      right = Some b.now;
      left_after = c.now;
      right_after = Some d.now;
    }

abbrev pub rule_of_line : RuleLine → systems.Rule (List ℕ)
rule_of_line r = rule_of_sides r.rate r.sides
