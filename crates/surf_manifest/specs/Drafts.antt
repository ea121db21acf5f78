-- What a draft stands for. Its rules and its start are numbers of its names.
use Rattle.std.specs.Prelude.{◌≡◌, ℕ, ◌+◌, ◌*◌, ◌^◌, ◌<◌, ◌≤◌, List, length, map, All, slice_get, true}
use Rattle.std.specs.List.{list_all}
use Rattle.surf_rules.specs.Names.{text_of}
use Rattle.surf_rules.specs.declared.rule.Rule.{Rule}
use Rattle.surf_world.specs.Renamings.{renamed_rule, RuleBelow}
use Rattle.surf_world.specs.Systems as systems
use Rattle.surf_world.specs.Worlds.{rule_of}
use Rattle.surf_manifest.specs.declared.draft.Draft.{Draft}
use Rattle.surf_manifest_lines.specs.Item.{is_name}
use Rattle.surf_manifest.specs.Limits.{Held}
use Rattle.surf_manifest_lines.specs.Line.{Line, Skipped, Opens, Closes, Includes, Unknown, Content}

-- a list of texts became at most n texts longer, and keeps those that it had
pub record IsGrown (n : ℕ) (old new : List (List ℕ)) : Type 0 where
  pub longer : length old ≤ length new
  pub most : length new ≤ length old + n
  pub kept : (k : ℕ) → k < length old → slice_get new k ≡ slice_get old k

abbrev pub named_rule : List (List ℕ) → Rule → systems.Rule (List ℕ)
named_rule texts r = renamed_rule (text_of texts) (rule_of r)

-- every number is below n
abbrev pub RulesBelow : ℕ → List Rule → Type 0
RulesBelow n rules = All (λ r. RuleBelow n (rule_of r)) rules

abbrev pub NamesBelow : ℕ → List ℕ → Type 0
NamesBelow n numbers = All (λ k. k < n) numbers

abbrev pub held_by : Draft → Held
held_by d = record {
  kind = d.kind;
  wrap = d.wrap;
  options = d.options.items;
  rules = map (named_rule d.names) d.rules.items;
  rule_count = d.rule_count;
  width = d.width;
  height = d.height;
  start = map (text_of d.names) d.start.items;
  site_count = d.site_count;
  colours = d.colours.items;
  names = d.names;
}

-- the texts are names, the numbers are in range, and rules, sites and names within the limits
pub record IsDraft (d : Draft) : Type 0 where
  pub texts : list_all is_name d.names ≡ true
  pub rules : RulesBelow (length d.names) d.rules.items
  pub start : NamesBelow (length d.names) d.start.items
  pub few_rules : length d.rules.items ≤ 1048576
  pub few_sites : length d.start.items ≤ 33554432
  pub few_names : length d.names ≤ 4 * length d.rules.items + length d.start.items

-- the counts can take a line of so many bytes
pub record HasRoom (h : Held) (bytes : ℕ) : Type 0 where
  pub rules : h.rule_count < 2 ^ 63
  pub rows : h.height < 2 ^ 63
  pub sites : h.site_count + bytes < 2 ^ 63

-- the counts can take this line
abbrev pub HasRoomFor : Held → Line → Type 0
HasRoomFor h (Content t) = HasRoom h (length t)
HasRoomFor h (Opens p) = Unit {0}
HasRoomFor h (Closes p) = Unit {0}
HasRoomFor h Skipped = Unit {0}
HasRoomFor h Includes = Unit {0}
HasRoomFor h Unknown = Unit {0}
