-- Manifests that the grammar gives.
use Rattle.std.specs.Prelude.{ℕ, ◌*◌, ◌≤◌, ◌≡◌, Bool, true, List, length, Option, Some, None, Ok}
use Rattle.std.specs.List.{list_all}
use Rattle.surf_manifest_lines.specs.Item.{is_name}
use Rattle.surf_manifest_lines.specs.WellFormed.{is_option, is_rule, is_colour}
use Rattle.surf_manifest.specs.Grammar.{ManifestText, manifest_of}

abbrev pub are_colours : Option (List (List ℕ)) → Bool
are_colours None = true
are_colours (Some texts) = list_all is_colour texts

pub record IsWellFormed (m : ManifestText) : Type 0 where
  pub options : list_all is_option m.options ≡ true
  pub few_rules : length m.system.surface.rules ≤ 1048576
  pub rules : list_all is_rule m.system.surface.rules ≡ true
  pub width : 1 ≤ m.system.surface.grid.width
  pub height : 1 ≤ m.system.surface.grid.height
  pub sites : length m.system.start ≡ m.system.surface.grid.width * m.system.surface.grid.height
  pub few_sites : length m.system.start ≤ 33554432
  pub joined : m.system.surface.grid.wrap ≡ true → (3 ≤ m.system.surface.grid.width)
      × (3 ≤ m.system.surface.grid.height)
  pub names : list_all is_name m.system.start ≡ true
  pub colours : are_colours m.colormap ≡ true

-- what is read is well formed
abbrev pub GivesWellFormed : Type 0
GivesWellFormed = (bytes : List ℕ) (m : ManifestText) → manifest_of bytes ≡ Ok m → IsWellFormed m
