-- What the fields of a manifest stand for.
use Rattle.std.specs.Prelude.{◌≡◌, ℕ, List, length, map, true, Option, Vec}
use Rattle.std.specs.List.{list_all}
use Rattle.std.specs.Option.{option_map}
use Rattle.std.specs.declared.alloc.Global.{Global}
use Rattle.surf_rules.specs.Names.{text_of}
use Rattle.surf_manifest.specs.declared.manifest.Manifest.TheInside.{Inside}
use Rattle.surf_manifest.specs.Drafts.{named_rule, RulesBelow, NamesBelow}
use Rattle.surf_manifest.specs.Grammar.{ManifestText}
use Rattle.surf_manifest_lines.specs.Item.{is_name}
use Rattle.surf_manifest.specs.Numbered.{NamedManifest}
use Rattle.surf_manifest.specs.WellFormed.{IsWellFormed}

abbrev pub lines_in : Option (Vec (List ℕ) Global) → Option (List (List ℕ))
lines_in o = option_map (λ v. v.items) o

abbrev pub text_by : Inside → ManifestText
text_by a = record {
  system = record {
    surface = record {
      grid = record { kind = a.kind; wrap = a.wrap; width = a.width; height = a.height };
      rules = map (named_rule a.names) a.rules.items;
    };
    start = map (text_of a.names) a.start.items;
  };
  options = a.options.items;
  colormap = lines_in a.colormap;
}

abbrev pub manifest_by : Inside → NamedManifest
manifest_by a = record { text = text_by a; names = a.names }

-- well formed, with texts that are names and numbers in range
pub record IsManifest (a : Inside) : Type 0 where
  pub well_formed : IsWellFormed (text_by a)
  pub texts : list_all is_name a.names ≡ true
  pub rules : RulesBelow (length a.names) a.rules.items
  pub start : NamesBelow (length a.names) a.start.items
