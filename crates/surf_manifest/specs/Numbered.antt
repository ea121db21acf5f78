-- Systems whose names are numbers in a list of texts.
use Rattle.std.specs.Prelude.{ℕ, ◌≡◌, List, length, slice_set}
use Rattle.surf_rules.specs.Names.{text_of, AreDistinct}
use Rattle.surf_world.specs.Systems.{System}
use Rattle.surf_world.specs.Renamings.{renamed_system, AreBelow}
use Rattle.surf_world.specs.Worlds.{Placed}
use Rattle.surf_manifest.specs.Grammar.{ManifestText}

-- the world and the texts of its numbers are this system
pub record IsNumbered (S : System (List ℕ)) (w : Placed) (texts : List (List ℕ)) : Type 0 where
  pub named : renamed_system (text_of texts) (record { surface = w.surface; start = w.names }) ≡ S
  pub distinct : AreDistinct texts
  pub below : AreBelow (length texts) w.surface w.names

-- what contracts see of a manifest: what it says, and the texts that its numbers name
pub record NamedManifest : Type 0 where
  pub text : ManifestText
  pub names : List (List ℕ)

-- the same with another start
abbrev pub with_start : NamedManifest → List (List ℕ) → NamedManifest
with_start m start = record {
  text = record {
    system = record { surface = m.text.system.surface; start = start };
    options = m.text.options;
    colormap = m.text.colormap;
  };
  names = m.names;
}

-- the same with this text at a place of its start
abbrev pub with_site : NamedManifest → ℕ → List ℕ → NamedManifest
with_site m k t = with_start m (slice_set m.text.system.start k t)
