-- Manifests whose inputs are set to bits.
use Rattle.std.specs.Prelude.{ℕ, ◌≡◌, Bool, List, Option, Some, None, Ok}
use Rattle.surf_manifest.specs.Grammar.{ManifestText, manifest_of}
use Rattle.surf_manifest_print.specs.Legends.{LegendText}
use Rattle.surf_manifest_print.specs.LegendTexts.{legend_of}
use Rattle.surf_manifest_print.specs.Prints.{print_of}
use Rattle.surf_inputs.specs.declared.inputs.SetError.{SetError}
use Rattle.surf_inputs.specs.Inputs.{set_fault, with_inputs, with_system}

-- the input spells a manifest and its legend
pub record HasLegend (input : List ℕ) (m : ManifestText) (l : LegendText) : Type 0 where
  pub read : manifest_of input ≡ Ok m
  pub told : legend_of input ≡ Ok l

-- the legend's inputs can be set to these bits, or this is why they can't
pub record SetsWith (bits : List Bool) (input : List ℕ) (fault : Option SetError) : Type 0 where
  pub manifest : ManifestText
  pub legend : LegendText
  pub has : HasLegend input manifest legend
  pub fits : set_fault manifest.system legend bits ≡ fault

-- the text is the manifest with its inputs set, and with the same legend
pub record IsSet (bits : List Bool) (input text : List ℕ) : Type 0 where
  pub manifest : ManifestText
  pub legend : LegendText
  pub has : HasLegend input manifest legend
  pub fits : set_fault manifest.system legend bits ≡ None
  pub is : text ≡ print_of (with_system manifest (with_inputs manifest.system legend bits))
      (Some legend)
