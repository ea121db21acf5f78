-- What the text of a circuit's surface is for: its inputs can be set to any bits, and what is then
-- written runs to the values of the circuit's outputs.
use Rattle.std.specs.Prelude.{ℕ, ◌≡◌, Bool, List, length, Ok}
use Rattle.std.specs.Str.{bytes_eq}
use Rattle.surf_logic.specs.Equations.{PartsOf}
use Rattle.surf_logic.specs.Answers.{EvalOf}
use Rattle.surf_manifest.specs.Grammar.{ManifestText}
use Rattle.surf_manifest_print.specs.Legends.{LegendText}
use Rattle.surf_manifest_print.specs.LegendTexts.{legend_of}
use Rattle.surf_circuit.specs.Circuits.{SettlesTo}
use Rattle.surf_command_circuits.specs.Compiled.{HoldsCircuit}
use Rattle.surf_top.specs.Jobs.{Run, Format}
use Rattle.surf_top.specs.Outputs.{HasText}
use Rattle.surf_command_circuits.specs.Sets.{HasLegend, IsSet}

-- what `set` writes for a text, and what every run of it shows
pub record SetsAndSettles (B : PartsOf (List ℕ)) (text : List ℕ) (bits : List Bool) : Type 0 where
  pub set : List ℕ
  pub is_set : IsSet bits text set
  -- it is a manifest with the same legend, and `run` and `format` take it
  pub manifest : ManifestText
  pub legend : LegendText
  pub has : HasLegend set manifest legend
  pub same : legend_of text ≡ Ok legend
  pub runs : (seed count : ℕ) → HasText (Run seed count) set
  pub formats : HasText Format set
  -- every run to its end has just so many events as the legend says, and shows the values that the
  -- equations give for these bits
  pub values : List Bool
  pub solved : EvalOf bytes_eq B bits values
  pub settles : SettlesTo manifest.system legend.outputs legend.events values

-- a text that holds a circuit is set to as many bits as the circuit has inputs
abbrev pub SurfacesAreSet : Type 0
SurfacesAreSet = (B : PartsOf (List ℕ)) (text : List ℕ) (bits : List Bool) → HoldsCircuit B text →
    length bits ≡ length B.inputs → SetsAndSettles B text bits
