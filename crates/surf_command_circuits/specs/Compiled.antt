-- The surface of a circuit, as text.
use Rattle.std.specs.Prelude.{ℕ, ◌≡◌, List, Some, Ok}
use Rattle.surf_logic.specs.Equations.{PartsOf, Numbered}
use Rattle.surf_blif.specs.Blifs.{IsRead, parts_of}
use Rattle.surf_manifest.specs.Grammar.{ManifestText, manifest_of}
use Rattle.surf_manifest_print.specs.Legends.{LegendText}
use Rattle.surf_manifest_print.specs.LegendTexts.{legend_of}
use Rattle.surf_manifest_print.specs.Prints.{print_of}
use Rattle.surf_circuit.specs.Circuits.{CircuitHolds}
use Rattle.surf_circuit.specs.Compiled.{IsSurfaceOf}

-- The text is the print of the surface of the circuit that the input spells. The grammar reads just
-- this manifest and this legend in it, and they compute the circuit, whichever bits its inputs are
-- set to.
pub record IsCompiled (input text : List ℕ) : Type 0 where
  pub circuit : Numbered
  pub read : IsRead input circuit
  pub manifest : ManifestText
  pub legend : LegendText
  pub surface : IsSurfaceOf circuit manifest legend
  pub is : text ≡ print_of manifest (Some legend)
  pub read_back : manifest_of text ≡ Ok manifest
  pub told : legend_of text ≡ Ok legend
  pub computes : CircuitHolds (parts_of input) manifest.system legend

-- the grammar reads in the text a manifest and a legend that compute the circuit, whichever bits
-- its inputs are set to
pub record HoldsCircuit (B : PartsOf (List ℕ)) (text : List ℕ) : Type 0 where
  pub manifest : ManifestText
  pub legend : LegendText
  pub read : manifest_of text ≡ Ok manifest
  pub told : legend_of text ≡ Ok legend
  pub computes : CircuitHolds B manifest.system legend
