-- The text of a circuit's surface, and what the grammar reads in it.
use Rattle.std.proofs.Common.{ℕ, List, Some, refl, subst}
use Rattle.std.specs.Str.{bytes_eq}
use Rattle.surf_logic.specs.Equations.{Numbered}
use Rattle.surf_logic.specs.Answers.{EvalOf}
use Rattle.surf_logic.proofs.NamedTexts.{values}
use Rattle.surf_blif.specs.Blifs.{IsRead, parts_of}
use Rattle.surf_manifest.specs.Grammar.{ManifestText}
use Rattle.surf_manifest.specs.WellFormed.{IsWellFormed}
use Rattle.surf_manifest_print.specs.Legends.{LegendText, IsLegend}
use Rattle.surf_manifest_print.specs.Prints.{print_of}
use Rattle.surf_manifest_print.proofs.LegendBack.{reads_legend}
use Rattle.surf_manifest_print.proofs.Whole.{reads_print}
use Rattle.surf_circuit.specs.Circuits.{CircuitHolds}
use Rattle.surf_circuit.specs.Compiled.{IsSurfaceOf}
use Rattle.surf_circuit.specs.Surfaces.{AreWords, IsSpelled}
use Rattle.surf_command_circuits.specs.Compiled.{HoldsCircuit, IsCompiled}
use Rattle.surf_command_circuits.specs.Calls.{circuit_call}

module _ (input : List ℕ) (c : Numbered) (read : IsRead input c) where
  pub spelled : IsSpelled (parts_of input) c
  spelled = record {
    inputs = read.inputs;
    outputs = read.outputs;
    evals = λ bits answer ev. subst (λ p. EvalOf bytes_eq p bits answer) read.names (values read.unordered read.named c bits answer read.order ev);
  }

  pub words : AreWords (parts_of input)
  words = record { inputs = read.input_words; outputs = read.output_words }

  module _ (m : ManifestText) (l : LegendText) where
    -- the grammar reads the manifest and the legend back
    pub compiled_text : IsSurfaceOf c m l → IsWellFormed m → IsLegend (Some l) → CircuitHolds (parts_of input) m.system l → (circuit_call input).Is (print_of m (Some l))
    compiled_text surface formed is holds = record {
      circuit = c;
      read = read;
      manifest = m;
      legend = l;
      surface = surface;
      is = refl;
      read_back = reads_print m (Some l) formed is;
      told = reads_legend m l formed is holds.apart;
      computes = holds;
    }

-- what was compiled computes the circuit
pub compiled_holds : (input text : List ℕ) → IsCompiled input text → HoldsCircuit (parts_of input) text
compiled_holds input text c =
    record { manifest = c.manifest; legend = c.legend; read = c.read_back; told = c.told; computes = c.computes }
