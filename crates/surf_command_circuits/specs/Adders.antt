-- What an adder comes to as a surface, as text.
use Rattle.std.specs.Prelude.{ℕ, ◌≡◌, ◌+◌, ◌*◌, Bool, List, ◌++◌}
use Rattle.std.specs.Str.{bytes_eq}
use Rattle.surf_demo.specs.Adders.{adder_bits, adder_text}
use Rattle.surf_demo.specs.Summaries.{adder_lines}
use Rattle.surf_logic.specs.Answers.{EvalOf}
use Rattle.surf_logic.specs.Equations.{Numbered, cost_of}
use Rattle.surf_blif.specs.Blifs.{IsRead, parts_of}
use Rattle.surf_manifest.specs.Grammar.{ManifestText}
use Rattle.surf_manifest_print.specs.Legends.{LegendText}
use Rattle.surf_circuit.specs.Circuits.{CircuitHolds}
use Rattle.surf_circuit.specs.Compiled.{IsSurfaceOf}
use Rattle.surf_command_circuits.specs.Values.{values_text}

-- The adder's text spells a circuit of the cost that is told. Its surface computes it whichever bits
-- its inputs are set to, and each run that cannot go on has just the events that are told. The
-- outputs' values are those at the bits at which the adder is shown.
pub record IsAdderShown (n : ℕ) (text : List ℕ) : Type 0 where
  pub circuit : Numbered
  pub read : IsRead (adder_text n) circuit
  pub cost : cost_of (parts_of (adder_text n)) ≡ 30 * n + 2
  pub manifest : ManifestText
  pub legend : LegendText
  pub surface : IsSurfaceOf circuit manifest legend
  pub computes : CircuitHolds (parts_of (adder_text n)) manifest.system legend
  pub values : List Bool
  pub solved : EvalOf bytes_eq (parts_of (adder_text n)) (adder_bits n) values
  pub is : text
      ≡ adder_lines n legend.events ++ values_text (parts_of (adder_text n)).outputs values
