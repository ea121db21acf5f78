-- The text of a circuit's surface, set and run.
use Rattle.std.proofs.Common.{ℕ, ◌≡◌, Bool, List, length, Some, Ok, is_ok, refl, ap}
use Rattle.surf_logic.specs.Equations.{PartsOf}
use Rattle.surf_manifest.specs.Grammar.{ManifestText, manifest_of}
use Rattle.surf_manifest.specs.WellFormed.{IsWellFormed}
use Rattle.surf_manifest.proofs.Good.{gives_well_formed}
use Rattle.surf_manifest_print.specs.Legends.{IsLegend}
use Rattle.surf_manifest_print.specs.Prints.{print_of}
use Rattle.surf_manifest_print.proofs.LegendBack.{reads_legend}
use Rattle.surf_manifest_print.proofs.Whole.{reads_print}
use Rattle.surf_inputs.specs.Inputs.{with_inputs, with_system}
use Rattle.surf_circuit.proofs.Setting.{circuits_are_set, sets_keep_form}
use Rattle.surf_laws.specs.CircuitLaws.{SetsAndSettles, SurfacesAreSet}
use Rattle.surf_command_circuits.specs.Compiled.{HoldsCircuit}
use Rattle.surf_command_runs.specs.Calls.{printed_run, printed_manifest}
use Rattle.surf_laws.proofs.LegendsRead.{legend_fits}

module _ (B : PartsOf (List ℕ)) (text : List ℕ) (bits : List Bool) (h : HoldsCircuit B text) (long : length bits ≡ length B.inputs) where
  abbrev given : ManifestText
  given = with_system h.manifest (with_inputs h.manifest.system h.legend bits)

  formed : IsWellFormed given
  formed = sets_keep_form h.manifest h.legend bits (gives_well_formed text h.manifest h.read)

  is_legend : IsLegend (Some h.legend)
  is_legend = legend_fits text h.legend h.told

  abbrev set : List ℕ
  set = print_of given (Some h.legend)

  read : manifest_of set ≡ Ok given
  read = reads_print given (Some h.legend) formed is_legend

  settled : SetsAndSettles B text bits
  settled =
      let c = h.computes.computes bits long in
      record {
        set = set;
        is_set = record {
          manifest = h.manifest;
          legend = h.legend;
          has = record { read = h.read; told = h.told };
          fits = circuits_are_set B h.manifest.system h.legend bits h.computes long;
          is = refl;
        };
        manifest = given;
        legend = h.legend;
        has = record { read = read; told = reads_legend given h.legend formed is_legend h.computes.apart };
        same = h.told;
        runs = λ seed count. ap (λ r. is_ok (printed_run seed count r)) read;
        formats = ap (λ r. is_ok (printed_manifest r)) read;
        values = c.values;
        solved = c.solved;
        settles = c.settles;
      }

pub surfaces_are_set : SurfacesAreSet
surfaces_are_set B text bits h long = settled B text bits h long
