-- What `eval`, `circuit` and `set` promise of an input, and what `demo adder` does.
use Rattle.std.specs.Prelude.{ℕ, ◌≡◌, Bool, List, None, Some, Err, IsOk}
use Rattle.surf_blif.specs.Blifs.{Refuses, parts_of}
use Rattle.surf_blif.specs.declared.error.BlifError.{BlifError}
use Rattle.surf_blif.specs.declared.error.BlifError.TheVariants as blifs
use Rattle.surf_inputs.specs.declared.inputs.SetError.TheVariants as sets
use Rattle.surf_manifest.specs.Grammar.{manifest_of}
use Rattle.surf_manifest_print.specs.LegendTexts.{legend_of}
use Rattle.surf_status.specs.declared.status.Refusal.{Refusal}
use Rattle.surf_status.specs.declared.status.Refusal.TheVariants.{Manifest, Legend, LegendSite, Trace, NotCells, Blif, Bits, NotInput, Source}
use Rattle.surf_status.specs.Calls.{Call}
use Rattle.surf_command_circuits.specs.Values.{HasValues, IsAccepted, TellsValues, MissesBits}
use Rattle.surf_command_circuits.specs.Compiled.{HoldsCircuit, IsCompiled}
use Rattle.surf_command_circuits.specs.Sets.{IsSet, SetsWith}
use Rattle.surf_command_circuits.specs.Adders.{IsAdderShown}

-- a fault of the text refuses it: the error tells one, and is no want of memory
abbrev pub IsBlifRefused : List ℕ → BlifError → Type 0
IsBlifRefused input e = Refuses input e × (e ≡ blifs.NoMemory → ⊥)

-- why a circuit has no values for some bits: the text's fault first, then the number of bits
abbrev pub IsEvalRefused : List Bool → List ℕ → Refusal → Type 0
IsEvalRefused bits input (Blif e) = IsBlifRefused input e
IsEvalRefused bits input (Bits found wanted) = MissesBits bits input found wanted
IsEvalRefused bits input (Manifest e) = ⊥
IsEvalRefused bits input (Legend e) = ⊥
IsEvalRefused bits input (LegendSite s) = ⊥
IsEvalRefused bits input NotCells = ⊥
IsEvalRefused bits input (Trace e) = ⊥
IsEvalRefused bits input (NotInput s) = ⊥
IsEvalRefused bits input (Source e) = ⊥

-- why a circuit has no surface: the text's fault
abbrev pub IsCircuitRefused : List ℕ → Refusal → Type 0
IsCircuitRefused input (Blif e) = IsBlifRefused input e
IsCircuitRefused input (Manifest e) = ⊥
IsCircuitRefused input (Legend e) = ⊥
IsCircuitRefused input (LegendSite s) = ⊥
IsCircuitRefused input NotCells = ⊥
IsCircuitRefused input (Trace e) = ⊥
IsCircuitRefused input (Bits found wanted) = ⊥
IsCircuitRefused input (NotInput s) = ⊥
IsCircuitRefused input (Source e) = ⊥

-- why a manifest's inputs are not set: its own fault first, then the legend's, then the number of
-- bits, then a site
abbrev pub IsSetRefused : List Bool → List ℕ → Refusal → Type 0
IsSetRefused bits input (Manifest e) = manifest_of input ≡ Err e
IsSetRefused bits input (Legend e) = IsOk (manifest_of input) × (legend_of input ≡ Err e)
IsSetRefused bits input (Bits found wanted) = SetsWith bits input (Some (sets.Length found wanted))
IsSetRefused bits input (NotInput s) = SetsWith bits input (Some (sets.NotInput s))
IsSetRefused bits input (Trace e) = ⊥
IsSetRefused bits input (LegendSite s) = ⊥
IsSetRefused bits input NotCells = ⊥
IsSetRefused bits input (Blif e) = ⊥
IsSetRefused bits input (Source e) = ⊥

-- `eval BITS`
abbrev pub eval_call : List Bool → List ℕ → Call
eval_call bits input = record {
  Is = TellsValues bits input;
  Has = HasValues bits input;
  Refuses = IsEvalRefused bits input;
  Bad = λ k. ⊥;
  Shows = λ text. Unit {0};
}

-- `circuit`
abbrev pub circuit_call : List ℕ → Call
circuit_call input = record {
  Is = IsCompiled input;
  Has = IsAccepted input;
  Refuses = IsCircuitRefused input;
  Bad = λ k. ⊥;
  Shows = HoldsCircuit (parts_of input);
}

-- `set BITS`
abbrev pub set_call : List Bool → List ℕ → Call
set_call bits input = record {
  Is = IsSet bits input;
  Has = SetsWith bits input None;
  Refuses = IsSetRefused bits input;
  Bad = λ k. ⊥;
  Shows = λ text. Unit {0};
}

-- `demo adder N`, which reads no input and refuses nothing
abbrev pub adder_call : ℕ → Call
adder_call n = record {
  Is = IsAdderShown n;
  Has = Unit {0};
  Refuses = λ r. ⊥;
  Bad = λ k. ⊥;
  Shows = λ text. Unit {0};
}
