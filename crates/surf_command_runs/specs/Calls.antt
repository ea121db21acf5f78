-- What `run` and `format` promise of an input.
use Rattle.std.specs.Prelude.{ℕ, ◌≡◌, List, None, Result, Ok, Err, IsOk}
use Rattle.surf_manifest.specs.Grammar.{ManifestText, manifest_of}
use Rattle.surf_manifest_lines.specs.declared.error.ManifestError.{ManifestError}
use Rattle.surf_manifest_print.specs.Prints.{print_of}
use Rattle.surf_status.specs.declared.status.Refusal.{Refusal}
use Rattle.surf_status.specs.declared.status.Refusal.TheVariants.{Manifest}
use Rattle.surf_status.specs.Calls.{Call}
use Rattle.surf_command_runs.specs.Runs.{run_text, ShowsRun}

abbrev pub printed_run : ℕ → ℕ → Result ManifestText ManifestError → Result (List ℕ) Refusal
printed_run seed count (Ok m) = Ok (run_text m.system seed count)
printed_run seed count (Err e) = Err (Manifest e)

abbrev pub printed_manifest : Result ManifestText ManifestError → Result (List ℕ) Refusal
printed_manifest (Ok m) = Ok (print_of m None)
printed_manifest (Err e) = Err (Manifest e)

-- what a text says of the manifest that was read
abbrev pub ShowsOf : ℕ → Result ManifestText ManifestError → List ℕ → Type 0
ShowsOf count (Ok m) text = ShowsRun m.system count text
ShowsOf count (Err e) text = ⊥

-- `run SEED COUNT`
abbrev pub run_call : ℕ → ℕ → List ℕ → Call
run_call seed count input = record {
  Is = λ text. printed_run seed count (manifest_of input) ≡ Ok text;
  Has = IsOk (printed_run seed count (manifest_of input));
  Refuses = λ r. printed_run seed count (manifest_of input) ≡ Err r;
  Bad = λ k. ⊥;
  Shows = ShowsOf count (manifest_of input);
}

-- `format`
abbrev pub format_call : List ℕ → Call
format_call input = record {
  Is = λ text. printed_manifest (manifest_of input) ≡ Ok text;
  Has = IsOk (printed_manifest (manifest_of input));
  Refuses = λ r. printed_manifest (manifest_of input) ≡ Err r;
  Bad = λ k. ⊥;
  Shows = λ text. Unit {0};
}
