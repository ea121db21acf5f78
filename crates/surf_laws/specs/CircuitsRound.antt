-- Circuits carried round: the surface of a circuit, set to bits and run to its end, is read as the
-- values that evaluation tells for these bits.
use Rattle.std.specs.Prelude.{ℕ, ◌≤◌, Bool, List, ◌++◌}
use Rattle.surf_world.specs.declared.event.Event.{Event}
use Rattle.surf_world.specs.Systems.{IsRun, Stuck, left_by}
use Rattle.surf_manifest.specs.Grammar.{ManifestText}
use Rattle.surf_manifest_print.specs.Legends.{LegendText}
use Rattle.surf_trace.specs.Traces.{trace_text}
use Rattle.surf_top.specs.Jobs.{Eval, Circuit, Set, Outputs}
use Rattle.surf_top.specs.Outputs.{IsText, Shows}
use Rattle.surf_command_runs.specs.Runs.{ShowsRun}
use Rattle.surf_command_circuits.specs.Sets.{HasLegend}

-- with the trace of any run that ends stuck behind a text, whatever follows it, `outputs` writes
-- these lines
abbrev pub TellsEnds : List ℕ → ManifestText → List ℕ → Type 0
TellsEnds text m lines =
    (es : List Event) (rest : List ℕ) → IsRun m.system.surface m.system.start es →
    Stuck m.system.surface (left_by m.system.surface m.system.start es) →
    IsText Outputs (text ++ (trace_text es ++ rest)) lines

-- so it does with what `run` prints, if it may take as many events as the legend says
abbrev pub TellsRuns : List ℕ → ManifestText → LegendText → List ℕ → Type 0
TellsRuns text m l lines =
    (count : ℕ) (out : List ℕ) → l.events ≤ count → ShowsRun m.system count out →
    IsText Outputs (text ++ out) lines

-- the grammar reads a manifest and a legend in a text, and with any run of it to the end behind it
-- `outputs` writes these lines
pub record RunsTell (text lines : List ℕ) : Type 0 where
  pub manifest : ManifestText
  pub legend : LegendText
  pub has : HasLegend text manifest legend
  pub ends : TellsEnds text manifest lines
  pub runs : TellsRuns text manifest legend lines

-- what `circuit` writes for an input, set to bits and run, gives the lines that `eval` writes for
-- these bits
abbrev pub CircuitsAreCarried : Type 0
CircuitsAreCarried =
    (input surface set lines : List ℕ) (bits : List Bool) → Shows Circuit input surface →
    IsText (Set bits) surface set → IsText (Eval bits) input lines → RunsTell set lines
