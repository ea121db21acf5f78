-- A manifest with a recorded run behind it is read as both.
use Rattle.std.specs.Prelude.{ℕ, ◌≡◌, ◌^◌, ◌<◌, List, ◌++◌, length, All, codes, Option, Some, None, Ok}
use Rattle.surf_world.specs.declared.event.Event.{Event}
use Rattle.surf_world.specs.Systems.{IsRun}
use Rattle.surf_manifest.specs.Grammar.{ManifestText, manifest_of}
use Rattle.surf_manifest.specs.WellFormed.{IsWellFormed}
use Rattle.surf_manifest_print.specs.Legends.{LegendText, IsLegend, AreApart}
use Rattle.surf_manifest_print.specs.LegendTexts.{legend_of}
use Rattle.surf_manifest_print.specs.Prints.{print_of}
use Rattle.surf_trace.specs.Traces.{trace_text}
use Rattle.surf_trace.specs.TraceTexts.{trace_of, IsShort}
use Rattle.surf_command_runs.specs.Runs.{ShowsRun}
use Rattle.surf_command_traces.specs.Traced.{manifest_before, replay_input}
use Rattle.surf_command_traces.specs.Finals.{legend_before}

-- the last byte is a line feed
abbrev pub EndsLine : List ℕ → Type 0
EndsLine text = (t : List ℕ) × (text ≡ t ++ codes "\n")

-- with this tail a text is read as this manifest and these events, and its legend is the text's own
pub record IsReadBack (text tail : List ℕ) (m : ManifestText) (es : List Event) : Type 0 where
  pub manifest : manifest_before (text ++ tail) ≡ Ok m
  pub legend : legend_before (text ++ tail) ≡ legend_of text
  pub events : trace_of (text ++ tail) ≡ Ok es
  pub replayed : replay_input (text ++ tail) ≡ Ok (m, es)

-- so is any text that the grammar reads and that ends with a line feed, with the trace block of
-- fewer than 2^64 events behind it, whatever follows
abbrev pub AreReadBack : Type 0
AreReadBack =
    (text rest : List ℕ) (m : ManifestText) (es : List Event) → EndsLine text →
    manifest_of text ≡ Ok m → length es < 2 ^ 64 → All IsShort es →
    IsReadBack text (trace_text es ++ rest) m es

-- each number in a run of a manifest that the grammar reads fits
abbrev pub RunsAreShort : Type 0
RunsAreShort =
    (text : List ℕ) (m : ManifestText) (es : List Event) → manifest_of text ≡ Ok m →
    IsRun m.system.surface m.system.start es → All IsShort es

-- so each run of fewer than 2^64 events is read back
abbrev pub TracesAreReadBack : Type 0
TracesAreReadBack =
    (text rest : List ℕ) (m : ManifestText) (es : List Event) → EndsLine text →
    manifest_of text ≡ Ok m → IsRun m.system.surface m.system.start es → length es < 2 ^ 64 →
    IsReadBack text (trace_text es ++ rest) m es

-- and so is what `run` prints, which is read as the events that this shows
abbrev pub RunsAreReadBack : Type 0
RunsAreReadBack =
    (text out : List ℕ) (m : ManifestText) (count : ℕ) → EndsLine text → manifest_of text ≡ Ok m →
    count < 2 ^ 64 → (r : ShowsRun m.system count out) → IsReadBack text out m r.events

-- a legend whose inputs stand apart is read in the input
abbrev pub IsToldBack : List ℕ → Option LegendText → Type 0
IsToldBack input None = Unit {0}
IsToldBack input (Some l) = AreApart l.inputs → legend_before input ≡ Ok l

-- a manifest that is printed is read back so, with the legend that was printed
abbrev pub PrintsAreReadBack : Type 0
PrintsAreReadBack =
    (m : ManifestText) (l : Option LegendText) (es : List Event) (rest : List ℕ) → IsWellFormed m →
    IsLegend l → length es < 2 ^ 64 → All IsShort es →
    IsReadBack (print_of m l) (trace_text es ++ rest) m es
    × IsToldBack (print_of m l ++ (trace_text es ++ rest)) l

-- what is printed ends with a line feed
abbrev pub PrintsEndLines : Type 0
PrintsEndLines = (m : ManifestText) (l : Option LegendText) → EndsLine (print_of m l)
