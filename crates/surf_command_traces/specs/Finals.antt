-- What stands at a legend's outputs after a trace, as text.
use Rattle.std.specs.Prelude.{ℕ, ◌≡◌, bytes_eq, codes, List, [], ◌∷◌, ◌++◌, flat_map, Option, Some, None, Result, Ok, Err, slice_get, if◌then◌else◌}
use Rattle.surf_lattice.specs.declared.site.Site.{Site}
use Rattle.surf_lattice.specs.Grids.{Grid, place}
use Rattle.surf_text.specs.Bytes.{lines_of}
use Rattle.surf_world.specs.declared.event.Event.{Event}
use Rattle.surf_world.specs.Choices.{inside_test}
use Rattle.surf_world.specs.Systems.{IsRun, left_by}
use Rattle.surf_manifest.specs.Grammar.{ManifestText}
use Rattle.surf_manifest_lines.specs.declared.error.ManifestError.{ManifestError}
use Rattle.surf_manifest_print.specs.declared.legend.Place.{Place}
use Rattle.surf_manifest_print.specs.declared.legend_error.LegendError.{LegendError}
use Rattle.surf_manifest_print.specs.Legends.{LegendText}
use Rattle.surf_manifest_print.specs.LegendTexts.{legend_in}
use Rattle.surf_trace.specs.Replays.{FirstBad}
use Rattle.surf_trace.specs.Splits.{before_trace}
use Rattle.surf_trace.specs.TraceTexts.{trace_of}
use Rattle.surf_trace.specs.declared.error.TraceError.{TraceError}
use Rattle.surf_status.specs.declared.status.Refusal.{Refusal}
use Rattle.surf_status.specs.declared.status.Refusal.TheVariants.{Manifest, Legend, LegendSite, Trace}
use Rattle.surf_command_traces.specs.Traced.{manifest_before}

-- the value that a name tells: 0 or 1, and else -
abbrev pub final_byte : Option (List ℕ) → ℕ
final_byte None = 45
final_byte (Some name) =
    if bytes_eq name (codes "0") then 48 else (if bytes_eq name (codes "1") then 49 else 45)

-- a place's name, and the value that stands at its site
abbrev pub final_line : Grid → List (List ℕ) → Place → List ℕ
final_line g c p = p.name ++ 32 ∷ final_byte (slice_get c (place g p.site)) ∷ 10 ∷ []

-- for each place a line
abbrev pub finals_text : Grid → List (List ℕ) → List Place → List ℕ
finals_text g c places = flat_map (final_line g c) places

-- the site of the first place outside the grid
abbrev pub first_outside : Grid → List Place → Option Site
first_outside g [] = None
first_outside g (p ∷ ps) = if inside_test g p.site then first_outside g ps else Some p.site

-- the legend in the lines before an input's trace, or its fault
abbrev pub legend_before : List ℕ → Result LegendText LegendError
legend_before input =
    legend_in 0 (record { inputs = []; outputs = []; events = None })
    (before_trace (lines_of input))

-- a manifest with its legend, and the events of a trace
pub record Recorded : Type 0 where
  pub manifest : ManifestText
  pub legend : LegendText
  pub events : List Event

abbrev pub recorded_events : ManifestText → LegendText → Result (List Event) TraceError →
    Result Recorded Refusal
recorded_events m l (Err e) = Err (Trace e)
recorded_events m l (Ok es) = Ok (record { manifest = m; legend = l; events = es })

abbrev pub recorded_inside : ManifestText → LegendText → Option Site →
    Result (List Event) TraceError → Result Recorded Refusal
recorded_inside m l (Some s) t = Err (LegendSite s)
recorded_inside m l None t = recorded_events m l t

abbrev pub recorded_of : Result ManifestText ManifestError → Result LegendText LegendError →
    Result (List Event) TraceError → Result Recorded Refusal
recorded_of (Err e) l t = Err (Manifest e)
recorded_of (Ok m) (Err e) t = Err (Legend e)
recorded_of (Ok m) (Ok l) t = recorded_inside m l (first_outside m.system.surface.grid l.outputs) t

-- what an input records, or its first fault: of the manifest, of the legend, an output outside, of
-- the trace
abbrev pub recorded : List ℕ → Result Recorded Refusal
recorded input = recorded_of (manifest_before input) (legend_before input) (trace_of input)

-- the values at the outputs after the events
abbrev pub ended_text : Recorded → List ℕ
ended_text r =
    finals_text r.manifest.system.surface.grid (left_by r.manifest.system.surface
    r.manifest.system.start r.events) r.legend.outputs

-- the trace is a run of its manifest
abbrev pub IsEnded : Result Recorded Refusal → Type 0
IsEnded (Ok r) = IsRun r.manifest.system.surface r.manifest.system.start r.events
IsEnded (Err e) = ⊥

abbrev pub IsEndedText : Result Recorded Refusal → List ℕ → Type 0
IsEndedText (Ok r) text =
    IsRun r.manifest.system.surface r.manifest.system.start r.events × (text ≡ ended_text r)
IsEndedText (Err e) text = ⊥

-- the k-th event of the trace is the first that is not enabled at its turn
abbrev pub EndsBad : Result Recorded Refusal → ℕ → Type 0
EndsBad (Ok r) k = FirstBad r.manifest.system.surface r.manifest.system.start r.events k
EndsBad (Err e) k = ⊥
