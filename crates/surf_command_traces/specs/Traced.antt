-- A manifest and the trace behind it.
use Rattle.std.specs.Prelude.{ℕ, ◌≡◌, ◌++◌, List, [], length, map, codes, Result, Ok, Err}
use Rattle.std.specs.Fmt.{decimal}
use Rattle.surf_text.specs.Bytes.{lines_of}
use Rattle.surf_world.specs.declared.event.Event.{Event}
use Rattle.surf_world.specs.Systems.{IsRun}
use Rattle.surf_manifest_lines.specs.Line.{line_of}
use Rattle.surf_manifest.specs.Grammar.{ManifestText, read_from}
use Rattle.surf_manifest_lines.specs.declared.error.ManifestError.{ManifestError}
use Rattle.surf_trace.specs.Replays.{FirstBad}
use Rattle.surf_trace.specs.Splits.{before_trace}
use Rattle.surf_trace.specs.TraceTexts.{trace_of}
use Rattle.surf_trace.specs.declared.error.TraceError.{TraceError}
use Rattle.surf_status.specs.declared.status.Refusal.{Refusal}
use Rattle.surf_status.specs.declared.status.Refusal.TheVariants.{Manifest, Trace}

-- the manifest that stands before an input's trace, or its fault
abbrev pub manifest_before : List ℕ → Result ManifestText ManifestError
manifest_before input = read_from [] (map line_of (before_trace (lines_of input)))

abbrev pub replay_of : Result ManifestText ManifestError → Result (List Event) TraceError →
    Result (ManifestText × List Event) Refusal
replay_of (Err e) t = Err (Manifest e)
replay_of (Ok m) (Err t) = Err (Trace t)
replay_of (Ok m) (Ok es) = Ok (m, es)

-- the manifest of an input and the events of its trace, or a fault: the manifest's goes first
abbrev pub replay_input : List ℕ → Result (ManifestText × List Event) Refusal
replay_input input = replay_of (manifest_before input) (trace_of input)

-- the line of a trace that is a run
abbrev pub valid_text : List Event → List ℕ
valid_text es = codes "valid " ++ (decimal (length es) ++ codes "\n")

-- the trace is a run of its manifest
abbrev pub IsValid : Result (ManifestText × List Event) Refusal → Type 0
IsValid (Ok p) = IsRun (p.0).system.surface (p.0).system.start p.1
IsValid (Err r) = ⊥

abbrev pub IsValidText : Result (ManifestText × List Event) Refusal → List ℕ → Type 0
IsValidText (Ok p) text =
    IsRun (p.0).system.surface (p.0).system.start p.1 × (text ≡ valid_text p.1)
IsValidText (Err r) text = ⊥

-- the k-th event of the trace is the first that is not enabled at its turn
abbrev pub IsBadAt : Result (ManifestText × List Event) Refusal → ℕ → Type 0
IsBadAt (Ok p) k = FirstBad (p.0).system.surface (p.0).system.start p.1 k
IsBadAt (Err r) k = ⊥
