-- How a command ends over an input whose manifest or trace has a fault.
use Rattle.std.proofs.Common.{◌≡◌, List, Result, Err}
use Rattle.surf_world.specs.declared.event.Event.{Event}
use Rattle.surf_manifest_lines.specs.Answers as manifests
use Rattle.surf_manifest.specs.Grammar.{ManifestText}
use Rattle.surf_manifest_lines.specs.declared.error.ManifestError.{ManifestError}
use Rattle.surf_manifest_lines.specs.declared.error.ManifestError.TheVariants as faults
use Rattle.surf_trace.specs.TraceTexts.{Refuses}
use Rattle.surf_trace.specs.declared.error.TraceError.{TraceError}
use Rattle.surf_trace.specs.declared.error.TraceError.TheVariants as traces
use Rattle.surf_status.specs.declared.status.Refusal.TheVariants.{Manifest, Trace}
use Rattle.surf_status.specs.Calls.{Call, EndsAs}
use Rattle.surf_status.specs.Endings.{answer_to, answer_to_trace}
use Rattle.surf_status.specs.Writes.{Writes}

module _ (call : Call) (w : Writes) (kept : w.now ≡ w.before) where
  pub manifest_ends : (r : Result ManifestText ManifestError) → ((e : ManifestError) → r ≡ Err e → call.Refuses (Manifest e)) → (f : ManifestError) → manifests.Refuses r f → EndsAs call w (answer_to f)
  manifest_ends r says (faults.BadLine n) h = says (faults.BadLine n) h
  manifest_ends r says (faults.BadRule n) h = says (faults.BadRule n) h
  manifest_ends r says (faults.BadRate n) h = says (faults.BadRate n) h
  manifest_ends r says (faults.Ragged n) h = says (faults.Ragged n) h
  manifest_ends r says (faults.Include n) h = says (faults.Include n) h
  manifest_ends r says (faults.BlockTwice n) h = says (faults.BlockTwice n) h
  manifest_ends r says (faults.BadOption n) h = says (faults.BadOption n) h
  manifest_ends r says (faults.Unclosed n) h = says (faults.Unclosed n) h
  manifest_ends r says (faults.MissingBlock b) h = says (faults.MissingBlock b) h
  manifest_ends r says faults.NoSites h = says faults.NoSites h
  manifest_ends r says (faults.TooManyRules n) h = says (faults.TooManyRules n) h
  manifest_ends r says (faults.TooManySites n) h = says (faults.TooManySites n) h
  manifest_ends r says faults.WrapSize h = says faults.WrapSize h
  manifest_ends r says faults.NoMemory h = kept

  pub trace_ends : (r : Result (List Event) TraceError) → ((e : TraceError) → r ≡ Err e → call.Refuses (Trace e)) → (f : TraceError) → Refuses r f → EndsAs call w (answer_to_trace f)
  trace_ends r says traces.NoTrace h = says traces.NoTrace h
  trace_ends r says (traces.BadTrace n) h = says (traces.BadTrace n) h
  trace_ends r says (traces.Unclosed n) h = says (traces.Unclosed n) h
  trace_ends r says traces.NoMemory h = kept
