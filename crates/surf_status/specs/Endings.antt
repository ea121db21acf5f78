-- The answers to faults, and to a text that was written.
use Rattle.std.specs.Prelude.{Result, Ok, Err}
use Rattle.surf_status.specs.declared.status.Status.{Status}
use Rattle.surf_status.specs.declared.status.Status.TheVariants.{Done, Refused, NotEnabled, WriteFault, NoMemory}
use Rattle.surf_manifest_lines.specs.declared.error.ManifestError.{ManifestError}
use Rattle.surf_manifest_lines.specs.declared.error.ManifestError.TheVariants as faults
use Rattle.surf_trace.specs.declared.error.TraceError.{TraceError}
use Rattle.surf_trace.specs.declared.error.TraceError.TheVariants as traces
use Rattle.surf_trace.specs.declared.error.ObserveError.{ObserveError}
use Rattle.surf_trace.specs.declared.error.ObserveError.TheVariants as observes
use Rattle.surf_manifest_print.specs.declared.legend_error.LegendError.{LegendError}
use Rattle.surf_manifest_print.specs.declared.legend_error.LegendError.TheVariants as legends
use Rattle.surf_inputs.specs.declared.inputs.SetError.{SetError}
use Rattle.surf_inputs.specs.declared.inputs.SetError.TheVariants as sets
use Rattle.surf_blif.specs.declared.error.BlifError.{BlifError}
use Rattle.surf_blif.specs.declared.error.BlifError.TheVariants as blifs
use Rattle.surf_logic.specs.declared.values.EvalError.{EvalError}
use Rattle.surf_logic.specs.declared.values.EvalError.TheVariants as evals
use Rattle.surf_auto.specs.declared.error.SourceError.{SourceError}
use Rattle.surf_auto.specs.declared.error.SourceError.TheVariants as sources
use Rattle.surf_status.specs.declared.status.Refusal.TheVariants.{Manifest, Legend, Trace, NotCells, Blif, Bits, NotInput, Source}

-- how a command ends that wrote its text so
abbrev pub status_of : {T E : Type 0} → Result T E → Status
status_of (Ok x) = Done
status_of (Err e) = WriteFault

-- a fault of a manifest refuses it; want of memory is an answer of its own
abbrev pub answer_to : ManifestError → Status
answer_to (faults.BadLine n) = Refused (Manifest (faults.BadLine n))
answer_to (faults.BadRule n) = Refused (Manifest (faults.BadRule n))
answer_to (faults.BadRate n) = Refused (Manifest (faults.BadRate n))
answer_to (faults.Ragged n) = Refused (Manifest (faults.Ragged n))
answer_to (faults.Include n) = Refused (Manifest (faults.Include n))
answer_to (faults.BlockTwice n) = Refused (Manifest (faults.BlockTwice n))
answer_to (faults.BadOption n) = Refused (Manifest (faults.BadOption n))
answer_to (faults.Unclosed n) = Refused (Manifest (faults.Unclosed n))
answer_to (faults.MissingBlock b) = Refused (Manifest (faults.MissingBlock b))
answer_to faults.NoSites = Refused (Manifest faults.NoSites)
answer_to (faults.TooManyRules n) = Refused (Manifest (faults.TooManyRules n))
answer_to (faults.TooManySites n) = Refused (Manifest (faults.TooManySites n))
answer_to faults.WrapSize = Refused (Manifest faults.WrapSize)
answer_to faults.NoMemory = NoMemory

abbrev pub answer_to_legend : LegendError → Status
answer_to_legend (legends.BadLegend n) = Refused (Legend (legends.BadLegend n))
answer_to_legend legends.NoLegend = Refused (Legend legends.NoLegend)
answer_to_legend legends.NoMemory = NoMemory

abbrev pub answer_to_set : SetError → Status
answer_to_set (sets.Length found wanted) = Refused (Bits found wanted)
answer_to_set (sets.NotInput s) = Refused (NotInput s)
answer_to_set sets.NoMemory = NoMemory

abbrev pub answer_to_trace : TraceError → Status
answer_to_trace traces.NoTrace = Refused (Trace traces.NoTrace)
answer_to_trace (traces.BadTrace n) = Refused (Trace (traces.BadTrace n))
answer_to_trace (traces.Unclosed n) = Refused (Trace (traces.Unclosed n))
answer_to_trace traces.NoMemory = NoMemory

abbrev pub answer_to_observe : ObserveError → Status
answer_to_observe observes.NotCells = Refused NotCells
answer_to_observe (observes.NotEnabled k) = NotEnabled k
answer_to_observe observes.NoMemory = NoMemory

abbrev pub answer_to_blif : BlifError → Status
answer_to_blif (blifs.Unsupported n t) = Refused (Blif (blifs.Unsupported n t))
answer_to_blif (blifs.BadLine n) = Refused (Blif (blifs.BadLine n))
answer_to_blif (blifs.BadCover n) = Refused (Blif (blifs.BadCover n))
answer_to_blif (blifs.MixedCover n) = Refused (Blif (blifs.MixedCover n))
answer_to_blif (blifs.Circuit e) = Refused (Blif (blifs.Circuit e))
answer_to_blif (blifs.TooLarge n) = Refused (Blif (blifs.TooLarge n))
answer_to_blif blifs.NoMemory = NoMemory

abbrev pub answer_to_bits : EvalError → Status
answer_to_bits (evals.Length found wanted) = Refused (Bits found wanted)
answer_to_bits evals.NoMemory = NoMemory

abbrev pub answer_to_source : SourceError → Status
answer_to_source (sources.BadHeader n) = Refused (Source (sources.BadHeader n))
answer_to_source (sources.RuleForm n) = Refused (Source (sources.RuleForm n))
answer_to_source (sources.TorusSize n) = Refused (Source (sources.TorusSize n))
answer_to_source sources.EmptyGrid = Refused (Source sources.EmptyGrid)
answer_to_source (sources.GridTooLarge n) = Refused (Source (sources.GridTooLarge n))
answer_to_source (sources.BadItem n) = Refused (Source (sources.BadItem n))
answer_to_source (sources.OutOfBox n) = Refused (Source (sources.OutOfBox n))
answer_to_source (sources.BadTable n) = Refused (Source (sources.BadTable n))
answer_to_source sources.Unclosed = Refused (Source sources.Unclosed)
answer_to_source (sources.TooManyRules n) = Refused (Source (sources.TooManyRules n))
answer_to_source sources.NoMemory = NoMemory
