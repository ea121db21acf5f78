-- The line that goes to the notes, and the exit status.
use Rattle.std.specs.Prelude.{ℕ, ◌≤◌, List, [], ◌∷◌, ◌++◌, codes}
use Rattle.std.specs.Fmt.{decimal}
use Rattle.std.specs.Io.KnownBytes.{Appends}
use Rattle.surf_base.specs.Causes.{Rose}
use Rattle.surf_base.specs.Known.{AppendsFront}
use Rattle.surf_manifest_lines.specs.declared.error.ManifestError.{ManifestError}
use Rattle.surf_manifest_lines.specs.declared.error.ManifestError.TheVariants as faults
use Rattle.surf_manifest_lines.specs.declared.error.Block.{Block}
use Rattle.surf_manifest_lines.specs.declared.error.Block.TheVariants as blocks
use Rattle.surf_manifest_print.specs.declared.legend_error.LegendError.{LegendError}
use Rattle.surf_manifest_print.specs.declared.legend_error.LegendError.TheVariants as legends
use Rattle.surf_trace.specs.declared.error.TraceError.{TraceError}
use Rattle.surf_trace.specs.declared.error.TraceError.TheVariants as traces
use Rattle.surf_logic.specs.declared.turns.CircuitError.{CircuitError}
use Rattle.surf_logic.specs.declared.turns.CircuitError.TheVariants as circuits
use Rattle.surf_blif.specs.declared.error.BlifError.{BlifError}
use Rattle.surf_blif.specs.declared.error.BlifError.TheVariants as blifs
use Rattle.surf_auto.specs.declared.error.SourceError.{SourceError}
use Rattle.surf_auto.specs.declared.error.SourceError.TheVariants as sources
use Rattle.surf_status.specs.declared.words.Tail.{Tail}
use Rattle.surf_status.specs.declared.words.Tail.TheVariants as tails
use Rattle.surf_status.specs.declared.status.Refusal.{Refusal}
use Rattle.surf_status.specs.declared.status.Refusal.TheVariants.{Manifest, Legend, LegendSite, Trace, NotCells, Blif, Bits, NotInput, Source}
use Rattle.surf_status.specs.declared.status.Status.{Status}
use Rattle.surf_status.specs.declared.status.Status.TheVariants.{Done, Refused, Usage, NotEnabled, ReadFault, WriteFault, NoMemory, TooLong}
use Rattle.surf_status.specs.Writes.{Writes}

-- the exit status
abbrev pub code_of : Status → ℕ
code_of Done = 0
code_of (Refused r) = 1
code_of Usage = 2
code_of (NotEnabled k) = 3
code_of ReadFault = 4
code_of WriteFault = 5
code_of NoMemory = 6
code_of TooLong = 7

-- a number or a text behind a blank
abbrev pub behind : List ℕ → List ℕ
behind text = 32 ∷ text

-- what follows the words of a refusal
abbrev pub tail_text : Tail → List ℕ
tail_text tails.Nothing = []
tail_text (tails.Line n) = behind (decimal n)
tail_text (tails.Number n) = behind (decimal n)
tail_text (tails.Named text) = behind text.now
tail_text (tails.LineAndName n text) = behind (decimal n) ++ behind text.now
tail_text (tails.Numbers a b) = behind (decimal a) ++ behind (decimal b)

abbrev pub block_words : Block → List ℕ
block_words blocks.Rules = codes "missing-block rules"
block_words blocks.State = codes "missing-block state"

-- the words of a manifest's fault; want of memory is never a refusal
abbrev pub fault_words : ManifestError → List ℕ
fault_words (faults.BadLine n) = codes "bad-line" ++ behind (decimal n)
fault_words (faults.BadRule n) = codes "bad-rule" ++ behind (decimal n)
fault_words (faults.BadRate n) = codes "bad-rate" ++ behind (decimal n)
fault_words (faults.Ragged n) = codes "ragged" ++ behind (decimal n)
fault_words (faults.Include n) = codes "include" ++ behind (decimal n)
fault_words (faults.BlockTwice n) = codes "block-twice" ++ behind (decimal n)
fault_words (faults.BadOption n) = codes "bad-option" ++ behind (decimal n)
fault_words (faults.Unclosed n) = codes "unclosed" ++ behind (decimal n)
fault_words (faults.MissingBlock b) = block_words b ++ []
fault_words faults.NoSites = codes "no-sites" ++ []
fault_words (faults.TooManyRules n) = codes "too-many-rules" ++ behind (decimal n)
fault_words (faults.TooManySites n) = codes "too-many-sites" ++ behind (decimal n)
fault_words faults.WrapSize = codes "wrap-size" ++ []
fault_words faults.NoMemory = codes "no-memory" ++ []

-- the words of a legend's fault; want of memory is never a refusal
abbrev pub legend_words : LegendError → List ℕ
legend_words (legends.BadLegend n) = codes "bad-legend" ++ behind (decimal n)
legend_words legends.NoLegend = codes "no-legend" ++ []
legend_words legends.NoMemory = codes "no-memory" ++ []

-- the words of a trace's fault; want of memory is never a refusal
abbrev pub trace_words : TraceError → List ℕ
trace_words traces.NoTrace = codes "no-trace" ++ []
trace_words (traces.BadTrace n) = codes "bad-trace" ++ behind (decimal n)
trace_words (traces.Unclosed n) = codes "unclosed" ++ behind (decimal n)
trace_words traces.NoMemory = codes "no-memory" ++ []

-- the words of what is wrong with equations; want of memory is never a refusal
abbrev pub circuit_words : CircuitError → List ℕ
circuit_words (circuits.DeclaredTwice t) = codes "declared-twice" ++ behind t
circuit_words (circuits.DrivenTwice t) = codes "driven-twice" ++ behind t
circuit_words (circuits.Undriven t) = codes "undriven" ++ behind t
circuit_words circuits.NoOutputs = codes "no-outputs" ++ []
circuit_words (circuits.Cycle t) = codes "cycle" ++ behind t
circuit_words circuits.NoMemory = codes "no-memory" ++ []

-- the words of a circuit's fault; want of memory is never a refusal
abbrev pub blif_words : BlifError → List ℕ
blif_words (blifs.Unsupported n t) = codes "unsupported" ++ (behind (decimal n) ++ behind t)
blif_words (blifs.BadLine n) = codes "bad-line" ++ behind (decimal n)
blif_words (blifs.BadCover n) = codes "bad-cover" ++ behind (decimal n)
blif_words (blifs.MixedCover n) = codes "mixed-cover" ++ behind (decimal n)
blif_words (blifs.Circuit e) = circuit_words e
blif_words (blifs.TooLarge n) = codes "circuit-too-large" ++ behind (decimal n)
blif_words blifs.NoMemory = codes "no-memory" ++ []

-- the words of an automaton's fault; want of memory is never a refusal
abbrev pub source_words : SourceError → List ℕ
source_words (sources.BadHeader n) = codes "bad-header" ++ behind (decimal n)
source_words (sources.RuleForm n) = codes "rule-form" ++ behind (decimal n)
source_words (sources.TorusSize n) = codes "torus-size" ++ behind (decimal n)
source_words sources.EmptyGrid = codes "empty-grid" ++ []
source_words (sources.GridTooLarge n) = codes "grid-too-large" ++ behind (decimal n)
source_words (sources.BadItem n) = codes "bad-item" ++ behind (decimal n)
source_words (sources.OutOfBox n) = codes "out-of-box" ++ behind (decimal n)
source_words (sources.BadTable n) = codes "bad-table" ++ behind (decimal n)
source_words sources.Unclosed = codes "unclosed" ++ []
source_words (sources.TooManyRules n) = codes "too-many-rules" ++ behind (decimal n)
source_words sources.NoMemory = codes "no-memory" ++ []

abbrev pub refusal_words : Refusal → List ℕ
refusal_words (Manifest e) = fault_words e
refusal_words (Legend e) = legend_words e
refusal_words (LegendSite s) = codes "legend-site" ++ (behind (decimal s.x) ++ behind (decimal s.y))
refusal_words (Trace t) = trace_words t
refusal_words NotCells = codes "not-cells" ++ []
refusal_words (Blif e) = blif_words e
refusal_words (Bits found wanted) =
    codes "bits" ++ (behind (decimal found) ++ behind (decimal wanted))
refusal_words (NotInput s) = codes "not-input" ++ (behind (decimal s.x) ++ behind (decimal s.y))
refusal_words (Source e) = source_words e

-- the line of an answer; Done has none
abbrev pub note_of : Status → List ℕ
note_of Done = []
note_of (Refused r) = codes "surf: refused " ++ (refusal_words r ++ 10 ∷ [])
note_of Usage = codes "surf: usage\n"
note_of (NotEnabled k) = codes "surf: event " ++ (decimal k ++ codes " is not enabled\n")
note_of ReadFault = codes "surf: read fault\n"
note_of WriteFault = codes "surf: write fault\n"
note_of NoMemory = codes "surf: no memory\n"
note_of TooLong = codes "surf: input longer than 268435456 bytes\n"

-- a front of the line was written, and all of it where no fault rose
pub record Notes (w : Writes) (line : List ℕ) : Type 0 where
  pub front : AppendsFront w.old w.new line
  pub whole : (Rose w.before w.now → ⊥) → Appends w.old w.new line
  pub later : w.before ≤ w.now
