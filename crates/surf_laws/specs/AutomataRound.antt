-- An automaton carried round: what `observe` reads off a recorded run behind what `automaton`
-- prints is the generations of the universe, and without a margin what `step` prints.
use Rattle.std.specs.Prelude.{ℕ, ◌≡◌, ◌*◌, ◌^◌, ◌<◌, ◌≤◌, ◌⊎◌, true, false, List, ◌++◌, length, codes, Option, Some, Ok, slice_get}
use Rattle.std.specs.Fmt.{decimal}
use Rattle.surf_lattice.specs.declared.site.Site.{Site}
use Rattle.surf_lattice.specs.Grids.{IsInside, place}
use Rattle.surf_world.specs.declared.event.Event.{Event}
use Rattle.surf_world.specs.Systems.{IsRun}
use Rattle.surf_manifest.specs.Grammar.{ManifestText}
use Rattle.surf_trace.specs.Traces.{trace_text}
use Rattle.surf_auto.specs.Sync.{IsUniverse, Universe, phase_sync}
use Rattle.surf_colony.specs.Colonies.{StartsWithin, framed, in_box, printed}
use Rattle.surf_colony.specs.InStep.{IsLast, generation_at, place_of}
use Rattle.surf_rle.specs.Sources.{universe_of}
use Rattle.surf_rle.specs.Sources as sources
use Rattle.surf_command_automata.specs.Automata.{HoldsColony}
use Rattle.surf_command_automata.specs.Generations.{source_of, source_grid}
use Rattle.surf_top.specs.Jobs.{Automaton, Observe, Step}
use Rattle.surf_cells.specs.CellNames.{OfCells}
use Rattle.surf_command_traces.specs.Observed.{observed_text}
use Rattle.surf_top.specs.Outputs.{IsText}
use Rattle.surf_cells.specs.Rows.{rows_text}
use Rattle.surf_command_runs.specs.Runs.{ShowsRun}
use Rattle.surf_command_traces.specs.Traced.{replay_input}

-- no margin, or a torus, which has none
abbrev pub HasNoMargin : ℕ → sources.Source → Type 0
HasNoMargin margin S = (margin ≡ 0) ⊎ ((source_grid S).wrap ≡ true)

-- the generation of the cells of S after so many steps: all phases of each
abbrev pub phases_of : sources.Source → ℕ → ℕ
phases_of S k = k * (universe_of S).rule.phases

-- the generation that the cell at s has come to in a run of the surface of S
abbrev pub come_to : sources.Source → ManifestText → List Event → Site → ℕ
come_to S m es s = generation_at (universe_of S) m.system es s

-- A text is words read off the sites of the surface as generation g: the state of the cell's
-- universe at g where the cell has come to it, and - where it has not, and where no cell stands.
pub record TellsGeneration (S : sources.Source) (m : ManifestText) (es : List Event) (g : ℕ)
    (observed : List ℕ) : Type 0 where
  pub read : List (List ℕ)
  pub observed_is : observed ≡ rows_text (framed (source_grid S)) read
  pub everywhere : length read ≡ (framed (source_grid S)).width * (framed (source_grid S)).height
  pub reached : (s : Site) → IsInside (source_grid S) s → g ≤ come_to S m es s →
      slice_get read (place_of (universe_of S) s)
      ≡ Some (decimal (phase_sync (universe_of S) g s))
  pub not_yet : (s : Site) → IsInside (source_grid S) s → come_to S m es s < g →
      slice_get read (place_of (universe_of S) s) ≡ Some (codes "-")
  pub nothing : (t : Site) → IsInside (framed (source_grid S)) t →
      in_box (source_grid S) t ≡ false →
      slice_get read (place (framed (source_grid S)) t) ≡ Some (codes "-")

-- the recorded input is read as this manifest and these events; for every generation `observe` has
-- a text to write for it; and whatever `observe` writes for it tells that generation
pub record TellsGenerations (S : sources.Source) (m : ManifestText) (carried : List ℕ)
    (es : List Event) : Type 0 where
  pub replayed : replay_input carried ≡ Ok (m, es)
  pub answered : (g : ℕ) → IsText (Observe g) carried (observed_text g m.system es)
  pub told : (g : ℕ) (observed : List ℕ) → IsText (Observe g) carried observed →
      TellsGeneration S m es g observed

-- so it is with each recorded run behind what `automaton` prints, whatever follows
abbrev pub GenerationsAreTold : Type 0
GenerationsAreTold =
    (margin : ℕ) (last : Option ℕ) (input text rest : List ℕ) (es : List Event) →
    IsText (Automaton margin last) input text → (h : HoldsColony margin last input text) →
    IsRun h.manifest.system.surface h.manifest.system.start es → length es < 2 ^ 64 →
    TellsGenerations h.source h.manifest (text ++ (trace_text es ++ rest)) es

-- and with what `run` prints
abbrev pub RunGenerationsAreTold : Type 0
RunGenerationsAreTold =
    (margin : ℕ) (last : Option ℕ) (input text out : List ℕ) (count : ℕ) →
    IsText (Automaton margin last) input text → (h : HoldsColony margin last input text) →
    count < 2 ^ 64 → (r : ShowsRun h.manifest.system count out) →
    TellsGenerations h.source h.manifest (text ++ out) r.events

-- One text tells the generation of k steps, the other is the words of the cells after k steps. A
-- cell that has come to that generation has one word in both.
pub record TellsSteps (S : sources.Source) (m : ManifestText) (es : List Event) (k : ℕ)
    (observed stepped : List ℕ) : Type 0 where
  pub told : TellsGeneration S m es (phases_of S k) observed
  pub shown : List (List ℕ)
  pub stepped_is : stepped ≡ rows_text (source_grid S) shown
  pub everywhere : length shown ≡ (source_grid S).width * (source_grid S).height
  pub same : (s : Site) → IsInside (source_grid S) s → phases_of S k ≤ come_to S m es s →
      slice_get told.read (place_of (universe_of S) s) ≡ slice_get shown (place (source_grid S) s)

-- `observe` tells each generation of the recorded input; the input spells S; and whatever `observe`
-- writes for the generation of k steps tells the steps that `step` writes for the input
pub record IsCarriedRound (S : sources.Source) (m : ManifestText) (input carried : List ℕ)
    (es : List Event) : Type 0 where
  pub generations : TellsGenerations S m carried es
  pub spelled : source_of 0 input ≡ Ok S
  pub told : (k : ℕ) (observed stepped : List ℕ) →
      IsText (Observe (phases_of S k)) carried observed → IsText (Step k) input stepped →
      TellsSteps S m es k observed stepped

-- every name of a colony is a cell's or the frame's
abbrev pub ColoniesAreOfCells : Type 0
ColoniesAreOfCells =
    (U : Universe) (last : Option ℕ) → IsUniverse U → StartsWithin U →
    IsLast last U.rule.phases → OfCells (printed U last)

-- without a margin each recorded run behind what `automaton` prints is carried so, whatever follows
abbrev pub TracesAreCarried : Type 0
TracesAreCarried =
    (margin : ℕ) (last : Option ℕ) (input text rest : List ℕ) (es : List Event) →
    IsText (Automaton margin last) input text → (h : HoldsColony margin last input text) →
    HasNoMargin margin h.source →
    IsRun h.manifest.system.surface h.manifest.system.start es → length es < 2 ^ 64 →
    IsCarriedRound h.source h.manifest input (text ++ (trace_text es ++ rest)) es

-- and what `run` prints of it
abbrev pub RunsAreCarried : Type 0
RunsAreCarried =
    (margin : ℕ) (last : Option ℕ) (input text out : List ℕ) (count : ℕ) →
    IsText (Automaton margin last) input text → (h : HoldsColony margin last input text) →
    HasNoMargin margin h.source → count < 2 ^ 64 → (r : ShowsRun h.manifest.system count out) →
    IsCarriedRound h.source h.manifest input (text ++ out) r.events
