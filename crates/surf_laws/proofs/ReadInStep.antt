-- What is read off a cell is what an observer of it reads, since a cell shows a state at first.
use Rattle.std.proofs.Common.{ℕ, ◌≡◌, List, [], Option, Some, None, slice_get, refl, ◌∙◌, ap}
use Rattle.surf_lattice.specs.declared.site.Site.{Site}
use Rattle.surf_lattice.specs.Grids.{IsInside, place}
use Rattle.surf_world.specs.declared.event.Event.{Event}
use Rattle.surf_world.specs.Systems.{System, IsRun}
use Rattle.surf_auto.specs.Sync.{Universe}
use Rattle.surf_sync.specs.Spelling.{Showing, shown_at, shown_by}
use Rattle.surf_trace.specs.Generations.{if_shown, observed}
use Rattle.surf_colony.specs.Colonies.{framed}
use Rattle.surf_colony.specs.InStep.{KeepsInStep, observed_at, place_of}
use Rattle.surf_laws.specs.Watched.{read_at, ReadsInStep, AreReadInStep}

shows_none : (a : Option Showing) (o : Option ℕ) → o ≡ None → if_shown a o ≡ None
shows_none None o is = refl
shows_none (Some s) o is = is

module _ (U : Universe) (last : Option ℕ) (S : System (List ℕ)) (keeps : KeepsInStep U last S) (es : List Event) (run : IsRun S.surface S.start es) (k : ℕ) where
  -- before any event a cell shows its state
  cell_read : (s : Site) → IsInside U.grid s → read_at S es k (place_of U s) ≡ observed_at U S es s k
  cell_read s inside = ap (λ (a : Option Showing). if_shown a (observed_at U S es s k)) ((keeps [] tt).shows s inside)

  none_read : (p : ℕ) → observed shown_by S.surface S.start es p k ≡ None → read_at S es k p ≡ None
  none_read p is = shows_none (shown_at shown_by (slice_get S.start p)) (observed shown_by S.surface S.start es p k) is

  reads_in_step : ReadsInStep U S es k
  reads_in_step = let step = keeps es run in record {
    reached = λ s inside come. cell_read s inside ∙ step.observes k s inside come;
    not_yet = λ s inside less. none_read (place_of U s) (step.not_yet k s inside less);
    nothing = λ t inside out. none_read (place (framed U.grid) t) (step.nothing k t inside out);
  }

pub are_read_in_step : AreReadInStep
are_read_in_step U last S keeps es run k = reads_in_step U last S keeps es run k
