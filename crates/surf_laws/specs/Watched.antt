-- What `observe` reads off the cells of an automaton: the synchronous states.
use Rattle.std.specs.Prelude.{ℕ, ◌≡◌, ◌<◌, ◌≤◌, false, List, Option, Some, None}
use Rattle.surf_lattice.specs.declared.site.Site.{Site}
use Rattle.surf_lattice.specs.Grids.{IsInside, place}
use Rattle.surf_world.specs.declared.event.Event.{Event}
use Rattle.surf_world.specs.Systems.{System, IsRun}
use Rattle.surf_auto.specs.Sync.{Universe, phase_sync}
use Rattle.surf_sync.specs.Spelling.{shown_by}
use Rattle.surf_trace.specs.Generations.{read_off}
use Rattle.surf_colony.specs.Colonies.{framed, in_box}
use Rattle.surf_colony.specs.InStep.{KeepsInStep, generation_at, place_of}

-- what is read off a place as generation k
abbrev pub read_at : System (List ℕ) → List Event → ℕ → ℕ → Option ℕ
read_at S es k p = read_off shown_by S.surface S.start es p k

-- a cell that has come to generation k shows its synchronous state of k; one that has not, and a
-- site where no cell stands, shows none
pub record ReadsInStep (U : Universe) (S : System (List ℕ)) (es : List Event) (k : ℕ) : Type 0 where
  pub reached : (s : Site) → IsInside U.grid s → k ≤ generation_at U S es s →
      read_at S es k (place_of U s) ≡ Some (phase_sync U k s)
  pub not_yet : (s : Site) → IsInside U.grid s → generation_at U S es s < k →
      read_at S es k (place_of U s) ≡ None
  pub nothing : (t : Site) → IsInside (framed U.grid) t → in_box U.grid t ≡ false →
      read_at S es k (place (framed U.grid) t) ≡ None

-- of every run of a surface whose cells keep in step
abbrev pub AreReadInStep : Type 0
AreReadInStep = (U : Universe) (last : Option ℕ) (S : System (List ℕ)) → KeepsInStep U last S →
    (es : List Event) → IsRun S.surface S.start es → (k : ℕ) → ReadsInStep U S es k
