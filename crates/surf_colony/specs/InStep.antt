-- Local synchronisation: what holds of every run of a colony, in whatever order its events come.
use Rattle.std.specs.Prelude.{◌≡◌, false, ℕ, suc, ◌+◌, ◌-◌, ◌*◌, ◌^◌, ◌<◌, ◌≤◌, List, length, Option, Some, None, slice_get}
use Rattle.surf_lattice.specs.declared.site.Site.{Site}
use Rattle.surf_lattice.specs.Grids.{degree, IsInside, Adjacent, place}
use Rattle.surf_world.specs.declared.event.Event.{Event}
use Rattle.surf_world.specs.Systems.{System, Enabled, IsRun, Stuck, left_by}
use Rattle.surf_auto.specs.Sync.{Universe, phase_sync}
use Rattle.surf_sync.specs.Codes.{OpenBy, field_by}
use Rattle.surf_sync.specs.Spelling.{shown_at, shown_by}
use Rattle.surf_colony.specs.Colonies.{framed, onto, in_box}
use Rattle.surf_trace.specs.Generations.{generation, observed}

-- with a last generation a run ends: it has no more than so many events, and exactly so many where
-- no event may happen
abbrev pub EndsBy : Option ℕ → ℕ → ℕ → (ℕ → Type 0) → (ℕ → ℕ) → Type 0 → Type 0
EndsBy None reads events cell gen stuck = Unit {0}
EndsBy (Some last) reads events cell gen stuck =
    (events ≤ reads * last)
    × (stuck → (events ≡ reads * last) × ((p : ℕ) → cell p → gen p ≡ last))

-- a stated last generation is a whole number of rounds through the phases
abbrev pub IsLast : Option ℕ → ℕ → Type 0
IsLast None phases = Unit {0}
IsLast (Some last) phases = (n : ℕ) × (last ≡ n * phases) × (last < 2 ^ 31)

-- where the cell at s stands
abbrev pub place_of : Universe → Site → ℕ
place_of U s = place (framed U.grid) (onto U.grid s)

-- the configuration that the events leave, and the generation of the cell at s after them
abbrev pub final : System (List ℕ) → List Event → List (List ℕ)
final S es = left_by S.surface S.start es

abbrev pub generation_at : Universe → System (List ℕ) → List Event → Site → ℕ
generation_at U S es s = generation shown_by S.surface S.start es (place_of U s)

-- what an observer of the cell at s reads there as generation k
abbrev pub observed_at : Universe → System (List ℕ) → List Event → Site → ℕ → Option ℕ
observed_at U S es s k = observed shown_by S.surface S.start es (place_of U s) k

pub record IsInStep (U : Universe) (last : Option ℕ) (S : System (List ℕ)) (es : List Event) :
    Type 0 where
  -- a cell's name shows the synchronous state of its generation
  pub shows : (s : Site) → IsInside U.grid s →
      shown_at shown_by (slice_get (final S es) (place_of U s))
      ≡ Some (record {
        state = phase_sync U (generation_at U S es s) s;
        generation = field_by last U.rule.phases (generation_at U S es s);
      })
  -- neighbours are within one generation
  pub within_one : (s t : Site) → Adjacent U.grid s t →
      generation_at U S es s ≤ suc (generation_at U S es t)
  -- some event may happen exactly where some cell isn't at the last generation, and always where
  -- none is stated
  pub goes_on : (s : Site) → IsInside U.grid s → OpenBy last (generation_at U S es s) →
      (e : Event) × Enabled S.surface (final S es) e
  pub stops : (e : Event) → Enabled S.surface (final S es) e →
      (s : Site) × IsInside U.grid s × OpenBy last (generation_at U S es s)
  -- so many events bring every cell to generation k
  pub pace : (k : ℕ) (s : Site) → IsInside U.grid s →
      degree U.grid.kind * (U.grid.width * U.grid.height)
      * (k + (U.grid.width + U.grid.height - 2)) ≤ length es → k ≤ generation_at U S es s
  -- with a last generation a run ends
  pub ends : EndsBy last (degree U.grid.kind * (U.grid.width * U.grid.height)) (length es)
      (λ p. (s : Site) × IsInside U.grid s × (place_of U s ≡ p))
      (generation shown_by S.surface S.start es)
      (Stuck S.surface (final S es))
  -- an observer reads the synchronous states, one after another, and nothing where no cell stands
  pub observes : (k : ℕ) (s : Site) → IsInside U.grid s → k ≤ generation_at U S es s →
      observed_at U S es s k ≡ Some (phase_sync U k s)
  pub not_yet : (k : ℕ) (s : Site) → IsInside U.grid s → generation_at U S es s < k →
      observed_at U S es s k ≡ None
  pub nothing : (k : ℕ) (t : Site) → IsInside (framed U.grid) t → in_box U.grid t ≡ false →
      observed shown_by S.surface S.start es (place (framed U.grid) t) k ≡ None

-- every run keeps in step
abbrev pub KeepsInStep : Universe → Option ℕ → System (List ℕ) → Type 0
KeepsInStep U last S = (es : List Event) → IsRun S.surface S.start es → IsInStep U last S es
