-- The states of one generation of cells, read off a trace, as text.
use Rattle.std.specs.Prelude.{ℕ, ◌≡◌, List, map, Result, Ok, Err}
use Rattle.surf_world.specs.declared.event.Event.{Event}
use Rattle.surf_world.specs.Systems.{System, IsRun}
use Rattle.surf_manifest.specs.Grammar.{ManifestText}
use Rattle.surf_sync.specs.Spelling.{shown_by}
use Rattle.surf_trace.specs.Observations.{readings}
use Rattle.surf_trace.specs.Replays.{FirstBad}
use Rattle.surf_status.specs.declared.status.Refusal.{Refusal}
use Rattle.surf_status.specs.declared.status.Refusal.TheVariants.{NotCells}
use Rattle.surf_cells.specs.CellNames.{OfCells}
use Rattle.surf_cells.specs.Rows.{rows_text, state_word}

-- the states of generation k, in rows
abbrev pub observed_text : ℕ → System (List ℕ) → List Event → List ℕ
observed_text k S es =
    rows_text S.surface.grid (map state_word (readings shown_by S.surface S.start es k))

-- the manifest is one of cells, and the trace a run of it
abbrev pub IsObserved : Result (ManifestText × List Event) Refusal → Type 0
IsObserved (Ok p) = OfCells (p.0).system × IsRun (p.0).system.surface (p.0).system.start p.1
IsObserved (Err r) = ⊥

abbrev pub IsObservedText : ℕ → Result (ManifestText × List Event) Refusal → List ℕ → Type 0
IsObservedText k (Ok p) text =
    OfCells (p.0).system × IsRun (p.0).system.surface (p.0).system.start p.1
    × (text ≡ observed_text k (p.0).system p.1)
IsObservedText k (Err r) text = ⊥

-- the fault of the manifest or the trace, and else a name of another kind
abbrev pub IsObserveRefused : Result (ManifestText × List Event) Refusal → Refusal → Type 0
IsObserveRefused (Ok p) r = (OfCells (p.0).system → ⊥) × (r ≡ NotCells)
IsObserveRefused (Err e) r = e ≡ r

-- the manifest is one of cells, and the k-th event of the trace is the first that is not enabled at
-- its turn
abbrev pub ObservesBad : Result (ManifestText × List Event) Refusal → ℕ → Type 0
ObservesBad (Ok p) k = OfCells (p.0).system × FirstBad (p.0).system.surface (p.0).system.start p.1 k
ObservesBad (Err r) k = ⊥
