-- What the text of an automaton spells: what its cells show, and its universe on a surface.
use Rattle.std.specs.Prelude.{◌≡◌, ℕ, ◌*◌, List}
use Rattle.surf_lattice.specs.declared.site.Site.{Site}
use Rattle.surf_lattice.specs.Grids.{Grid, IsInside}
use Rattle.surf_auto.specs.Counts.{Counts, count_rule}
use Rattle.surf_auto.specs.Sync.{Universe, box_of, phase_sync, sync, universe}
use Rattle.surf_life.specs.Laws.{halves}
use Rattle.surf_life.specs.Moore.{moore_sync}
use Rattle.surf_rle.specs.declared.pattern.Pattern.{Pattern}
use Rattle.surf_rle.specs.declared.pattern.Pattern.TheVariants as patterns

-- a universe whose cells see the neighbours of their grid; or births and survivals by counts of
-- eight neighbours, with cells on a square grid about which all is dead
pub data Source : Type 0 where
  Plain : Universe → Source
  Eight : Counts → Grid → List ℕ → Source

-- what the cell at s shows after k steps, in which all cells take their next state at once
abbrev pub shown : Source → ℕ → Site → ℕ
shown (Plain U) k s = sync U k s
shown (Eight C g cells) k s = moore_sync C g cells k s

-- the universe whose cells see four or six neighbours: eight are counted by half generations
abbrev pub universe_of : Source → Universe
universe_of (Plain U) = U
universe_of (Eight C g cells) = halves C g cells

-- after all phases of k steps each cell of the universe shows what the source shows after k steps
abbrev pub ShowsSteps : Source → Type 0
ShowsSteps S =
    (k : ℕ) (s : Site) → IsInside (universe_of S).grid s →
    phase_sync (universe_of S) (k * (universe_of S).rule.phases) s ≡ shown S k s

-- the source that a pattern is
abbrev pub source_by : Pattern → Source
source_by (patterns.Count a) =
    Plain (universe (box_of a.kind a.wrap a.width a.height) (count_rule a.local) a.edge
    a.cells.items)
source_by (patterns.Moore a) =
    Eight a.local (box_of a.kind a.wrap a.width a.height) a.cells.items

-- the state that all beyond its box keeps
abbrev pub edge_by : Pattern → ℕ
edge_by (patterns.Count a) = a.edge
edge_by (patterns.Moore a) = a.edge
