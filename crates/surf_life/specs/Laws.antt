-- What holds of counts of eight neighbours by half generations.
use Rattle.std.specs.Prelude.{◌≡◌, ℕ, ◌*◌, ◌<◌, ◌≤◌, true, List, length, slice_index}
use Rattle.surf_lattice.specs.declared.site.Site.{Site}
use Rattle.surf_lattice.specs.declared.site.GridKind.TheVariants.{Square}
use Rattle.surf_lattice.specs.Grids.{Grid, IsGrid, IsInside, is_coloured}
use Rattle.surf_auto.specs.Counts.{Counts}
use Rattle.surf_auto.specs.Locals.{rule_count, rule_count_in}
use Rattle.surf_auto.specs.Sync.{Universe, IsUniverse, universe, phase_sync, sync}
use Rattle.surf_life.specs.Moore.{moore_sync}
use Rattle.surf_life.specs.Halves.{moore_rule}

-- cells of two states about which all is dead
abbrev pub halves : Counts → Grid → List ℕ → Universe
halves C g cells = universe g (moore_rule C) 0 cells

-- dead and live cells on a square grid are such a universe
abbrev pub MakesUniverse : Type 0
MakesUniverse =
    (C : Counts) (g : Grid) (cells : List ℕ) → IsGrid g → is_coloured g ≡ true → g.kind ≡ Square →
    length cells ≡ g.width * g.height → length cells ≤ 1000000 →
    ((i : ℕ) → i < length cells → slice_index cells i < 2) →
    IsUniverse (halves C g cells)

-- an even number of phases is half as many steps of eight neighbours
abbrev pub EvenPhases : Type 0
EvenPhases =
    (C : Counts) (g : Grid) (cells : List ℕ) → IsUniverse (halves C g cells) →
    (k : ℕ) (s : Site) → IsInside g s →
    phase_sync (halves C g cells) (2 * k) s ≡ moore_sync C g cells k s

-- so a step is one of eight neighbours
abbrev pub StepsByEight : Type 0
StepsByEight =
    (C : Counts) (g : Grid) (cells : List ℕ) → IsUniverse (halves C g cells) →
    (k : ℕ) (s : Site) → IsInside g s →
    sync (halves C g cells) k s ≡ moore_sync C g cells k s

-- the start states are states of both phases
abbrev pub StartsInBoth : Type 0
StartsInBoth =
    (C : Counts) (g : Grid) (edge : ℕ) (cells : List ℕ) →
    IsUniverse (universe g (moore_rule C) edge cells) →
    (i f : ℕ) → i < length cells → f < (moore_rule C).phases →
    slice_index cells i < (moore_rule C).states f

-- the number of rules, and that with a stated last generation
abbrev pub MooreRules : Type 0
MooreRules = (C : Counts) → rule_count (moore_rule C) ≡ 555840

abbrev pub MooreRulesLast : Type 0
MooreRulesLast = (C : Counts) (last : ℕ) → rule_count_in last (moore_rule C) ≡ 185280 * last
