-- What holds of the local rules by counts and by sums, and of the number of rules.
use Rattle.std.specs.Prelude.{◌≡◌, ℕ, suc, ◌+◌, ◌*◌, List, map}
use Rattle.std.specs.List.{range_with_len}
use Rattle.surf_lattice.specs.declared.site.Site.{Site}
use Rattle.surf_lattice.specs.Grids.{Grid}
use Rattle.surf_auto.specs.Locals.{LocalRule, gathered, place_count, rule_count}
use Rattle.surf_auto.specs.Counts.{Counts, count_rule, next_by_count}
use Rattle.surf_auto.specs.Tables.{Table, table_rule, next_by_sum}
use Rattle.surf_auto.specs.Sync.{universe, sync, sync_by}

-- what is gathered one neighbour after another gives the next state by the count of live neighbours
abbrev pub CountsNeighbours : Type 0
CountsNeighbours =
    (C : Counts) (own : ℕ) (seen : ℕ → ℕ) →
    (count_rule C).finish 0 own (gathered (count_rule C) 0 seen C.degree)
    ≡ next_by_count C own (map seen (range_with_len 0 C.degree))

-- and by the sum of the neighbours' weights
abbrev pub SumsNeighbours : Type 0
SumsNeighbours =
    (T : Table) (own : ℕ) (seen : ℕ → ℕ) →
    (table_rule T).finish 0 own (gathered (table_rule T) 0 seen T.degree)
    ≡ next_by_sum T own (map seen (range_with_len 0 T.degree))

-- so the steps of such an automaton need no phases and nothing gathered
abbrev pub StepsByCounts : Type 0
StepsByCounts =
    (g : Grid) (C : Counts) (edge : ℕ) (cells : List ℕ) (k : ℕ) (s : Site) →
    sync (universe g (count_rule C) edge cells) k s ≡ sync_by (next_by_count C)
    (universe g (count_rule C) edge cells) k s

abbrev pub StepsBySums : Type 0
StepsBySums =
    (g : Grid) (T : Table) (edge : ℕ) (cells : List ℕ) (k : ℕ) (s : Site) →
    sync (universe g (table_rule T) edge cells) k s ≡ sync_by (next_by_sum T)
    (universe g (table_rule T) edge cells) k s

-- the number of rules of a local rule of one phase
abbrev pub OnePhaseRules : Type 0
OnePhaseRules =
    (R : LocalRule) → R.phases ≡ 1 →
    rule_count R ≡ 3 * suc R.degree * R.states 0 * R.states 0 * place_count R 0
    * (2 * R.states 0 * R.states 0 * place_count R 0 + 1)

-- and of births and survivals by counts
abbrev pub SquareCountRules : Type 0
SquareCountRules = (C : Counts) → C.degree ≡ 4 → rule_count (count_rule C) ≡ 48600

abbrev pub HexCountRules : Type 0
HexCountRules = (C : Counts) → C.degree ≡ 6 → rule_count (count_rule C) ≡ 298116
