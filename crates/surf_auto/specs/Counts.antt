-- Births and survivals by counts of live neighbours.
use Rattle.std.specs.Prelude.{ℕ, ◌+◌, Bool, false, if◌then◌else◌, ◌==◌, List, slice_index_or}
use Rattle.std.specs.List.{sum_by}
use Rattle.surf_auto.specs.Locals.{LocalRule}

-- state 1 is live
abbrev pub alive : ℕ → ℕ
alive state = if state == 1 then 1 else 0

-- the degree, and whether a cell is live next, by the number of its live neighbours
pub record Counts : Type 0 where
  pub degree : ℕ
  pub birth : List Bool
  pub survival : List Bool

-- a live cell stays by `survival` and a dead one becomes live by `birth`
abbrev pub looked_up : Counts → ℕ → ℕ → ℕ
looked_up C own count =
    if (if own == 1 then slice_index_or C.survival count false
    else slice_index_or C.birth count false) then 1 else 0

-- the next state, by the states of the neighbours
abbrev pub next_by_count : Counts → ℕ → List ℕ → ℕ
next_by_count C own states = looked_up C own (sum_by alive states)

abbrev pub count_rule : Counts → LocalRule
count_rule C = record {
  degree = C.degree;
  phases = 1;
  states = λ f. 2;
  start = λ f. 0;
  accs = λ f r. r + 1;
  add = λ f acc i state. acc + alive state;
  finish = λ f own acc. looked_up C own acc;
}
