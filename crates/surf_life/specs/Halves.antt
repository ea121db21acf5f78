-- Counts of eight neighbours by half generations: a local rule of four neighbours and two phases.
use Rattle.std.specs.Prelude.{ℕ, ◌+◌, ◌-◌, ◌*◌, ◌/◌, ◌%◌, if◌then◌else◌, ◌==◌, nat_lt, min}
use Rattle.surf_auto.specs.Counts.{Counts, alive, looked_up}
use Rattle.surf_auto.specs.Locals.{LocalRule}

-- dead and live in phase 0; in phase 1 the own state, times 3, and the live cells west and east
abbrev pub moore_states : ℕ → ℕ
moore_states f = if f == 0 then 2 else 6

-- 1, 2, 3, 3 and 3 after 0 to 4 reads in phase 0, and 1, 1, 1, 4 and 7 in phase 1
abbrev pub moore_accs : ℕ → ℕ → ℕ
moore_accs f reads = if f == 0 then 1 + min reads 2 else 1 + 3 * (reads - 2)

-- phase 0 counts the live cells west and east, and phase 1 the rows of three north and south
abbrev pub moore_add : ℕ → ℕ → ℕ → ℕ → ℕ
moore_add f acc i state =
    if f == 0
    then (if nat_lt i 2 then acc + alive state else acc)
    else (if nat_lt i 2 then acc else acc + (state / 3 + state % 3))

abbrev pub moore_finish : Counts → ℕ → ℕ → ℕ → ℕ
moore_finish C f own acc = if f == 0 then own * 3 + acc else looked_up C (own / 3) (own % 3 + acc)

abbrev pub moore_rule : Counts → LocalRule
moore_rule C = record {
  degree = 4;
  phases = 2;
  states = moore_states;
  start = λ f. 0;
  accs = moore_accs;
  add = moore_add;
  finish = moore_finish C;
}
