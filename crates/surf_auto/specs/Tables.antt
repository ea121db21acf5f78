-- Next states by sums of weights.
use Rattle.std.specs.Prelude.{◌≡◌, ℕ, ◌+◌, ◌*◌, ◌<◌, ◌≤◌, true, max, List, [], ◌∷◌, length, slice_index}
use Rattle.std.specs.List.{sum_by}
use Rattle.surf_auto.specs.Locals.{LocalRule, is_degree}

abbrev pub greatest : List ℕ → ℕ
greatest [] = 0
greatest (w ∷ ws) = max w (greatest ws)

-- the degree, a weight for each state, and for each own state a row of next states
pub record Table : Type 0 where
  pub degree : ℕ
  pub weights : List ℕ
  pub next : List ℕ

-- the number of sums, from 0 to the degree times the greatest weight
abbrev pub sum_count : Table → ℕ
sum_count T = T.degree * greatest T.weights + 1

-- 1 to 256 weights of at most 255, and in each row a next state for each sum
pub record IsTable (T : Table) : Type 0 where
  pub known : is_degree T.degree ≡ true
  pub some : 1 ≤ length T.weights
  pub few : length T.weights ≤ 256
  pub light : (s : ℕ) → s < length T.weights → slice_index T.weights s ≤ 255
  pub whole : length T.next ≡ length T.weights * sum_count T
  pub within : (i : ℕ) → i < length T.next → slice_index T.next i < length T.weights

-- the next state by the own state and a sum of weights
abbrev pub next_at : Table → ℕ → ℕ → ℕ
next_at T own sum = slice_index T.next (own * sum_count T + sum)

-- the next state, by the states of the neighbours
abbrev pub next_by_sum : Table → ℕ → List ℕ → ℕ
next_by_sum T own states = next_at T own (sum_by (slice_index T.weights) states)

abbrev pub table_rule : Table → LocalRule
table_rule T = record {
  degree = T.degree;
  phases = 1;
  states = λ f. length T.weights;
  start = λ f. 0;
  accs = λ f r. r * greatest T.weights + 1;
  add = λ f acc i state. acc + slice_index T.weights state;
  finish = λ f own acc. next_at T own acc;
}
