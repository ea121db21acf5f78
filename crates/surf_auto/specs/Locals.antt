-- Local rules: what a cell makes of its own state and of the states of its neighbours, one phase
-- after another.
use Rattle.std.specs.Prelude.{◌≡◌, ℕ, zero, suc, ◌+◌, ◌-◌, ◌*◌, ◌<◌, ◌≤◌, Bool, true, ◌||◌, ◌==◌, if◌then◌else◌}

pub record LocalRule : Type 0 where
  -- how many neighbours a cell reads, in the order of directions
  pub degree : ℕ
  -- how many phases make one step
  pub phases : ℕ
  -- the number of states in a phase
  pub states : ℕ → ℕ
  -- what a cell has gathered before its first read in a phase
  pub start : ℕ → ℕ
  -- the number of values that a cell may have gathered in a phase after so many reads
  pub accs : ℕ → ℕ → ℕ
  -- what was gathered in a phase and one more read: the direction, and the state there
  pub add : ℕ → ℕ → ℕ → ℕ → ℕ
  -- the state after a phase, by the own state and what was gathered
  pub finish : ℕ → ℕ → ℕ → ℕ

-- the phase after this one, and the one before it: phase 0 follows the last
abbrev pub following : ℕ → ℕ → ℕ
following n f = if suc f == n then 0 else suc f

abbrev pub preceding : ℕ → ℕ → ℕ
preceding n zero = n - 1
preceding n (suc f) = f

abbrev pub is_degree : ℕ → Bool
is_degree d = (d == 4) || (d == 6)

-- the limits, and that each answer is in range for all arguments in range
pub record IsLocal (R : LocalRule) : Type 0 where
  pub known : is_degree R.degree ≡ true
  pub some_phase : 1 ≤ R.phases
  pub few_phases : R.phases ≤ 16
  pub some_states : (f : ℕ) → f < R.phases → 1 ≤ R.states f
  pub few_states : (f : ℕ) → f < R.phases → R.states f ≤ 256
  pub some_accs : (f r : ℕ) → f < R.phases → r ≤ R.degree → 1 ≤ R.accs f r
  pub few_accs : (f r : ℕ) → f < R.phases → r ≤ R.degree → R.accs f r ≤ 2048
  pub start_within : (f : ℕ) → f < R.phases → R.start f < R.accs f 0
  pub add_within : (f a i s : ℕ) → f < R.phases → a < R.accs f i → i < R.degree → s < R.states f →
      R.add f a i s < R.accs f (suc i)
  pub finish_within : (f s a : ℕ) → f < R.phases → s < R.states f → a < R.accs f R.degree →
      R.finish f s a < R.states (following R.phases f)

-- what is gathered in phase f over the first n directions, where `seen` says which state stands in
-- each
abbrev pub gathered : LocalRule → ℕ → (ℕ → ℕ) → ℕ → ℕ
gathered R f seen zero = R.start f
gathered R f seen (suc n) = R.add f (gathered R f seen n) n (seen n)

-- ---- the number of rules of a colony whose cells keep in step by reading their neighbours one at
-- a time

abbrev pub sum_below : (ℕ → ℕ) → ℕ → ℕ
sum_below f zero = 0
sum_below f (suc n) = sum_below f n + f n

-- the pairs of a number of reads and a value gathered by them
abbrev pub place_count : LocalRule → ℕ → ℕ
place_count R f = sum_below (R.accs f) R.degree

-- the cells of one colour and one generation: a state, the state before it, and how far the cell
-- has read
abbrev pub code_count : LocalRule → ℕ → ℕ
code_count R f = R.states f * R.states (preceding R.phases f) * place_count R f

-- a reader has one of so many generations and one of the colours
abbrev pub reader_count : ℕ → LocalRule → ℕ → ℕ
reader_count turns R f = turns * suc R.degree * code_count R f

-- it sees the frame, a cell of its generation or one of the next
abbrev pub sight_count : LocalRule → ℕ → ℕ
sight_count R f = 1 + code_count R f + code_count R (following R.phases f)

abbrev pub rule_count_in : ℕ → LocalRule → ℕ
rule_count_in turns R = sum_below (λ f. reader_count turns R f * sight_count R f) R.phases

-- three generations of a phase are told apart where no last one is stated
abbrev pub rule_count : LocalRule → ℕ
rule_count R = rule_count_in 3 R
