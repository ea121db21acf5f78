-- What `step` and `automaton` promise of an input.
use Rattle.std.specs.Prelude.{ℕ, ◌≡◌, ◌≤◌, List, Option, IfSome, Ok, Err, IsOk}
use Rattle.surf_status.specs.Calls.{Call}
use Rattle.surf_command_automata.specs.Automata.{HoldsColony, printed_colony}
use Rattle.surf_command_automata.specs.Generations.{source_of, printed_generation}

-- a margin, and a last generation, if one is given, are within their limits
abbrev pub AreWithin : ℕ → Option ℕ → Type 0
AreWithin margin last = (margin ≤ 1000) × IfSome last (λ n. (1 ≤ n) × (n ≤ 1000000))

-- `step N`
abbrev pub step_call : ℕ → List ℕ → Call
step_call times input = record {
  Is = λ text. printed_generation times (source_of 0 input) ≡ Ok text;
  Has = IsOk (printed_generation times (source_of 0 input));
  Refuses = λ r. printed_generation times (source_of 0 input) ≡ Err r;
  Bad = λ k. ⊥;
  Shows = λ text. Unit {0};
}

-- `automaton MARGIN [LAST]`
abbrev pub automaton_call : ℕ → Option ℕ → List ℕ → Call
automaton_call margin last input = record {
  Is = λ text. printed_colony last (source_of margin input) ≡ Ok text;
  Has = IsOk (printed_colony last (source_of margin input));
  Refuses = λ r. printed_colony last (source_of margin input) ≡ Err r;
  Bad = λ k. ⊥;
  Shows = HoldsColony margin last input;
}
