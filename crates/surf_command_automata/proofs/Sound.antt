-- An input that `step` or `automaton` refuses has no text.
use Rattle.std.proofs.Common.{ℕ, List, Option, is_ok, sym, ◌∙◌, ap}
use Rattle.std.proofs.lemmas.Bool.{false≢true}
use Rattle.surf_status.specs.Calls.{IsExclusive}
use Rattle.surf_command_automata.specs.Calls.{step_call, automaton_call}

pub step_exclusive : (times : ℕ) (input : List ℕ) → IsExclusive (step_call times input)
step_exclusive times input =
    record { refused = λ r is ok. false≢true (sym (ap is_ok is) ∙ ok); bad = λ k is ok. is }

pub automaton_exclusive : (margin : ℕ) (last : Option ℕ) (input : List ℕ) → IsExclusive (automaton_call margin last input)
automaton_exclusive margin last input =
    record { refused = λ r is ok. false≢true (sym (ap is_ok is) ∙ ok); bad = λ k is ok. is }
