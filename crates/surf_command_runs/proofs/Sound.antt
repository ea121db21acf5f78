-- An input that `run` or `format` refuses has no text.
use Rattle.std.proofs.Common.{ℕ, List, is_ok, sym, ◌∙◌, ap}
use Rattle.std.proofs.lemmas.Bool.{false≢true}
use Rattle.surf_status.specs.Calls.{IsExclusive}
use Rattle.surf_command_runs.specs.Calls.{run_call, format_call}

pub run_exclusive : (seed count : ℕ) (input : List ℕ) → IsExclusive (run_call seed count input)
run_exclusive seed count input =
    record { refused = λ r is ok. false≢true (sym (ap is_ok is) ∙ ok); bad = λ k is ok. is }

pub format_exclusive : (input : List ℕ) → IsExclusive (format_call input)
format_exclusive input =
    record { refused = λ r is ok. false≢true (sym (ap is_ok is) ∙ ok); bad = λ k is ok. is }
