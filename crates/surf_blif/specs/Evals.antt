-- The outputs of a text's circuit at some bits.
use Rattle.std.specs.Prelude.{ℕ, Bool, List}
use Rattle.std.specs.Str.{bytes_eq}
use Rattle.surf_logic.specs.Equations.{Numbered}
use Rattle.surf_logic.specs.Answers.{EvalOf, IsEval}
use Rattle.surf_blif.specs.Blifs.{IsRead, parts_of}

-- what a text's circuit evaluates to are the text's outputs: there is exactly one assignment that
-- has these bits at the inputs and solves the text's equations, and it gives this answer
abbrev pub EvaluatesText : Type 0
EvaluatesText = (bytes : List ℕ) (c : Numbered) (bits answer : List Bool) → IsRead bytes c →
    IsEval c bits answer → EvalOf bytes_eq (parts_of bytes) bits answer
