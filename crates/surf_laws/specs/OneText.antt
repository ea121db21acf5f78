-- A circuit's surface as text is one.
use Rattle.std.specs.Prelude.{ℕ, ◌≡◌, List}
use Rattle.surf_command_circuits.specs.Compiled.{IsCompiled}

-- an input has one text of its circuit's surface, however the circuit's names are numbered
abbrev pub OneText : Type 0
OneText =
    (input text text' : List ℕ) → IsCompiled input text → IsCompiled input text' → text ≡ text'
