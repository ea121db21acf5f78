-- What stands before the trace of a text.
use Rattle.std.specs.Prelude.{ℕ, Bool, bytes_eq, codes, List, [], ◌∷◌, if◌then◌else◌}
use Rattle.surf_text.specs.Bytes.{trimmed}

-- the line that opens a trace block
abbrev pub opens_trace : List ℕ → Bool
opens_trace l = bytes_eq (trimmed l) (codes "!START_TRACE")

-- the lines before the first one that opens a trace block
abbrev pub before_trace : List (List ℕ) → List (List ℕ)
before_trace [] = []
before_trace (l ∷ ls) = if opens_trace l then [] else l ∷ before_trace ls
