-- Names of a row behind its first one.
use Rattle.std.specs.Prelude.{ℕ, List, [], ◌∷◌, ◌++◌, if◌then◌else◌, length, map, nat_lt, take}

-- each text with a blank before it
abbrev pub after_blanks : List (List ℕ) → List ℕ
after_blanks [] = []
after_blanks (t ∷ ts) = (32 ∷ t) ++ after_blanks ts

-- a blank and a name, where both are at most 16 bytes
abbrev pub short_text : List ℕ → List ℕ
short_text t = if nat_lt (length t) 16 then 32 ∷ t else []

-- the first 256 names with a blank before each, where they are short
abbrev pub short_texts : List (List ℕ) → List (List ℕ)
short_texts names = map short_text (take 256 names)
