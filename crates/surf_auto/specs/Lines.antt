-- Which text is a table.
use Rattle.std.specs.Prelude.{ℕ, Bool, false, ◌==◌, List, [], ◌∷◌, Option, Some, None, if◌then◌else◌, codes}
use Rattle.std.specs.Str.{bytes_eq}
use Rattle.surf_text.specs.Bytes.{lines_of, tokens_of}

abbrev pub is_comment : List ℕ → Bool
is_comment [] = false
is_comment (b ∷ bs) = b == 35

-- what a line with these tokens tells: nothing where there is none or where it begins with #
abbrev pub told : List (List ℕ) → Option Bool
told [] = None
told (t ∷ ts) = if is_comment t then None else Some (bytes_eq t (codes "automaton"))

abbrev pub unless_told : Option Bool → Bool → Bool
unless_told None rest = rest
unless_told (Some b) rest = b

-- the first line that tells
abbrev pub first_told : List (List ℕ) → Bool
first_told [] = false
first_told (line ∷ lines) = unless_told (told (tokens_of line)) (first_told lines)

abbrev pub is_table : List ℕ → Bool
is_table text = first_told (lines_of text)
