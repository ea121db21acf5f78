-- The text of the rows of a surface.
use Rattle.std.specs.Prelude.{ℕ, ◌+◌, ◌==◌, List, [], ◌∷◌, ◌++◌, map, codes, Option, Some, None, if◌then◌else◌}
use Rattle.std.specs.Fmt.{decimal}
use Rattle.surf_lattice.specs.Grids.{Grid}
use Rattle.surf_text.specs.Bytes.{ended, spaced, rows_of}

-- the rows of a configuration, each on a line of its own
abbrev pub rows_text : Grid → List (List ℕ) → List ℕ
rows_text g c = ended (map spaced (rows_of g.width g.height c))

-- a byte behind a name: the line feed behind the last one of a row, else a blank
abbrev pub behind_name : ℕ → ℕ → ℕ
behind_name width x = if x + 1 == width then 10 else 32

-- the names of a row from column x on, each with the byte behind it
abbrev pub cells : ℕ → ℕ → List (List ℕ) → List ℕ
cells width x [] = []
cells width x (t ∷ ts) = (t ++ behind_name width x ∷ []) ++ cells width (x + 1) ts

-- a state, or - where there is none
abbrev pub state_word : Option ℕ → List ℕ
state_word None = codes "-"
state_word (Some n) = decimal n
