-- A pattern of n by n cells that vote among their neighbours, as text.
use Rattle.std.specs.Prelude.{ℕ, zero, suc, ◌+◌, ◌*◌, ◌%◌, nat_lt, Bool, List, [], ◌∷◌, ◌++◌, codes, if◌then◌else◌}
use Rattle.std.specs.Fmt.{decimal}

-- the cell in column x of row y is live at first
abbrev pub is_live : ℕ → ℕ → Bool
is_live x y = nat_lt ((3 * x + 5 * y + x * y) % 4) 2

abbrev pub cell_byte : ℕ → ℕ → ℕ
cell_byte x y = if is_live x y then 111 else 98

-- the first n cells of row y
abbrev pub cells_text : ℕ → ℕ → List ℕ
cells_text y zero = []
cells_text y (suc x) = cells_text y x ++ cell_byte x y ∷ []

-- the first so many rows of n cells, each with its end
abbrev pub rows_text : ℕ → ℕ → List ℕ
rows_text n zero = []
rows_text n (suc y) = rows_text n y ++ (cells_text y n ++ codes "$\n")

-- a cell is born where three or four of its four neighbours are live, and lives on where two or more
-- are
abbrev pub header_text : ℕ → List ℕ
header_text n =
    codes "x = " ++ (decimal n ++ (codes ", y = " ++ (decimal n ++ codes ", rule = B34/S234V\n")))

abbrev pub vote_text : ℕ → List ℕ
vote_text n = header_text n ++ (rows_text n n ++ codes "!")
