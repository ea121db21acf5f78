-- A place between two lines of a text, and the first line behind it that is not passed over.
use Rattle.std.specs.Prelude.{ℕ, ◌+◌, Bool, List, [], ◌∷◌, Option, Some, None, if◌then◌else◌}
use Rattle.surf_text.specs.Bytes.{trimmed}

-- the text behind the place, and how many lines stand before it
pub record Cursor : Type 0 where
  pub left : List ℕ
  pub number : ℕ

-- a line without the blanks at its ends, its number from 1, and the lines behind it
pub record Kept : Type 0 where
  pub line : List ℕ
  pub number : ℕ
  pub behind : List (List ℕ)

-- the first of these lines that is not passed over, where n lines stand before them
abbrev pub first_kept : (List ℕ → Bool) → ℕ → List (List ℕ) → Option Kept
first_kept skipped n [] = None
first_kept skipped n (t ∷ ts) =
    if skipped (trimmed t) then first_kept skipped (n + 1) ts
    else Some (record { line = trimmed t; number = n + 1; behind = ts })
