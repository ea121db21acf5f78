-- The logical lines of a text: comments and the blanks at the ends of lines are cut away, and a
-- last \ joins the next line.
use Rattle.std.specs.Prelude.{ℕ, ◌+◌, Bool, ◌==◌, List, [], ◌∷◌, ◌++◌, Option, Some, None, if◌then◌else◌}
use Rattle.surf_text.specs.Bytes.{before, lines_of, trimmed}

-- a physical line as it is looked at: # begins a comment
abbrev pub cut : List ℕ → List ℕ
cut line = trimmed (before 35 line)

-- the last of a list, or x where there is none
abbrev pub last_of : {X : Type 0} → X → List X → X
last_of x [] = x
last_of x (y ∷ ys) = last_of y ys

-- the list without its last
abbrev pub front_of : {X : Type 0} → List X → List X
front_of [] = []
front_of (x ∷ []) = []
front_of (x ∷ y ∷ ys) = x ∷ front_of (y ∷ ys)

-- the line goes on in the next one
abbrev pub goes_on : List ℕ → Bool
goes_on line = last_of 0 line == 92

-- the number of the first line, and the text of all of them
pub record Logical : Type 0 where
  pub number : ℕ
  pub text : List ℕ

-- what a line that goes on gives to its text: a blank stands for the \
abbrev pub part_of : List ℕ → List ℕ
part_of line = front_of (cut line) ++ 32 ∷ []

-- the logical lines of physical lines, the first of which has this number, where so_far is the line
-- that goes on in them, if any
abbrev pub joined_from : ℕ → Option Logical → List (List ℕ) → List Logical
joined_from n None [] = []
joined_from n (Some so_far) [] = so_far ∷ []
joined_from n None (l ∷ ls) =
    if goes_on (cut l)
    then joined_from (n + 1) (Some (record { number = n; text = part_of l })) ls
    else (record { number = n; text = cut l }) ∷ joined_from (n + 1) None ls
joined_from n (Some so_far) (l ∷ ls) =
    if goes_on (cut l)
    then joined_from (n + 1)
    (Some (record { number = so_far.number; text = so_far.text ++ part_of l })) ls
    else (record { number = so_far.number; text = so_far.text ++ cut l })
    ∷ joined_from (n + 1) None ls

abbrev pub logical_lines : List ℕ → List Logical
logical_lines bytes = joined_from 1 None (lines_of bytes)
