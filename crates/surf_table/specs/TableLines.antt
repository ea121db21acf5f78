-- The lines of a table's text, each with its numbers.
use Rattle.std.specs.Prelude.{ℕ, zero, suc, ◌+◌, ◌^◌, Bool, true, ◌&&◌, ◌==◌, nat_lt, nat_le, bytes_eq, codes, List, [], ◌∷◌, Option, Some, None, if◌then◌else◌}
use Rattle.surf_base.specs.Decimal.{decimal_below, decimal_of}
use Rattle.surf_text.specs.Bytes.{tokens_of, trimmed}
use Rattle.surf_auto.specs.Locals.{is_degree}

-- a line that is not skipped: its number in the text, from 1, and its words
pub record Line : Type 0 where
  pub number : ℕ
  pub words : List (List ℕ)

-- an empty line, or one that begins with #
abbrev pub is_skipped : List ℕ → Bool
is_skipped [] = true
is_skipped (b ∷ bs) = b == 35

abbrev pub line_onto : ℕ → List ℕ → List Line → List Line
line_onto n t ls = if is_skipped t then ls else (record { number = n; words = tokens_of t }) ∷ ls

-- the lines that are not skipped, where n lines stand before these; blanks at the ends don't count
abbrev pub lines_from : ℕ → List (List ℕ) → List Line
lines_from n [] = []
lines_from n (t ∷ ts) = line_onto (n + 1) (trimmed t) (lines_from (n + 1) ts)

-- ---- numbers

abbrev pub that_passes : (ℕ → Bool) → Option ℕ → Option ℕ
that_passes p None = None
that_passes p (Some k) = if p k then Some k else None

abbrev pub number_onto : Option ℕ → Option (List ℕ) → Option (List ℕ)
number_onto None ks = None
number_onto (Some k) None = None
number_onto (Some k) (Some ks) = Some (k ∷ ks)

-- so many numbers below n, and no further word
abbrev pub numbers : ℕ → ℕ → List (List ℕ) → Option (List ℕ)
numbers zero n [] = Some []
numbers zero n (word ∷ words) = None
numbers (suc count) n [] = None
numbers (suc count) n (word ∷ words) = number_onto (decimal_below n word) (numbers count n words)

-- ---- what each line must be: these words, or nothing

-- `key` and so many numbers below n
abbrev pub numbers_line : List ℕ → ℕ → ℕ → List (List ℕ) → Option (List ℕ)
numbers_line key count n [] = None
numbers_line key count n (word ∷ words) = if bytes_eq word key then numbers count n words else None

-- `key` and one number
abbrev pub number_line : List ℕ → List (List ℕ) → Option ℕ
number_line key (word ∷ number ∷ []) = if bytes_eq word key then decimal_of number else None
number_line key [] = None
number_line key (word ∷ []) = None
number_line key (word ∷ number ∷ more ∷ words) = None

abbrev pub version_line : List (List ℕ) → Option ℕ
version_line words = that_passes (λ k. k == 1) (number_line (codes "automaton") words)

abbrev pub degree_line : List (List ℕ) → Option ℕ
degree_line words = that_passes is_degree (number_line (codes "degree") words)

abbrev pub states_line : List (List ℕ) → Option ℕ
states_line words =
    that_passes (λ k. nat_le 1 k && nat_le k 256) (number_line (codes "states") words)

-- a state below n
abbrev pub edge_line : ℕ → List (List ℕ) → Option ℕ
edge_line n words = that_passes (λ k. nat_lt k n) (number_line (codes "edge") words)

-- n weights of at most 255
abbrev pub weights_line : ℕ → List (List ℕ) → Option (List ℕ)
weights_line n words = numbers_line (codes "weights") n 256 words

abbrev pub if_own : ℕ → Option ℕ → Option (List ℕ) → Option (List ℕ)
if_own own None row = None
if_own own (Some k) row = if k == own then row else None

-- the next states of this own state, one for each sum, all below n
abbrev pub next_line : ℕ → ℕ → ℕ → List (List ℕ) → Option (List ℕ)
next_line sums n own [] = None
next_line sums n own (word ∷ []) = None
next_line sums n own (word ∷ state ∷ words) =
    if bytes_eq word (codes "next") then if_own own (decimal_of state) (numbers sums n words)
    else None

abbrev pub side : List ℕ → Option ℕ
side word = decimal_below (2 ^ 32) word

abbrev pub sides : Option ℕ → Option ℕ → Option (ℕ × ℕ)
sides None h = None
sides (Some w) None = None
sides (Some w) (Some h) = Some (w, h)

-- the width and the height
abbrev pub size_line : List (List ℕ) → Option (ℕ × ℕ)
size_line (word ∷ w ∷ h ∷ []) =
    if bytes_eq word (codes "size") then sides (side w) (side h) else None
size_line [] = None
size_line (word ∷ []) = None
size_line (word ∷ w ∷ []) = None
size_line (word ∷ w ∷ h ∷ more ∷ words) = None

-- w states below n
abbrev pub row_line : ℕ → ℕ → List (List ℕ) → Option (List ℕ)
row_line n w words = numbers_line (codes "row") w n words

abbrev pub end_line : List (List ℕ) → Option (List ℕ)
end_line words = numbers_line (codes "end") 0 0 words
