-- Parts of texts: lines, tokens, blanks at the ends, what stands before a byte and after it.
use Rattle.std.specs.Prelude.{ℕ, Bool, true, false, not, ◌&&◌, ◌||◌, ◌==◌, nat_le, List, [], ◌∷◌, ◌++◌, filter, take, drop, zero, suc, Option, Some, None, if◌then◌else◌}
use Rattle.std.specs.List.{list_all, slice_split, onto_first}

-- the lines end at a line feed or at the end of the text, and none follows a last line feed
abbrev pub lines_of : List ℕ → List (List ℕ)
lines_of [] = []
lines_of (b ∷ bs) = if b == 10 then [] ∷ lines_of bs else onto_first b (lines_of bs)

abbrev pub is_blank : ℕ → Bool
is_blank b = (b == 32) || ((b == 9) || (b == 13))

abbrev pub is_filled : List ℕ → Bool
is_filled [] = false
is_filled (b ∷ bs) = true

-- the longest runs of bytes that aren't blanks
abbrev pub tokens_of : List ℕ → List (List ℕ)
tokens_of line = filter is_filled (slice_split is_blank line)

-- the bytes from the first one on that does not pass
abbrev pub without_front : (ℕ → Bool) → List ℕ → List ℕ
without_front p [] = []
without_front p (b ∷ bs) = if p b then without_front p bs else b ∷ bs

abbrev pub unless_last : (ℕ → Bool) → ℕ → List ℕ → List ℕ
unless_last p b [] = if p b then [] else b ∷ []
unless_last p b (d ∷ ds) = b ∷ d ∷ ds

-- the bytes up to the last one that does not pass
abbrev pub without_end : (ℕ → Bool) → List ℕ → List ℕ
without_end p [] = []
without_end p (b ∷ bs) = unless_last p b (without_end p bs)

abbrev pub trimmed : List ℕ → List ℕ
trimmed bytes = without_end is_blank (without_front is_blank bytes)

-- what stands before the first byte c, and what follows it
abbrev pub before : ℕ → List ℕ → List ℕ
before c [] = []
before c (b ∷ bs) = if b == c then [] else b ∷ before c bs

abbrev pub after : ℕ → List ℕ → Option (List ℕ)
after c [] = None
after c (b ∷ bs) = if b == c then Some bs else after c bs

-- no byte is c
abbrev pub lacks : ℕ → List ℕ → Bool
lacks c t = list_all (λ b. not (b == c)) t

abbrev pub is_plain : ℕ → Bool
is_plain b = nat_le 33 b && nat_le b 126

-- a token of bytes 33 to 126
abbrev pub is_word : List ℕ → Bool
is_word t = is_filled t && list_all is_plain t

-- some bytes, all of them digits
abbrev pub is_digits : List ℕ → Bool
is_digits t = is_filled t && list_all (λ b. nat_le 48 b && nat_le b 57) t

-- each line with its line feed
abbrev pub ended : List (List ℕ) → List ℕ
ended [] = []
ended (t ∷ ts) = t ++ 10 ∷ ended ts

-- tokens with one blank between them
abbrev pub spaced : List (List ℕ) → List ℕ
spaced [] = []
spaced (t ∷ []) = t
spaced (t ∷ u ∷ ts) = t ++ 32 ∷ spaced (u ∷ ts)

-- so many rows of so many names
abbrev pub rows_of : ℕ → ℕ → List (List ℕ) → List (List (List ℕ))
rows_of width zero names = []
rows_of width (suc height) names = take width names ∷ rows_of width height (drop width names)
