-- Texts by number.
use Rattle.std.specs.Prelude.{◌≡◌, ℕ, List, [], ◌∷◌, ◌++◌, Some, slice_get, unwrap_or, if◌then◌else◌}
use Rattle.std.specs.List.{list_any}
use Rattle.std.specs.Str.{bytes_eq}

-- the text of a number
abbrev pub text_of : List (List ℕ) → ℕ → List ℕ
text_of texts k = unwrap_or (slice_get texts k) []

-- no two places have one text
abbrev pub AreDistinct : List (List ℕ) → Type 0
AreDistinct texts =
    (i j : ℕ) (t : List ℕ) → slice_get texts i ≡ Some t → slice_get texts j ≡ Some t → i ≡ j

-- the texts with one more, which goes last where it is new
abbrev pub with_text : List (List ℕ) → List ℕ → List (List ℕ)
with_text texts t = if list_any (bytes_eq t) texts then texts else texts ++ t ∷ []
