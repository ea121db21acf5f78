-- What a logical line is, by itself.
use Rattle.std.specs.Prelude.{ℕ, Bool, false, ◌||◌, ◌==◌, List, [], ◌∷◌, codes, if◌then◌else◌}
use Rattle.std.specs.List.{list_all}
use Rattle.std.specs.Str.{bytes_eq}
use Rattle.surf_text.specs.Bytes.{is_blank, is_plain, tokens_of}

-- a line without tokens; a line .model or .end, and whether its bytes may stand in a text; a line
-- with a byte that may not; declared inputs or outputs; the signals of a .names; another directive;
-- a row of a cover
pub data Line : Type 0 where
  Skipped : Line
  Model : Bool → Line
  End : Bool → Line
  Bad : Line
  Inputs : List (List ℕ) → Line
  Outputs : List (List ℕ) → Line
  Names : List (List ℕ) → Line
  Other : List ℕ → Line
  Row : List (List ℕ) → Line

-- a byte that may stand outside of comments
abbrev pub may_stand : ℕ → Bool
may_stand b = is_blank b || is_plain b

abbrev pub begins_directive : List ℕ → Bool
begins_directive [] = false
begins_directive (b ∷ bs) = b == 46

abbrev pub directive : List ℕ → List (List ℕ) → Line
directive t ts =
    if bytes_eq t (codes ".inputs") then Inputs ts
    else (if bytes_eq t (codes ".outputs") then Outputs ts
    else (if bytes_eq t (codes ".names") then Names ts
    else Other t))

abbrev pub line_of_tokens : Bool → List (List ℕ) → Line
line_of_tokens stand [] = Skipped
line_of_tokens stand (t ∷ ts) =
    if bytes_eq t (codes ".model") then Model stand
    else (if bytes_eq t (codes ".end") then End stand
    else (if stand then (if begins_directive t then directive t ts else Row (t ∷ ts)) else Bad))

abbrev pub line_of : List ℕ → Line
line_of text = line_of_tokens (list_all may_stand text) (tokens_of text)
