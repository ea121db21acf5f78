-- What a line is, by itself.
use Rattle.std.specs.Prelude.{ℕ, Bool, false, ◌||◌, ◌==◌, List, [], ◌∷◌, codes, if◌then◌else◌}
use Rattle.std.specs.Str.{bytes_eq}
use Rattle.surf_manifest_lines.specs.declared.line.BlockKind.{BlockKind}
use Rattle.surf_manifest_lines.specs.declared.line.BlockKind.TheVariants.{Rules, State, Colormap}
use Rattle.surf_text.specs.Bytes.{tokens_of, trimmed}

abbrev pub block_number : BlockKind → ℕ
block_number Rules = 0
block_number State = 1
block_number Colormap = 2

abbrev pub is_block : BlockKind → BlockKind → Bool
is_block p q = block_number p == block_number q

-- empty or a comment, a block's start or end, an inclusion, another mark, or content without the
-- blanks at its ends
pub data Line : Type 0 where
  Skipped : Line
  Opens : BlockKind → Line
  Closes : BlockKind → Line
  Includes : Line
  Unknown : Line
  Content : List ℕ → Line

abbrev pub is_include : List (List ℕ) → Bool
is_include [] = false
is_include (t ∷ ts) = bytes_eq t (codes "!INCLUDE")

abbrev pub mark_of : List ℕ → Line
mark_of t =
    if bytes_eq t (codes "!START_TRANSITION_RULES") then Opens Rules
    else (if bytes_eq t (codes "!END_TRANSITION_RULES") then Closes Rules
    else (if bytes_eq t (codes "!START_INIT_STATE") then Opens State
    else (if bytes_eq t (codes "!END_INIT_STATE") then Closes State
    else (if bytes_eq t (codes "!START_COLORMAP") then Opens Colormap
    else (if bytes_eq t (codes "!END_COLORMAP") then Closes Colormap
    else (if is_include (tokens_of t) then Includes
    else Unknown))))))

-- # and % begin a comment
abbrev pub is_comment_sign : ℕ → Bool
is_comment_sign b = (b == 35) || (b == 37)

abbrev pub line_of_text : List ℕ → Line
line_of_text [] = Skipped
line_of_text (b ∷ bs) =
    if is_comment_sign b then Skipped else (if b == 33 then mark_of (b ∷ bs) else Content (b ∷ bs))

abbrev pub line_of : List ℕ → Line
line_of bytes = line_of_text (trimmed bytes)
