-- The names of a text, in the order in which they stand in it.
use Rattle.std.specs.Prelude.{ℕ, List, [], ◌∷◌, ◌++◌, map, Option, Result, Ok, Err}
use Rattle.std.specs.Option.{option_to_list}
use Rattle.surf_rules.specs.Names.{with_text}
use Rattle.surf_text.specs.Bytes.{lines_of}
use Rattle.surf_world.specs.Systems as systems
use Rattle.surf_manifest_lines.specs.declared.error.ManifestError.{ManifestError}
use Rattle.surf_manifest_lines.specs.declared.line.BlockKind.{BlockKind}
use Rattle.surf_manifest.specs.Grammar.{block_of, line_number}
use Rattle.surf_manifest_lines.specs.Item.{Item, Geometry, Wrap, Kept, Rule, Row, Colour, item_of}
use Rattle.surf_manifest_lines.specs.Line.{Line, Skipped, Opens, Closes, Includes, Unknown, Content, line_of}

abbrev pub rule_names : systems.Rule (List ℕ) → List (List ℕ)
rule_names r = r.left ∷ (option_to_list r.right ++ r.left_after ∷ option_to_list r.right_after)

abbrev pub item_names : Item → List (List ℕ)
item_names (Rule r) = rule_names r
item_names (Row names) = names
item_names (Geometry k) = []
item_names (Wrap b) = []
item_names (Kept o) = []
item_names (Colour t) = []

abbrev pub result_names : Result Item ManifestError → List (List ℕ)
result_names (Ok i) = item_names i
result_names (Err f) = []

-- the names of line n, which stands in this block
abbrev pub line_names : ℕ → Option BlockKind → Line → List (List ℕ)
line_names n block (Content t) = result_names (item_of n block t)
line_names n block Skipped = []
line_names n block (Opens p) = []
line_names n block (Closes p) = []
line_names n block Includes = []
line_names n block Unknown = []

-- the names of lines, one line after another, where these lines stand above
abbrev pub names_from : List Line → List Line → List (List ℕ)
names_from above [] = []
names_from above (l ∷ ls) =
    line_names (line_number above) (block_of above) l ++ names_from (l ∷ above) ls

-- texts with others behind them, each where it comes first
abbrev pub with_texts : List (List ℕ) → List (List ℕ) → List (List ℕ)
with_texts texts [] = texts
with_texts texts (t ∷ ts) = with_texts (with_text texts t) ts

-- the distinct names of a text, in the order in which they come first
abbrev pub names_in : List ℕ → List (List ℕ)
names_in bytes = with_texts [] (names_from [] (map line_of (lines_of bytes)))
