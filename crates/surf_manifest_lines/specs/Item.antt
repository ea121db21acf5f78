-- What a content line says in its block, or its fault.
use Rattle.std.specs.Prelude.{ℕ, ◌+◌, ◌-◌, ◌*◌, ◌/◌, Bool, true, false, not, ◌&&◌, ◌||◌, ◌==◌, nat_le, List, [], ◌∷◌, length, map, codes, Option, Some, None, Result, Ok, Err, if◌then◌else◌}
use Rattle.std.specs.List.{list_all}
use Rattle.std.specs.Str.{bytes_eq}
use Rattle.std.specs.Char.{to_ascii_lowercase}
use Rattle.surf_base.specs.Decimal.{value_from}
use Rattle.surf_lattice.specs.declared.site.GridKind.{GridKind}
use Rattle.surf_lattice.specs.declared.site.GridKind.TheVariants.{Square, Hex}
use Rattle.surf_world.specs.Systems as systems
use Rattle.surf_manifest_lines.specs.declared.options.OptionLine.{OptionLine}
use Rattle.surf_manifest_lines.specs.declared.error.ManifestError.{ManifestError}
use Rattle.surf_manifest_lines.specs.declared.error.ManifestError.TheVariants.{BadLine, BadRule, BadRate, BadOption}
use Rattle.surf_text.specs.Bytes.{tokens_of, trimmed, before, after, is_plain, is_word, is_digits}
use Rattle.surf_manifest_lines.specs.declared.line.BlockKind.{BlockKind}
use Rattle.surf_manifest_lines.specs.declared.line.BlockKind.TheVariants.{Rules, State, Colormap}
use Rattle.surf_manifest_lines.specs.Line.{is_comment_sign}

pub data Item : Type 0 where
  Geometry : GridKind → Item
  Wrap : Bool → Item
  Kept : OptionLine → Item
  Rule : systems.Rule (List ℕ) → Item
  Row : List (List ℕ) → Item
  Colour : List ℕ → Item

-- a name: bytes 33 to 126 that aren't + or ->, and don't begin with #, %, ! or (
abbrev pub is_name : List ℕ → Bool
is_name [] = false
is_name (b ∷ bs) =
    list_all is_plain (b ∷ bs)
    && (not (bytes_eq (b ∷ bs) (codes "+")) && (not (bytes_eq (b ∷ bs) (codes "->"))
    && not (is_comment_sign b || ((b == 33) || (b == 40)))))

-- an option: key = value
abbrev pub geometry_of : ℕ → List ℕ → Result Item ManifestError
geometry_of n v =
    if bytes_eq v (codes "square") then Ok (Geometry Square)
    else (if bytes_eq v (codes "hex") then Ok (Geometry Hex)
    else Err (BadOption n))

abbrev pub wrap_of : ℕ → List ℕ → Result Item ManifestError
wrap_of n v =
    if bytes_eq v (codes "true") then Ok (Wrap true)
    else (if bytes_eq v (codes "false") then Ok (Wrap false)
    else Err (BadOption n))

abbrev pub setting_of : ℕ → List ℕ → List ℕ → Result Item ManifestError
setting_of n key value =
    if bytes_eq key (codes "geometry") then geometry_of n (map to_ascii_lowercase value)
    else (if bytes_eq key (codes "wrap") then wrap_of n (map to_ascii_lowercase value)
    else Ok (Kept (record { key = key; value = value })))

abbrev pub option_from : ℕ → List ℕ → Option (List ℕ) → Result Item ManifestError
option_from n key None = Err (BadLine n)
option_from n key (Some value) =
    if is_word key then setting_of n key (trimmed value) else Err (BadLine n)

abbrev pub option_of : ℕ → List ℕ → Result Item ManifestError
option_of n t = option_from n (trimmed (before 61 t)) (after 61 t)

-- digits behind a point, each of the weight of its place
abbrev pub millionths : ℕ → List ℕ → ℕ
millionths weight [] = 0
millionths weight (d ∷ ds) = (d - 48) * weight + millionths (weight / 10) ds

abbrev pub is_fraction : Option (List ℕ) → Bool
is_fraction None = true
is_fraction (Some ds) = is_digits ds && nat_le (length ds) 6

abbrev pub fraction_value : Option (List ℕ) → ℕ
fraction_value None = 0
fraction_value (Some ds) = millionths 100000 ds

abbrev pub rate_parts : List ℕ → Option (List ℕ) → Option ℕ
rate_parts whole part =
    if is_digits whole
    && (is_fraction part && nat_le (value_from 0 whole * 1000000 + fraction_value part)
    1000000000000)
    then Some (value_from 0 whole * 1000000 + fraction_value part)
    else None

-- the millionths of a rate: digits, or digits with a point and one to six digits
abbrev pub rate_of : List ℕ → Option ℕ
rate_of t = rate_parts (before 46 t) (after 46 t)

abbrev pub one_test : List ℕ → List ℕ → List ℕ → Bool
one_test a arrow c = bytes_eq arrow (codes "->") && (is_name a && is_name c)

abbrev pub two_test : List ℕ → List ℕ → List ℕ → List ℕ → List ℕ → List ℕ → List ℕ → Bool
two_test a plus b arrow c also d =
    (bytes_eq plus (codes "+") && (bytes_eq arrow (codes "->") && bytes_eq also (codes "+")))
    && (is_name a && (is_name b && (is_name c && is_name d)))

-- A -> C or A + B -> C + D
abbrev pub rule_of_tokens : ℕ → List (List ℕ) → Option (systems.Rule (List ℕ))
rule_of_tokens rate (a ∷ arrow ∷ c ∷ []) =
    if one_test a arrow c
    then Some (record { rate = rate; left = a; right = None; left_after = c; right_after = None })
    else None
rule_of_tokens rate (a ∷ plus ∷ b ∷ arrow ∷ c ∷ also ∷ d ∷ []) =
    if two_test a plus b arrow c also d
    then Some (record {
      rate = rate;
      left = a;
      right = Some b;
      left_after = c;
      right_after = Some d;
    })
    else None
rule_of_tokens rate ts = None

abbrev pub rule_found : ℕ → Option (systems.Rule (List ℕ)) → Result Item ManifestError
rule_found n None = Err (BadRule n)
rule_found n (Some r) = Ok (Rule r)

abbrev pub rule_from : ℕ → ℕ → List (List ℕ) → Result Item ManifestError
rule_from n rate ts = rule_found n (rule_of_tokens rate ts)

abbrev pub rated_rule : ℕ → Option ℕ → List (List ℕ) → Result Item ManifestError
rated_rule n None ts = Err (BadRate n)
rated_rule n (Some rate) ts = rule_from n rate ts

abbrev pub bracketed_rule : ℕ → List ℕ → Option (List ℕ) → Result Item ManifestError
bracketed_rule n inside None = Err (BadRate n)
bracketed_rule n inside (Some rest) = rated_rule n (rate_of (trimmed inside)) (tokens_of rest)

-- a rule line, with a rate in brackets or of rate 1
abbrev pub rule_line_of : ℕ → List ℕ → Result Item ManifestError
rule_line_of n [] = Err (BadRule n)
rule_line_of n (b ∷ bs) =
    if b == 40 then bracketed_rule n (before 41 bs) (after 41 bs)
    else rule_from n 1000000 (tokens_of (b ∷ bs))

abbrev pub row_of : ℕ → List (List ℕ) → Result Item ManifestError
row_of n ts = if list_all is_name ts then Ok (Row ts) else Err (BadLine n)

-- what line n says in its block, or outside of blocks
abbrev pub item_of : ℕ → Option BlockKind → List ℕ → Result Item ManifestError
item_of n None t = option_of n t
item_of n (Some Rules) t = rule_line_of n t
item_of n (Some State) t = row_of n (tokens_of t)
item_of n (Some Colormap) t = Ok (Colour t)
