-- The header of a pattern: `x = WIDTH, y = HEIGHT`, and after a further comma `rule = RULE`.
use Rattle.std.specs.Prelude.{ℕ, ◌^◌, bytes_eq, codes, List, Option, Some, None, if◌then◌else◌}
use Rattle.std.specs.Option.{option_map}
use Rattle.surf_base.specs.Decimal.{decimal_below}
use Rattle.surf_text.specs.Bytes.{trimmed, before, after}

-- what a field `key = value` gives to this key; blanks around both are free
abbrev pub value_in : List ℕ → List ℕ → Option (List ℕ)
value_in key field =
    if bytes_eq (trimmed (before 61 field)) key then option_map trimmed (after 61 field) else None

-- the number at most 4,294,967,295 that a text spells
abbrev pub number_from : Option (List ℕ) → Option ℕ
number_from None = None
number_from (Some t) = decimal_below (2 ^ 32) t

abbrev pub number_in : List ℕ → List ℕ → Option ℕ
number_in key field = number_from (value_in key field)

-- the rule by the third field, and the rule of a header with no such field
abbrev pub rule_in : Option (List ℕ) → Option (List ℕ)
rule_in None = Some (codes "B3/S23")
rule_in (Some field) = value_in (codes "rule") field

-- the sides of the box, and the text of the rule
pub record Header : Type 0 where
  pub width : ℕ
  pub height : ℕ
  pub rule : List ℕ

abbrev pub header_from : Option ℕ → Option ℕ → Option (List ℕ) → Option Header
header_from None height rule = None
header_from (Some w) None rule = None
header_from (Some w) (Some h) None = None
header_from (Some w) (Some h) (Some r) = Some (record { width = w; height = h; rule = r })

-- the second and third field behind the first comma
abbrev pub header_behind : Option ℕ → Option (List ℕ) → Option Header
header_behind width None = None
header_behind width (Some t) =
    header_from width (number_in (codes "y") (before 44 t)) (rule_in (after 44 t))

abbrev pub header_of : List ℕ → Option Header
header_of line = header_behind (number_in (codes "x") (before 44 line)) (after 44 line)
