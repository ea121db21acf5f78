-- The text of a rule: B, digits, /, S, digits, and a suffix that says which neighbours are counted.
use Rattle.std.specs.Prelude.{ℕ, ◌+◌, Bool, ◌&&◌, ◌||◌, ◌==◌, nat_le, List, [], ◌∷◌, map, Option, Some, None, if◌then◌else◌}
use Rattle.std.specs.List.{list_all, list_any, range_with_len}
use Rattle.surf_base.specs.Decimal.{is_digit}
use Rattle.surf_text.specs.Bytes.{before, after, without_front}
use Rattle.surf_lattice.specs.declared.site.GridKind.{GridKind}
use Rattle.surf_lattice.specs.declared.site.GridKind.TheVariants.{Square, Hex}
use Rattle.surf_lattice.specs.Grids.{degree}
use Rattle.surf_auto.specs.Counts.{Counts}
use Rattle.surf_rle.specs.declared.rule.Neighbours.{Neighbours}
use Rattle.surf_rle.specs.declared.rule.Neighbours.TheVariants.{Four, Six, Eight}

-- the most live neighbours that a cell has
abbrev pub most : Neighbours → ℕ
most Four = 4
most Six = 6
most Eight = 8

-- V or v, H or h, or nothing
abbrev pub neighbours_of : List ℕ → Option Neighbours
neighbours_of [] = Some Eight
neighbours_of (b ∷ []) =
    if (b == 86) || (b == 118) then Some Four
    else (if (b == 72) || (b == 104) then Some Six
    else None)
neighbours_of (b ∷ c ∷ cs) = None

-- the digits at the front
abbrev pub digits_of : List ℕ → List ℕ
digits_of [] = []
digits_of (b ∷ bs) = if is_digit b then b ∷ digits_of bs else []

-- what follows a first letter, which is a capital or small
abbrev pub behind : ℕ → ℕ → List ℕ → Option (List ℕ)
behind capital small [] = None
behind capital small (b ∷ bs) = if (b == capital) || (b == small) then Some bs else None

-- the digits of a rule, in their order
pub record RuleText : Type 0 where
  pub neighbours : Neighbours
  pub birth : List ℕ
  pub survival : List ℕ

-- a digit that counts so many neighbours
abbrev pub is_count : Neighbours → ℕ → Bool
is_count n b = nat_le 48 b && nat_le b (48 + most n)

abbrev pub rule_parts : List ℕ → List ℕ → Option Neighbours → Option RuleText
rule_parts birth survival None = None
rule_parts birth survival (Some n) =
    if list_all (is_count n) birth && list_all (is_count n) survival
    then Some (record { neighbours = n; birth = birth; survival = survival })
    else None

abbrev pub rule_behind : List ℕ → Option (List ℕ) → Option RuleText
rule_behind birth None = None
rule_behind birth (Some t) =
    rule_parts birth (digits_of t) (neighbours_of (without_front is_digit t))

abbrev pub rule_from : Option (List ℕ) → Option (List ℕ) → Option RuleText
rule_from None rest = None
rule_from (Some birth) None = None
rule_from (Some birth) (Some rest) = rule_behind birth (behind 83 115 rest)

abbrev pub rule_of : List ℕ → Option RuleText
rule_of t = rule_from (behind 66 98 (before 47 t)) (after 47 t)

-- the grid on which so many neighbours are counted
abbrev pub kind_of : Neighbours → GridKind
kind_of Four = Square
kind_of Six = Hex
kind_of Eight = Square

-- for each count below n, whether its digit stands among these
abbrev pub counts_of : ℕ → List ℕ → List Bool
counts_of n digits = map (λ k. list_any (λ d. d == 48 + k) digits) (range_with_len 0 n)

abbrev pub counts_on : GridKind → RuleText → Counts
counts_on kind r =
    record { degree = degree kind; birth = counts_of 7 r.birth; survival = counts_of 7 r.survival }

abbrev pub counts_of_eight : RuleText → Counts
counts_of_eight r =
    record { degree = 8; birth = counts_of 9 r.birth; survival = counts_of 9 r.survival }
