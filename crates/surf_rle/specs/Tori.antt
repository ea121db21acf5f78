-- The rule of a header: a rule, and where its sides are joined, a colon, T, a width, a comma and a
-- height.
use Rattle.std.specs.Prelude.{ℕ, suc, ◌%◌, ◌^◌, Bool, ◌&&◌, ◌==◌, nat_lt, nat_le, List, Option, Some, None, if◌then◌else◌}
use Rattle.surf_base.specs.Decimal.{decimal_below}
use Rattle.surf_text.specs.Bytes.{before, after}
use Rattle.surf_lattice.specs.declared.site.GridKind.{GridKind}
use Rattle.surf_lattice.specs.Grids.{degree}
use Rattle.surf_auto.specs.declared.error.SourceError.{SourceError}
use Rattle.surf_auto.specs.declared.error.SourceError.TheVariants.{TorusSize}
use Rattle.surf_rle.specs.Headers.{Header, number_from}
use Rattle.surf_rle.specs.RuleTexts.{RuleText, behind, rule_of}
use Rattle.surf_rle.specs.declared.torus.Sides.{Sides}

abbrev pub sides_from : Option ℕ → Option ℕ → Option Sides
sides_from None height = None
sides_from (Some w) None = None
sides_from (Some w) (Some h) = Some (record { width = w; height = h })

-- a number, a comma and a number
abbrev pub sides_behind : Option (List ℕ) → Option Sides
sides_behind None = None
sides_behind (Some t) = sides_from (decimal_below (2 ^ 32) (before 44 t)) (number_from (after 44 t))

-- T or t, and the sides of a torus
abbrev pub sides_of : List ℕ → Option Sides
sides_of t = sides_behind (behind 84 116 t)

-- a rule, and the sides of its torus if it has one
pub record HeaderRule : Type 0 where
  pub rule : RuleText
  pub torus : Option Sides

abbrev pub on_torus : RuleText → Option Sides → Option HeaderRule
on_torus r None = None
on_torus r (Some t) = Some (record { rule = r; torus = Some t })

abbrev pub header_rule_from : Option RuleText → Option (List ℕ) → Option HeaderRule
header_rule_from None rest = None
header_rule_from (Some r) None = Some (record { rule = r; torus = None })
header_rule_from (Some r) (Some t) = on_torus r (sides_of t)

abbrev pub header_rule_of : List ℕ → Option HeaderRule
header_rule_of t = header_rule_from (rule_of (before 58 t)) (after 58 t)

-- not 0, a multiple of the number of colours, and not below a side of the box
abbrev pub is_side : ℕ → ℕ → ℕ → Bool
is_side colours box side = nat_lt 0 side && ((side % colours == 0) && nat_le box side)

-- a grid of this kind has one colour more than directions
abbrev pub holds_box : GridKind → Header → Sides → Bool
holds_box kind h t =
    is_side (suc (degree kind)) h.width t.width && is_side (suc (degree kind)) h.height t.height

-- the sides of a torus by the header of line n
abbrev pub torus_fault : ℕ → GridKind → Header → Option Sides → Option SourceError
torus_fault n kind h None = None
torus_fault n kind h (Some t) = if holds_box kind h t then None else Some (TorusSize n)
