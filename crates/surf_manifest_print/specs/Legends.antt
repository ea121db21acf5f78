-- Legends: the places of inputs and outputs, and a number of events.
use Rattle.std.specs.Prelude.{ℕ, ◌<◌, ◌≡◌, ◌^◌, Bool, true, ◌&&◌, ◌==◌, nat_lt, List, Option, Some, None, slice_get}
use Rattle.std.specs.List.{list_all, list_any}
use Rattle.surf_lattice.specs.declared.site.Site.{Site}
use Rattle.surf_text.specs.Bytes.{is_word}
use Rattle.surf_manifest_print.specs.declared.legend.Place.{Place}

pub record LegendText : Type 0 where
  pub inputs : List Place
  pub outputs : List Place
  pub events : ℕ

abbrev pub has_word : Place → Bool
has_word p = is_word p.name

-- every name is a token of bytes 33 to 126
pub record HasWords (l : LegendText) : Type 0 where
  pub inputs : list_all has_word l.inputs ≡ true
  pub outputs : list_all has_word l.outputs ≡ true

-- a name that is a word, with coordinates that fit
abbrev pub is_place : Place → Bool
is_place p = is_word p.name && (nat_lt p.site.x (2 ^ 32) && nat_lt p.site.y (2 ^ 32))

abbrev pub IsLegend : Option LegendText → Type 0
IsLegend None = Unit {0}
IsLegend (Some l) =
    (list_all is_place l.inputs ≡ true) × (list_all is_place l.outputs ≡ true) × (l.events < 2 ^ 64)

-- some place has this site
abbrev pub has_site : List Place → Site → Bool
has_site ps s = list_any (λ p. (p.site.x == s.x) && (p.site.y == s.y)) ps

-- no two places have one site
abbrev pub AreApart : List Place → Type 0
AreApart ps = (i j : ℕ) (p q : Place) → slice_get ps i ≡ Some p → slice_get ps j ≡ Some q →
    p.site ≡ q.site → i ≡ j
