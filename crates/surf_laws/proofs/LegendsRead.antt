-- A legend that was read is one that is printed and read back.
use Rattle.std.proofs.Common.{ℕ, ◌≡◌, ◌+◌, ◌^◌, ◌<◌, Bool, true, false, ◌&&◌, nat_lt, List, [], ◌∷◌, ◌++◌, Option, Some, None, Result, Ok, IfSome, if◌then◌else◌, refl, ◌∙◌, subst}
use Rattle.std.specs.List.{list_all}
use Rattle.std.specs.Prelude.{nat_le, length, codes, bytes_eq}
use Rattle.std.proofs.lemmas.Bool.{and_parts, ltb-true, lt-ltb}
use Rattle.std.proofs.lemmas.List.Folds.{list_all-append}
use Rattle.surf_base.specs.Decimal.{decimal_of, decimal_below, if_below, is_digit, value_from}
use Rattle.surf_lattice.specs.Grids.{site_from}
use Rattle.surf_text.specs.Bytes.{is_word, lines_of, tokens_of}
use Rattle.surf_manifest_lines.proofs.WellFormed.{both}
use Rattle.surf_manifest_print.specs.declared.legend.Place.{Place}
use Rattle.surf_manifest_print.specs.declared.legend_error.LegendError.{LegendError}
use Rattle.surf_manifest_print.specs.declared.legend_line.LegendLine.{LegendLine}
use Rattle.surf_manifest_print.specs.declared.legend_line.LegendLine.TheVariants.{Other, Input, Output, Events, Faulty}
use Rattle.surf_manifest_print.specs.Legends.{LegendText, is_place, IsLegend, has_site}
use Rattle.surf_manifest_print.specs.LegendTexts.{place_from, place_of, input_line, output_line, number_line, events_line, surf_line, tokens_line, legend_line, LegendParts, with_events, with_line, legend_from, unless_bad, legend_in, legend_of}

-- what a line says is in range
abbrev Fits : LegendLine → Type 0
Fits Other = Unit {0}
Fits (Input p) = is_place p ≡ true
Fits (Output p) = is_place p ≡ true
Fits (Events n) = n < 2 ^ 64
Fits Faulty = Unit {0}

record PartsFit (p : LegendParts) : Type 0 where
  pub inputs : list_all is_place p.inputs ≡ true
  pub outputs : list_all is_place p.outputs ≡ true
  pub events : IfSome p.events (λ n. n < 2 ^ 64)

either : (P : LegendLine → Type 0) (b : Bool) (x y : LegendLine) → P x → P y → P (if b then x else y)
either P true x y h k = h
either P false x y h k = k

short : (o : Option ℕ) → IfSome (if_below (2 ^ 32) o) (λ n. n < 2 ^ 32)
short None = tt
short (Some n) = when (nat_lt n (2 ^ 32)) refl
  where
    when : (b : Bool) → nat_lt n (2 ^ 32) ≡ b → IfSome (if b then Some n else None) (λ k. k < 2 ^ 32)
    when true is = ltb-true n (2 ^ 32) is
    when false is = tt

place_fits : (w : Bool) (p : Place) → (w ≡ true → is_place p ≡ true) → IfSome (if w then Some p else None) (λ q. is_place q ≡ true)
place_fits true p h = h refl
place_fits false p h = tt

from_fits : (name : List ℕ) (x y : Option ℕ) → IfSome x (λ n. n < 2 ^ 32) → IfSome y (λ n. n < 2 ^ 32) → IfSome (place_from name (site_from x y)) (λ q. is_place q ≡ true)
from_fits name None None h k = tt
from_fits name None (Some y) h k = tt
from_fits name (Some x) None h k = tt
from_fits name (Some x) (Some y) h k =
    place_fits (is_word name) (record { name = name; site = record { x = x; y = y } })
    (λ w. both (is_word name) (nat_lt x (2 ^ 32) && nat_lt y (2 ^ 32)) w (both (nat_lt x (2 ^ 32)) (nat_lt y (2 ^ 32)) (lt-ltb x (2 ^ 32) h) (lt-ltb y (2 ^ 32) k)))

named_fits : (ts : List (List ℕ)) → IfSome (place_of ts) (λ q. is_place q ≡ true)
named_fits [] = tt
named_fits (name ∷ []) = tt
named_fits (name ∷ x ∷ []) = tt
named_fits (name ∷ x ∷ y ∷ []) = from_fits name (decimal_below (2 ^ 32) x) (decimal_below (2 ^ 32) y) (short (decimal_of x)) (short (decimal_of y))
named_fits (name ∷ x ∷ y ∷ t ∷ ts) = tt

input_fits : (o : Option Place) → IfSome o (λ q. is_place q ≡ true) → Fits (input_line o)
input_fits None h = tt
input_fits (Some p) h = h

output_fits : (o : Option Place) → IfSome o (λ q. is_place q ≡ true) → Fits (output_line o)
output_fits None h = tt
output_fits (Some p) h = h

decimal_fits : (t : List ℕ) → IfSome (decimal_of t) (λ n. n < 2 ^ 64)
decimal_fits t = when (nat_le 1 (length t) && nat_le (length t) 20 && list_all is_digit t && nat_lt (value_from 0 t) (2 ^ 64)) refl
  where
    when : (b : Bool) → (nat_le 1 (length t) && nat_le (length t) 20 && list_all is_digit t && nat_lt (value_from 0 t) (2 ^ 64)) ≡ b → IfSome (if b then Some (value_from 0 t) else None) (λ k. k < 2 ^ 64)
    when true is = ltb-true (value_from 0 t) (2 ^ 64) (and_parts (nat_le 1 (length t) && nat_le (length t) 20 && list_all is_digit t) (nat_lt (value_from 0 t) (2 ^ 64)) is).1
    when false is = tt

number_fits : (o : Option ℕ) → IfSome o (λ n. n < 2 ^ 64) → Fits (number_line o)
number_fits None h = tt
number_fits (Some n) h = h

events_fit : (ts : List (List ℕ)) → Fits (events_line ts)
events_fit [] = tt
events_fit (n ∷ []) = number_fits (decimal_of n) (decimal_fits n)
events_fit (n ∷ t ∷ ts) = tt

surf_fits : (ts : List (List ℕ)) → Fits (surf_line ts)
surf_fits [] = tt
surf_fits (word ∷ ts) =
    either Fits (bytes_eq word (codes "input")) (input_line (place_of ts)) _ (input_fits (place_of ts) (named_fits ts))
    (either Fits (bytes_eq word (codes "output")) (output_line (place_of ts)) _ (output_fits (place_of ts) (named_fits ts))
    (either Fits (bytes_eq word (codes "events")) (events_line ts) Faulty (events_fit ts) tt))

tokens_fit : (ts : List (List ℕ)) → Fits (tokens_line ts)
tokens_fit [] = tt
tokens_fit (hash ∷ []) = tt
tokens_fit (hash ∷ surf ∷ ts) = either Fits (bytes_eq hash (codes "#") && bytes_eq surf (codes "surf")) (surf_line ts) Other (surf_fits ts) tt

more_places : (ps : List Place) (q : Place) → list_all is_place ps ≡ true → is_place q ≡ true → list_all is_place (ps ++ q ∷ []) ≡ true
more_places ps q h k = list_all-append is_place ps (q ∷ []) ∙ both (list_all is_place ps) (list_all is_place (q ∷ [])) h (both (is_place q) true k refl)

unless : (b : Bool) (q : LegendParts) → PartsFit q → IfSome (if b then None else Some q) PartsFit
unless true q h = tt
unless false q h = h

with_number : (p : LegendParts) (o : Option ℕ) (n : ℕ) → PartsFit p → n < 2 ^ 64 → IfSome (with_events p o n) PartsFit
with_number p None n h lt = record { inputs = h.inputs; outputs = h.outputs; events = lt }
with_number p (Some m) n h lt = tt

line_fits : (p : LegendParts) (l : LegendLine) → PartsFit p → Fits l → IfSome (with_line p l) PartsFit
line_fits p Other h k = h
line_fits p (Input q) h k =
    unless (has_site p.inputs q.site) (record { inputs = p.inputs ++ q ∷ []; outputs = p.outputs; events = p.events })
    (record { inputs = more_places p.inputs q h.inputs k; outputs = h.outputs; events = h.events })
line_fits p (Output q) h k = record { inputs = h.inputs; outputs = more_places p.outputs q h.outputs k; events = h.events }
line_fits p (Events n) h k = with_number p p.events n h k
line_fits p Faulty h k = tt

end_fits : (p : LegendParts) (o : Option ℕ) (l : LegendText) → PartsFit p → IfSome o (λ n. n < 2 ^ 64) → legend_from p.inputs p.outputs o ≡ Ok l → IsLegend (Some l)
end_fits p None l h k is = absurd cc
end_fits p (Some n) l h k is =
    let e : record { inputs = p.inputs; outputs = p.outputs; events = n } ≡ l = cc in
    subst (λ (t : LegendText). IsLegend (Some t)) e (h.inputs, h.outputs, k)

next_fits : (line : ℕ) (o : Option LegendParts) (more : LegendParts → Result LegendText LegendError) (l : LegendText) → IfSome o PartsFit → ((q : LegendParts) → PartsFit q → more q ≡ Ok l → IsLegend (Some l)) → unless_bad o line more ≡ Ok l → IsLegend (Some l)
next_fits line None more l h goes is = absurd cc
next_fits line (Some q) more l h goes is = goes q h is

lines_fit : (line : ℕ) (p : LegendParts) (ls : List (List ℕ)) (l : LegendText) → PartsFit p → legend_in line p ls ≡ Ok l → IsLegend (Some l)
lines_fit line p [] l h is = end_fits p p.events l h h.events is
lines_fit line p (t ∷ ls) l h is =
    next_fits (line + 1) (with_line p (legend_line t)) (λ q. legend_in (line + 1) q ls) l (line_fits p (legend_line t) h (tokens_fit (tokens_of t)))
    (λ q k. lines_fit (line + 1) q ls l k) is

pub legend_fits : (bytes : List ℕ) (l : LegendText) → legend_of bytes ≡ Ok l → IsLegend (Some l)
legend_fits bytes l is =
    lines_fit 0 (record { inputs = []; outputs = []; events = None }) (lines_of bytes) l (record { inputs = refl; outputs = refl; events = tt }) is
