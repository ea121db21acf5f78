-- The legend that the lines `# surf` of a text spell, or the text's first fault.
use Rattle.std.specs.Prelude.{◌≡◌, ℕ, ◌+◌, ◌^◌, ◌&&◌, bytes_eq, codes, List, [], ◌∷◌, ◌++◌, Option, Some, None, Result, Ok, Err, if◌then◌else◌}
use Rattle.surf_base.specs.Decimal.{decimal_of, decimal_below}
use Rattle.surf_lattice.specs.declared.site.Site.{Site}
use Rattle.surf_lattice.specs.Grids.{site_from}
use Rattle.surf_text.specs.Bytes.{lines_of, tokens_of, is_word}
use Rattle.surf_manifest.specs.Grammar.{ManifestText}
use Rattle.surf_manifest.specs.WellFormed.{IsWellFormed}
use Rattle.surf_manifest_print.specs.declared.legend.Place.{Place}
use Rattle.surf_manifest_print.specs.declared.legend_error.LegendError.{LegendError}
use Rattle.surf_manifest_print.specs.declared.legend_error.LegendError.TheVariants.{BadLegend, NoLegend, NoMemory}
use Rattle.surf_manifest_print.specs.declared.legend_line.LegendLine.{LegendLine}
use Rattle.surf_manifest_print.specs.declared.legend_line.LegendLine.TheVariants.{Other, Input, Output, Events, Faulty}
use Rattle.surf_manifest_print.specs.Legends.{LegendText, IsLegend, has_site, AreApart}
use Rattle.surf_manifest_print.specs.Prints.{print_of}

-- the site of two tokens that spell numbers of at most 4,294,967,295
abbrev pub site_of : List ℕ → List ℕ → Option Site
site_of x y = site_from (decimal_below (2 ^ 32) x) (decimal_below (2 ^ 32) y)

abbrev pub place_from : List ℕ → Option Site → Option Place
place_from name None = None
place_from name (Some s) = if is_word name then Some (record { name = name; site = s }) else None

-- the place that the tokens NAME X Y spell
abbrev pub place_of : List (List ℕ) → Option Place
place_of [] = None
place_of (name ∷ []) = None
place_of (name ∷ x ∷ []) = None
place_of (name ∷ x ∷ y ∷ []) = place_from name (site_of x y)
place_of (name ∷ x ∷ y ∷ t ∷ ts) = None

abbrev pub input_line : Option Place → LegendLine
input_line None = Faulty
input_line (Some p) = Input p

abbrev pub output_line : Option Place → LegendLine
output_line None = Faulty
output_line (Some p) = Output p

abbrev pub number_line : Option ℕ → LegendLine
number_line None = Faulty
number_line (Some n) = Events n

abbrev pub events_line : List (List ℕ) → LegendLine
events_line [] = Faulty
events_line (n ∷ []) = number_line (decimal_of n)
events_line (n ∷ t ∷ ts) = Faulty

-- what a line says by its tokens behind `# surf`: input NAME X Y, output NAME X Y or events N
abbrev pub surf_line : List (List ℕ) → LegendLine
surf_line [] = Faulty
surf_line (word ∷ ts) =
    if bytes_eq word (codes "input") then input_line (place_of ts)
    else (if bytes_eq word (codes "output") then output_line (place_of ts)
    else (if bytes_eq word (codes "events") then events_line ts
    else Faulty))

-- a line of a legend is one whose first two tokens are # and surf
abbrev pub tokens_line : List (List ℕ) → LegendLine
tokens_line [] = Other
tokens_line (hash ∷ []) = Other
tokens_line (hash ∷ surf ∷ ts) =
    if bytes_eq hash (codes "#") && bytes_eq surf (codes "surf") then surf_line ts else Other

abbrev pub legend_line : List ℕ → LegendLine
legend_line l = tokens_line (tokens_of l)

-- what some lines say together
pub record LegendParts : Type 0 where
  pub inputs : List Place
  pub outputs : List Place
  pub events : Option ℕ

abbrev pub with_events : LegendParts → Option ℕ → ℕ → Option LegendParts
with_events p None n = Some (record { inputs = p.inputs; outputs = p.outputs; events = Some n })
with_events p (Some m) n = None

-- with one more line, unless it is faulty, a second line of events, or an input at the site of an
-- input above it
abbrev pub with_line : LegendParts → LegendLine → Option LegendParts
with_line p Other = Some p
with_line p (Input q) =
    if has_site p.inputs q.site then None
    else Some (record { inputs = p.inputs ++ q ∷ []; outputs = p.outputs; events = p.events })
with_line p (Output q) =
    Some (record { inputs = p.inputs; outputs = p.outputs ++ q ∷ []; events = p.events })
with_line p (Events n) = with_events p p.events n
with_line p Faulty = None

abbrev pub legend_from : List Place → List Place → Option ℕ → Result LegendText LegendError
legend_from inputs outputs None = Err NoLegend
legend_from inputs outputs (Some n) = Ok (record { inputs = inputs; outputs = outputs; events = n })

abbrev pub unless_bad : {A : Type 0} → Option A → ℕ → (A → Result LegendText LegendError) →
    Result LegendText LegendError
unless_bad None line more = Err (BadLegend line)
unless_bad (Some p) line more = more p

-- the legend of these lines, where so many lines stand above them and say this
abbrev pub legend_in : ℕ → LegendParts → List (List ℕ) → Result LegendText LegendError
legend_in line p [] = legend_from p.inputs p.outputs p.events
legend_in line p (l ∷ ls) =
    unless_bad (with_line p (legend_line l)) (line + 1) (λ q. legend_in (line + 1) q ls)

-- the legend of a text, or its first fault; lines are counted from 1
abbrev pub legend_of : List ℕ → Result LegendText LegendError
legend_of bytes = legend_in 0 (record { inputs = []; outputs = []; events = None }) (lines_of bytes)

-- the refusal is this fault, or memory fails
abbrev pub LegendRefuses : Result LegendText LegendError → LegendError → Type 0
LegendRefuses r (BadLegend n) = r ≡ Err (BadLegend n)
LegendRefuses r NoLegend = r ≡ Err NoLegend
LegendRefuses r NoMemory = Unit {0}

-- what is printed with a legend has that legend
abbrev pub ReadsLegend : Type 0
ReadsLegend =
    (m : ManifestText) (l : LegendText) → IsWellFormed m → IsLegend (Some l) → AreApart l.inputs →
    legend_of (print_of m (Some l)) ≡ Ok l
