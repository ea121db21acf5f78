-- The source that a pattern in RLE spells, or its first fault.
use Rattle.std.specs.Prelude.{◌≡◌, ℕ, ◌+◌, Bool, true, ◌||◌, ◌==◌, nat_lt, List, [], ◌∷◌, Option, Some, None, Result, Ok, Err, if◌then◌else◌}
use Rattle.surf_lattice.specs.declared.site.GridKind.{GridKind}
use Rattle.surf_text.specs.Bytes.{lines_of, trimmed}
use Rattle.surf_auto.specs.Counts.{count_rule}
use Rattle.surf_auto.specs.Lines.{is_comment}
use Rattle.surf_auto.specs.Sync.{universe}
use Rattle.surf_auto.specs.declared.error.SourceError.{SourceError}
use Rattle.surf_auto.specs.declared.error.SourceError.TheVariants.{BadHeader, RuleForm, TorusSize, EmptyGrid, GridTooLarge, BadItem, OutOfBox, BadTable, Unclosed, TooManyRules, NoMemory}
use Rattle.surf_rle.specs.Headers.{Header, header_of}
use Rattle.surf_rle.specs.RuleTexts.{RuleText, counts_of_eight, counts_on, kind_of}
use Rattle.surf_rle.specs.Sources.{Source, Plain}
use Rattle.surf_rle.specs.Sources as sources
use Rattle.surf_rle.specs.Sheets.{area, sheet_grid, sheet_of}
use Rattle.surf_rle.specs.Tori.{HeaderRule, header_rule_of, torus_fault}
use Rattle.surf_rle.specs.Patterns.{unless, marks_from, cells_read}
use Rattle.surf_rle.specs.declared.rule.Neighbours.{Neighbours}
use Rattle.surf_rle.specs.declared.rule.Neighbours.TheVariants.{Four, Six, Eight}
use Rattle.surf_rle.specs.declared.sheet.Sheet.{Sheet}
use Rattle.surf_rle.specs.declared.torus.Sides.{Sides}

-- a box that is empty, or a grid of more than 1,000,000 sites
abbrev pub box_fault : Sheet → Option SourceError
box_fault s =
    if (s.width == 0) || (s.height == 0) then Some EmptyGrid
    else (if nat_lt 1000000 (area s) then Some (GridTooLarge (area s))
    else None)

-- cells by the neighbours that a rule counts; the edge state is dead
abbrev pub cells_of : Sheet → RuleText → Neighbours → List ℕ → Source
cells_of s r Four cells = Plain (universe (sheet_grid s) (count_rule (counts_on s.kind r)) 0 cells)
cells_of s r Six cells = Plain (universe (sheet_grid s) (count_rule (counts_on s.kind r)) 0 cells)
cells_of s r Eight cells = sources.Eight (counts_of_eight r) (sheet_grid s) cells

abbrev pub source_on : Sheet → RuleText → List ℕ → Source
source_on s r cells = cells_of s r r.neighbours cells

abbrev pub with_rule : Sheet → RuleText → Result (List ℕ) SourceError → Result Source SourceError
with_rule s r (Ok cells) = Ok (source_on s r cells)
with_rule s r (Err f) = Err f

-- the cells that the lines behind line n draw in a box
abbrev pub box_read : ℕ → Sheet → List (List ℕ) → Result (List ℕ) SourceError
box_read n s lines = unless (box_fault s) (cells_read s (marks_from (n + 1) lines))

-- the same where the sides of a torus are looked at first
abbrev pub grid_read : ℕ → ℕ → Header → HeaderRule → GridKind → List (List ℕ) →
    Result Source SourceError
grid_read margin n h r kind lines =
    unless (torus_fault n kind h r.torus)
    (with_rule (sheet_of margin kind h r.torus) r.rule
    (box_read n (sheet_of margin kind h r.torus) lines))

abbrev pub if_rule : ℕ → ℕ → Header → Option HeaderRule → List (List ℕ) →
    Result Source SourceError
if_rule margin n h None lines = Err (RuleForm n)
if_rule margin n h (Some r) lines = grid_read margin n h r (kind_of r.rule.neighbours) lines

abbrev pub if_header : ℕ → ℕ → Option Header → List (List ℕ) → Result Source SourceError
if_header margin n None lines = Err (BadHeader n)
if_header margin n (Some h) lines = if_rule margin n h (header_rule_of h.rule) lines

-- an empty line or a comment
abbrev pub is_skipped : List ℕ → Bool
is_skipped [] = true
is_skipped (b ∷ bs) = is_comment (b ∷ bs)

-- the first line that isn't skipped is the header, where the first line is line n
abbrev pub rle_from : ℕ → ℕ → List (List ℕ) → Result Source SourceError
rle_from margin n [] = Err (BadHeader n)
rle_from margin n (line ∷ lines) =
    if is_skipped (trimmed line) then rle_from margin (n + 1) lines
    else if_header margin n (header_of (trimmed line)) lines

abbrev pub rle_of : ℕ → List ℕ → Result Source SourceError
rle_of margin bytes = rle_from margin 1 (lines_of bytes)

-- the refusal is this fault, or memory fails; no other fault is answered
abbrev pub Refuses : {X : Type 0} → Result X SourceError → SourceError → Type 0
Refuses r (BadHeader n) = r ≡ Err (BadHeader n)
Refuses r (RuleForm n) = r ≡ Err (RuleForm n)
Refuses r (TorusSize n) = r ≡ Err (TorusSize n)
Refuses r EmptyGrid = r ≡ Err EmptyGrid
Refuses r (GridTooLarge n) = r ≡ Err (GridTooLarge n)
Refuses r (BadItem n) = r ≡ Err (BadItem n)
Refuses r (OutOfBox n) = r ≡ Err (OutOfBox n)
Refuses r Unclosed = r ≡ Err Unclosed
Refuses r (BadTable n) = ⊥
Refuses r (TooManyRules n) = ⊥
Refuses r NoMemory = Unit {0}
