-- Where the items of a pattern stand, the first of them that is a fault, and the cells that they
-- make live.
use Rattle.std.specs.Prelude.{ℕ, ◌+◌, Bool, true, false, ◌&&◌, ◌==◌, nat_lt, nat_le, List, [], ◌∷◌, ◌++◌, map, Option, Some, None, Result, Ok, Err, if◌then◌else◌}
use Rattle.std.specs.List.{list_any}
use Rattle.surf_lattice.specs.declared.site.Site.{Site}
use Rattle.surf_lattice.specs.Grids.{sites}
use Rattle.surf_text.specs.Bytes.{trimmed}
use Rattle.surf_auto.specs.Lines.{is_comment}
use Rattle.surf_auto.specs.declared.error.SourceError.{SourceError}
use Rattle.surf_auto.specs.declared.error.SourceError.TheVariants.{BadItem, OutOfBox, Unclosed}
use Rattle.surf_rle.specs.Items.{signs_of}
use Rattle.surf_rle.specs.Sheets.{sheet_grid}
use Rattle.surf_rle.specs.declared.item.Sign.{Sign}
use Rattle.surf_rle.specs.declared.item.Sign.TheVariants.{Free, Dead, Live, Down, End, Bad}
use Rattle.surf_rle.specs.declared.sheet.Sheet.{Sheet}

-- a sign and the number of its line
pub record Mark : Type 0 where
  pub line : ℕ
  pub sign : Sign

abbrev pub mark : ℕ → Sign → Mark
mark n s = record { line = n; sign = s }

-- a line that begins with # has no signs
abbrev pub line_marks : ℕ → List ℕ → List Mark
line_marks n line = if is_comment (trimmed line) then [] else map (mark n) (signs_of line)

-- the signs of lines, of which the first is line n
abbrev pub marks_from : ℕ → List (List ℕ) → List Mark
marks_from n [] = []
marks_from n (line ∷ lines) = line_marks n line ++ marks_from (n + 1) lines

abbrev pub is_end : Sign → Bool
is_end End = true
is_end Free = false
is_end (Dead n) = false
is_end (Live n) = false
is_end (Down n) = false
is_end Bad = false

abbrev pub has_end : List Mark → Bool
has_end ms = list_any (λ m. is_end m.sign) ms

abbrev pub before_end : List Mark → List Mark
before_end [] = []
before_end (m ∷ ms) = if is_end m.sign then [] else m ∷ before_end ms

-- where the next sign stands
abbrev pub row_after : ℕ → Sign → ℕ
row_after row (Down n) = row + n
row_after row Free = row
row_after row (Dead n) = row
row_after row (Live n) = row
row_after row End = row
row_after row Bad = row

abbrev pub column_after : ℕ → Sign → ℕ
column_after column (Dead n) = column + n
column_after column (Live n) = column + n
column_after column (Down n) = 0
column_after column Free = column
column_after column End = column
column_after column Bad = column

-- a sign at a place of the box, counted from 0, which may be outside
pub record Placed : Type 0 where
  pub row : ℕ
  pub column : ℕ
  pub mark : Mark

abbrev pub placed : ℕ → ℕ → List Mark → List Placed
placed row column [] = []
placed row column (m ∷ ms) =
    record { row = row; column = column; mark = m }
    ∷ placed (row_after row m.sign) (column_after column m.sign) ms

-- live cells stand inside the box of these sides
abbrev pub sign_fault : ℕ → ℕ → Placed → Sign → Option SourceError
sign_fault width height p (Live n) =
    if nat_lt p.row height && nat_le (p.column + n) width then None else Some (OutOfBox p.mark.line)
sign_fault width height p Bad = Some (BadItem p.mark.line)
sign_fault width height p Free = None
sign_fault width height p (Dead n) = None
sign_fault width height p (Down n) = None
sign_fault width height p End = None

abbrev pub fault_or : Option SourceError → Option SourceError → Option SourceError
fault_or None rest = rest
fault_or (Some f) rest = Some f

abbrev pub first_fault : ℕ → ℕ → List Placed → Option SourceError
first_fault width height [] = None
first_fault width height (p ∷ ps) =
    fault_or (sign_fault width height p p.mark.sign) (first_fault width height ps)

-- live cells at a place of the box cover this site of the grid
abbrev pub covered_by : ℕ → Site → Placed → Sign → Bool
covered_by corner s p (Live n) =
    (s.y == p.row + corner)
    && (nat_le (p.column + corner) s.x && nat_lt s.x (p.column + corner + n))
covered_by corner s p Free = false
covered_by corner s p (Dead n) = false
covered_by corner s p (Down n) = false
covered_by corner s p End = false
covered_by corner s p Bad = false

abbrev pub covers : ℕ → Site → Placed → Bool
covers corner s p = covered_by corner s p p.mark.sign

-- a site is live exactly where some live cells cover it
abbrev pub cell_at : ℕ → List Placed → Site → ℕ
cell_at corner ps s = if list_any (covers corner s) ps then 1 else 0

abbrev pub unless : {X : Type 0} → Option SourceError → Result X SourceError → Result X SourceError
unless None r = r
unless (Some f) r = Err f

-- the cells of the grid by the signs before the end, or the first fault
abbrev pub cells_read : Sheet → List Mark → Result (List ℕ) SourceError
cells_read s ms =
    unless (first_fault s.width s.height (placed 0 0 (before_end ms)))
    (if has_end ms
    then Ok (map (cell_at s.corner (placed 0 0 (before_end ms))) (sites (sheet_grid s)))
    else Err Unclosed)
