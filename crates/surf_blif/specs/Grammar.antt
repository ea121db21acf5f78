-- The lines of a text's first model: what they declare, and the first fault among them.
use Rattle.std.specs.Prelude.{ℕ, Bool, true, false, not, List, [], ◌∷◌, ◌++◌, length, map, Option, Some, None, if◌then◌else◌}
use Rattle.std.specs.List.{flat_map}
use Rattle.surf_logic.specs.Equations.{EquationOf, PartsOf}
use Rattle.surf_blif.specs.Logical.{Logical, front_of, logical_lines}
use Rattle.surf_blif.specs.Lines.{Line, Skipped, Model, End, Bad, Inputs, Outputs, Names, Other, Row, line_of}
use Rattle.surf_blif.specs.declared.reading.Extent.{Extent}
use Rattle.surf_blif.specs.declared.reading.Extent.TheVariants.{GoesOn, Stops, Ends}
use Rattle.surf_blif.specs.declared.reading.Cover.{Cover}
use Rattle.surf_blif.specs.Covers.{RowOf, row_of, equation_of}

-- a logical line by the number of its first line
pub record Placed : Type 0 where
  pub number : ℕ
  pub line : Line

abbrev pub placed : Logical → Placed
placed l = record { number = l.number; line = line_of l.text }

-- the model goes on behind a line, stops before it, or ends with it: .end ends the model, and a
-- .model stops it that comes after other lines with tokens
abbrev pub extent : Bool → Line → Extent
extent begun (Model stand) = if begun then Stops else GoesOn
extent begun (End stand) = Ends
extent begun Skipped = GoesOn
extent begun Bad = GoesOn
extent begun (Inputs ts) = GoesOn
extent begun (Outputs ts) = GoesOn
extent begun (Names ts) = GoesOn
extent begun (Other t) = GoesOn
extent begun (Row ts) = GoesOn

abbrev pub begins : Bool → Line → Bool
begins begun Skipped = begun
begins begun (Model stand) = true
begins begun (End stand) = true
begins begun Bad = true
begins begun (Inputs ts) = true
begins begun (Outputs ts) = true
begins begun (Names ts) = true
begins begun (Other t) = true
begins begun (Row ts) = true

abbrev pub within : Extent → Placed → List Placed → List Placed
within GoesOn l more = l ∷ more
within Stops l more = []
within Ends l more = l ∷ []

-- the lines of a model, where it has begun or its first line with tokens is still to come
abbrev pub model_from : Bool → List Placed → List Placed
model_from begun [] = []
model_from begun (l ∷ ls) = within (extent begun l.line) l (model_from (begins begun l.line) ls)

-- the lines of the first model
abbrev pub model_lines : List ℕ → List Placed
model_lines bytes = model_from false (map placed (logical_lines bytes))

abbrev pub or_first : {X : Type 0} → Option X → X → X
or_first None x = x
or_first (Some y) x = y

abbrev pub with_output : Cover → Option RowOf → Cover
with_output c None = c
with_output c (Some r) = record { inputs = c.inputs; output = Some (or_first c.output r.output) }

abbrev pub after_row : Option Cover → List (List ℕ) → Option Cover
after_row None ts = None
after_row (Some c) ts = Some (with_output c (row_of c.inputs ts))

-- the cover that rows may follow behind a line, where this is the one before it
abbrev pub cover_after : Option Cover → Line → Option Cover
cover_after c Skipped = c
cover_after c (Names ts) = Some (record { inputs = length (front_of ts); output = None })
cover_after c (Row ts) = after_row c ts
cover_after c (Model stand) = None
cover_after c (End stand) = None
cover_after c Bad = None
cover_after c (Inputs ts) = None
cover_after c (Outputs ts) = None
cover_after c (Other t) = None

-- the cover that rows may follow: that of the last .names, with nothing but rows and skipped lines
-- behind it. The lines are from the nearest to the first
abbrev pub cover_above : List Placed → Option Cover
cover_above [] = None
cover_above (l ∷ above) = cover_after (cover_above above) l.line

-- a fault with the number of its line
pub data TextFault : Type 0 where
  Unsupported : ℕ → List ℕ → TextFault
  BadLine : ℕ → TextFault
  BadCover : ℕ → TextFault
  MixedCover : ℕ → TextFault

-- the first row's output, if any, is this one
abbrev pub fits_output : Option Bool → Bool → Bool
fits_output None output = true
fits_output (Some true) output = output
fits_output (Some false) output = not output

abbrev pub row_fault : ℕ → Cover → Option RowOf → Option TextFault
row_fault n c None = Some (BadCover n)
row_fault n c (Some r) = if fits_output c.output r.output then None else Some (MixedCover n)

abbrev pub cover_fault : ℕ → Option Cover → List (List ℕ) → Option TextFault
cover_fault n None ts = Some (BadLine n)
cover_fault n (Some c) ts = row_fault n c (row_of c.inputs ts)

-- a .names has at least one signal
abbrev pub names_fault : ℕ → List (List ℕ) → Option TextFault
names_fault n [] = Some (BadLine n)
names_fault n (t ∷ ts) = None

-- the fault of line n, where rows may follow this cover
abbrev pub line_fault : Option Cover → ℕ → Line → Option TextFault
line_fault c n Skipped = None
line_fault c n (Model stand) = if stand then None else Some (BadLine n)
line_fault c n (End stand) = if stand then None else Some (BadLine n)
line_fault c n Bad = Some (BadLine n)
line_fault c n (Inputs ts) = None
line_fault c n (Outputs ts) = None
line_fault c n (Names ts) = names_fault n ts
line_fault c n (Other t) = Some (Unsupported n t)
line_fault c n (Row ts) = cover_fault n c ts

abbrev pub or_fault : Option TextFault → Option TextFault → Option TextFault
or_fault None next = next
or_fault (Some f) next = Some f

-- the first fault of lines, below those above them
abbrev pub fault_below : List Placed → List Placed → Option TextFault
fault_below above [] = None
fault_below above (l ∷ ls) =
    or_fault (line_fault (cover_above above) l.number l.line) (fault_below (l ∷ above) ls)

abbrev pub inputs_in : Placed → List (List ℕ)
inputs_in l = declared l.line
  where
    declared : Line → List (List ℕ)
    declared (Inputs ts) = ts
    declared Skipped = []
    declared (Model stand) = []
    declared (End stand) = []
    declared Bad = []
    declared (Outputs ts) = []
    declared (Names ts) = []
    declared (Other t) = []
    declared (Row ts) = []

abbrev pub outputs_in : Placed → List (List ℕ)
outputs_in l = declared l.line
  where
    declared : Line → List (List ℕ)
    declared (Outputs ts) = ts
    declared Skipped = []
    declared (Model stand) = []
    declared (End stand) = []
    declared Bad = []
    declared (Inputs ts) = []
    declared (Names ts) = []
    declared (Other t) = []
    declared (Row ts) = []

abbrev pub onto_rows : Option RowOf → List RowOf → List RowOf
onto_rows None rows = rows
onto_rows (Some r) rows = r ∷ rows

-- the rows of a cover of so many inputs, with nothing but skipped lines between them, at the front
-- of these lines
abbrev pub rows_in : ℕ → List Placed → List RowOf
rows_in inputs [] = []
rows_in inputs (l ∷ ls) = rows l.line (rows_in inputs ls)
  where
    rows : Line → List RowOf → List RowOf
    rows (Row ts) more = onto_rows (row_of inputs ts) more
    rows Skipped more = more
    rows (Model stand) more = []
    rows (End stand) more = []
    rows Bad more = []
    rows (Inputs ts) more = []
    rows (Outputs ts) more = []
    rows (Names ts) more = []
    rows (Other t) more = []

-- the equations: each .names with the rows that follow it
abbrev pub equations_in : List Placed → List (EquationOf (List ℕ))
equations_in [] = []
equations_in (l ∷ ls) = equation l.line ++ equations_in ls
  where
    equation : Line → List (EquationOf (List ℕ))
    equation (Names ts) = equation_of ts (rows_in (length (front_of ts)) ls) ∷ []
    equation Skipped = []
    equation (Model stand) = []
    equation (End stand) = []
    equation Bad = []
    equation (Inputs ts) = []
    equation (Outputs ts) = []
    equation (Other t) = []
    equation (Row ts) = []

abbrev pub parts_in : List Placed → PartsOf (List ℕ)
parts_in ls =
    record {
      inputs = flat_map inputs_in ls;
      outputs = flat_map outputs_in ls;
      equations = equations_in ls;
    }
