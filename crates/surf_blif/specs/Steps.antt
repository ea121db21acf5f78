-- What a reader keeps of the lines so far: their cost, and what they declare while the cost is
-- within the limit.
use Rattle.std.specs.Prelude.{ℕ, ◌+◌, Bool, false, nat_le, List, [], ◌∷◌, ◌++◌, length, Option, Some, None, Result, Ok, Err, if◌then◌else◌}
use Rattle.surf_logic.specs.declared.equation.Literal.{Literal}
use Rattle.surf_logic.specs.Equations.{EquationOf, PartsOf, row_cost}
use Rattle.surf_blif.specs.declared.reading.Extent.{Extent}
use Rattle.surf_blif.specs.declared.reading.Extent.TheVariants.{GoesOn, Stops, Ends}
use Rattle.surf_blif.specs.declared.reading.Cover.{Cover}
use Rattle.surf_blif.specs.Lines.{Line, Skipped, Model, End, Bad, Inputs, Outputs, Names, Other, Row}
use Rattle.surf_blif.specs.Covers.{RowOf, row_of, equation_of}
use Rattle.surf_blif.specs.Grammar.{Placed, TextFault, begins, cover_after, extent, line_fault}

pub record Held : Type 0 where
  pub cost : ℕ
  pub parts : PartsOf (List ℕ)

-- so much more cost, and these parts in place of those held where the cost is within the limit
abbrev pub keeping : Held → ℕ → PartsOf (List ℕ) → Held
keeping h more p =
    record { cost = h.cost + more; parts = if nat_le (h.cost + more) 1000 then p else h.parts }

abbrev pub with_inputs : PartsOf (List ℕ) → List (List ℕ) → PartsOf (List ℕ)
with_inputs p ts = record { inputs = p.inputs ++ ts; outputs = p.outputs; equations = p.equations }

abbrev pub with_outputs : PartsOf (List ℕ) → List (List ℕ) → PartsOf (List ℕ)
with_outputs p ts = record { inputs = p.inputs; outputs = p.outputs ++ ts; equations = p.equations }

abbrev pub with_equation : PartsOf (List ℕ) → List (List ℕ) → PartsOf (List ℕ)
with_equation p ts =
    record {
      inputs = p.inputs;
      outputs = p.outputs;
      equations = p.equations ++ equation_of ts [] ∷ [];
    }

-- f on the last of a list
abbrev pub on_last : {X : Type 0} → (X → X) → List X → List X
on_last f [] = []
on_last f (x ∷ []) = f x ∷ []
on_last f (x ∷ y ∷ ys) = x ∷ on_last f (y ∷ ys)

-- a row more; the first row gives the polarity
abbrev pub add_row : {N : Type 0} → RowOf → EquationOf N → EquationOf N
add_row r q =
    record {
      output = q.output;
      inputs = q.inputs;
      rows = q.rows ++ r.literals ∷ [];
      polarity = polarity q.rows;
    }
  where
    polarity : List (List Literal) → Bool
    polarity [] = r.output
    polarity (row ∷ rows) = q.polarity

abbrev pub parts_with_row : PartsOf (List ℕ) → RowOf → PartsOf (List ℕ)
parts_with_row p r =
    record { inputs = p.inputs; outputs = p.outputs; equations = on_last (add_row r) p.equations }

abbrev pub with_row : Held → RowOf → Held
with_row h r = keeping h (row_cost r.literals) (parts_with_row h.parts r)

abbrev pub with_row_of : Held → Option RowOf → Held
with_row_of h None = h
with_row_of h (Some r) = with_row h r

abbrev pub held_row : Option Cover → Held → List (List ℕ) → Held
held_row None h ts = h
held_row (Some c) h ts = with_row_of h (row_of c.inputs ts)

-- what is held behind a line, where rows may follow this cover
abbrev pub held_after : Option Cover → Held → Line → Held
held_after c h (Inputs ts) = keeping h (length ts) (with_inputs h.parts ts)
held_after c h (Outputs ts) = keeping h (length ts) (with_outputs h.parts ts)
held_after c h (Names ts) = keeping h 1 (with_equation h.parts ts)
held_after c h (Row ts) = held_row c h ts
held_after c h Skipped = h
held_after c h (Model stand) = h
held_after c h (End stand) = h
held_after c h Bad = h
held_after c h (Other t) = h

-- whether the model has begun, the cover that rows may follow, and what is held
pub record Reached : Type 0 where
  pub begun : Bool
  pub cover : Option Cover
  pub held : Held

abbrev pub after_line : Reached → Line → Reached
after_line s l =
    record {
      begun = begins s.begun l;
      cover = cover_after s.cover l;
      held = held_after s.cover s.held l;
    }

abbrev pub unless_fault : {X : Type 0} → Option TextFault → Result X TextFault → Result X TextFault
unless_fault None r = r
unless_fault (Some f) r = Err f

-- the step of a line, and what comes of the lines behind it
abbrev pub step : Reached → Placed → Extent → Result Reached TextFault → Result Reached TextFault
step s l GoesOn more = unless_fault (line_fault s.cover l.number l.line) more
step s l Stops more = Ok s
step s l Ends more = unless_fault (line_fault s.cover l.number l.line) (Ok (after_line s l.line))

-- the steps of the lines of a model, up to the first fault
abbrev pub read_on : Reached → List Placed → Result Reached TextFault
read_on s [] = Ok s
read_on s (l ∷ ls) = step s l (extent s.begun l.line) (read_on (after_line s l.line) ls)

abbrev pub nothing_held : Held
nothing_held = record { cost = 0; parts = record { inputs = []; outputs = []; equations = [] } }

-- nothing is read so far
abbrev pub at_start : Reached
at_start = record { begun = false; cover = None; held = nothing_held }
