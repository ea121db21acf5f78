-- What lines declare, gathered line by line: closed equations, and the one that rows may follow.
use Rattle.std.proofs.Common.{ℕ, ◌≡◌, ◌+◌, Bool, List, [], ◌∷◌, ◌++◌, length, refl, sym, ◌∙◌, ap, arith, Option, Some, None, append-nil, append_assoc, length-append}
use Rattle.std.specs.List.{flat_map}
use Rattle.surf_logic.specs.Equations.{EquationOf, PartsOf, cost_of, equation_cost, row_cost}
use Rattle.surf_blif.specs.Logical.{front_of}
use Rattle.surf_blif.specs.Lines.{Line, Skipped, Model, End, Bad, Inputs, Outputs, Names, Other, Row}
use Rattle.surf_blif.specs.Covers.{RowOf, row_of, equation_of}
use Rattle.surf_blif.specs.Grammar.{Placed, inputs_in, outputs_in, onto_rows, rows_in, equations_in, parts_in}
use Rattle.surf_blif.specs.Steps.{with_inputs, with_outputs, with_equation, add_row, parts_with_row}
use Rattle.surf_blif.proofs.Lists.{on_last_put, map_put, sum_put}

-- the signals and the rows so far of the cover that rows may follow
pub record Open : Type 0 where
  pub signals : List (List ℕ)
  pub rows : List RowOf

pub record Built : Type 0 where
  pub inputs : List (List ℕ)
  pub outputs : List (List ℕ)
  pub closed : List (EquationOf (List ℕ))
  pub last : Option Open

abbrev pub opened : Option Open → List (EquationOf (List ℕ))
opened None = []
opened (Some o) = equation_of o.signals o.rows ∷ []

abbrev pub parts_built : Built → PartsOf (List ℕ)
parts_built b = record { inputs = b.inputs; outputs = b.outputs; equations = b.closed ++ opened b.last }

abbrev pub with_row_read : Option Open → List (List ℕ) → Option Open
with_row_read None ts = None
with_row_read (Some o) ts = Some (record { signals = o.signals; rows = o.rows ++ onto_rows (row_of (length (front_of o.signals)) ts) [] })

abbrev pub close : Built → Built
close b = record { inputs = b.inputs; outputs = b.outputs; closed = b.closed ++ opened b.last; last = None }

abbrev pub build : Built → Line → Built
build b Skipped = b
build b (Row ts) = record { inputs = b.inputs; outputs = b.outputs; closed = b.closed; last = with_row_read b.last ts }
build b (Names ts) = record { inputs = b.inputs; outputs = b.outputs; closed = b.closed ++ opened b.last; last = Some (record { signals = ts; rows = [] }) }
build b (Inputs ts) = record { inputs = b.inputs ++ ts; outputs = b.outputs; closed = b.closed ++ opened b.last; last = None }
build b (Outputs ts) = record { inputs = b.inputs; outputs = b.outputs ++ ts; closed = b.closed ++ opened b.last; last = None }
build b (Model stand) = close b
build b (End stand) = close b
build b Bad = close b
build b (Other t) = close b

abbrev pub builds : Built → List Placed → Built
builds b [] = b
builds b (l ∷ ls) = builds (build b l.line) ls

abbrev pub nothing_built : Built
nothing_built = record { inputs = []; outputs = []; closed = []; last = None }

-- inputs and outputs
inputs_step : (b : Built) (n : ℕ) (l : Line) (more : List (List ℕ)) → (build b l).inputs ++ more ≡ b.inputs ++ (inputs_in (record { number = n; line = l }) ++ more)
inputs_step b n Skipped more = refl
inputs_step b n (Row ts) more = refl
inputs_step b n (Names ts) more = refl
inputs_step b n (Inputs ts) more = append_assoc b.inputs ts more
inputs_step b n (Outputs ts) more = refl
inputs_step b n (Model stand) more = refl
inputs_step b n (End stand) more = refl
inputs_step b n Bad more = refl
inputs_step b n (Other t) more = refl

inputs_built : (b : Built) (ls : List Placed) → (builds b ls).inputs ≡ b.inputs ++ flat_map inputs_in ls
inputs_built b [] = sym (append-nil b.inputs)
inputs_built b (l ∷ ls) = inputs_built (build b l.line) ls ∙ inputs_step b l.number l.line (flat_map inputs_in ls)

outputs_step : (b : Built) (n : ℕ) (l : Line) (more : List (List ℕ)) → (build b l).outputs ++ more ≡ b.outputs ++ (outputs_in (record { number = n; line = l }) ++ more)
outputs_step b n Skipped more = refl
outputs_step b n (Row ts) more = refl
outputs_step b n (Names ts) more = refl
outputs_step b n (Inputs ts) more = refl
outputs_step b n (Outputs ts) more = append_assoc b.outputs ts more
outputs_step b n (Model stand) more = refl
outputs_step b n (End stand) more = refl
outputs_step b n Bad more = refl
outputs_step b n (Other t) more = refl

outputs_built : (b : Built) (ls : List Placed) → (builds b ls).outputs ≡ b.outputs ++ flat_map outputs_in ls
outputs_built b [] = sym (append-nil b.outputs)
outputs_built b (l ∷ ls) = outputs_built (build b l.line) ls ∙ outputs_step b l.number l.line (flat_map outputs_in ls)

-- the open equation with the rows at the front of the lines
abbrev filled : Option Open → List Placed → List (EquationOf (List ℕ))
filled None ls = []
filled (Some o) ls = equation_of o.signals (o.rows ++ rows_in (length (front_of o.signals)) ls) ∷ []

abbrev whole : Built → List Placed → List (EquationOf (List ℕ))
whole b ls = (b.closed ++ filled b.last ls) ++ equations_in ls

filled_none : (o : Option Open) → filled o [] ≡ opened o
filled_none None = refl
filled_none (Some o) = rw (append-nil o.rows) refl

rows_more : (rows : List RowOf) (r : Option RowOf) (more : List RowOf) → (rows ++ onto_rows r []) ++ more ≡ rows ++ onto_rows r more
rows_more rows None more = ap (λ v. v ++ more) (append-nil rows)
rows_more rows (Some r) more = append_assoc rows (r ∷ []) more

filled_row : (o : Option Open) (n : ℕ) (ts : List (List ℕ)) (ls : List Placed) → filled (with_row_read o ts) ls ≡ filled o ((record { number = n; line = Row ts }) ∷ ls)
filled_row None n ts ls = refl
filled_row (Some o) n ts ls = rw (rows_more o.rows (row_of (length (front_of o.signals)) ts) (rows_in (length (front_of o.signals)) ls)) refl

filled_skip : (o : Option Open) (n : ℕ) (ls : List Placed) → filled o ls ≡ filled o ((record { number = n; line = Skipped }) ∷ ls)
filled_skip None n ls = refl
filled_skip (Some o) n ls = refl

-- a line that ends a cover
filled_names : (o : Option Open) (n : ℕ) (ts : List (List ℕ)) (ls : List Placed) → filled o ((record { number = n; line = Names ts }) ∷ ls) ≡ opened o
filled_names None n ts ls = refl
filled_names (Some o) n ts ls = rw (append-nil o.rows) refl

filled_inputs : (o : Option Open) (n : ℕ) (ts : List (List ℕ)) (ls : List Placed) → filled o ((record { number = n; line = Inputs ts }) ∷ ls) ≡ opened o
filled_inputs None n ts ls = refl
filled_inputs (Some o) n ts ls = rw (append-nil o.rows) refl

filled_outputs : (o : Option Open) (n : ℕ) (ts : List (List ℕ)) (ls : List Placed) → filled o ((record { number = n; line = Outputs ts }) ∷ ls) ≡ opened o
filled_outputs None n ts ls = refl
filled_outputs (Some o) n ts ls = rw (append-nil o.rows) refl

filled_model : (o : Option Open) (n : ℕ) (stand : Bool) (ls : List Placed) → filled o ((record { number = n; line = Model stand }) ∷ ls) ≡ opened o
filled_model None n stand ls = refl
filled_model (Some o) n stand ls = rw (append-nil o.rows) refl

filled_end : (o : Option Open) (n : ℕ) (stand : Bool) (ls : List Placed) → filled o ((record { number = n; line = End stand }) ∷ ls) ≡ opened o
filled_end None n stand ls = refl
filled_end (Some o) n stand ls = rw (append-nil o.rows) refl

filled_bad : (o : Option Open) (n : ℕ) (ls : List Placed) → filled o ((record { number = n; line = Bad }) ∷ ls) ≡ opened o
filled_bad None n ls = refl
filled_bad (Some o) n ls = rw (append-nil o.rows) refl

filled_other : (o : Option Open) (n : ℕ) (t : List ℕ) (ls : List Placed) → filled o ((record { number = n; line = Other t }) ∷ ls) ≡ opened o
filled_other None n t ls = refl
filled_other (Some o) n t ls = rw (append-nil o.rows) refl

closes : (b : Built) (l : Placed) (ls : List Placed) (more : List (EquationOf (List ℕ))) → filled b.last (l ∷ ls) ≡ opened b.last → ((b.closed ++ opened b.last) ++ []) ++ more ≡ (b.closed ++ filled b.last (l ∷ ls)) ++ more
closes b l ls more is = ap (λ v. v ++ more) (append-nil (b.closed ++ opened b.last) ∙ ap (λ v. b.closed ++ v) (sym is))

whole_step : (b : Built) (n : ℕ) (l : Line) (ls : List Placed) → whole (build b l) ls ≡ whole b ((record { number = n; line = l }) ∷ ls)
whole_step b n Skipped ls = rw (filled_skip b.last n ls) refl
whole_step b n (Row ts) ls = rw (filled_row b.last n ts ls) refl
whole_step b n (Names ts) ls =
    rw (filled_names b.last n ts ls) (append_assoc (b.closed ++ opened b.last) (equation_of ts (rows_in (length (front_of ts)) ls) ∷ []) (equations_in ls))
whole_step b n (Inputs ts) ls = closes b (record { number = n; line = Inputs ts }) ls (equations_in ls) (filled_inputs b.last n ts ls)
whole_step b n (Outputs ts) ls = closes b (record { number = n; line = Outputs ts }) ls (equations_in ls) (filled_outputs b.last n ts ls)
whole_step b n (Model stand) ls = closes b (record { number = n; line = Model stand }) ls (equations_in ls) (filled_model b.last n stand ls)
whole_step b n (End stand) ls = closes b (record { number = n; line = End stand }) ls (equations_in ls) (filled_end b.last n stand ls)
whole_step b n Bad ls = closes b (record { number = n; line = Bad }) ls (equations_in ls) (filled_bad b.last n ls)
whole_step b n (Other t) ls = closes b (record { number = n; line = Other t }) ls (equations_in ls) (filled_other b.last n t ls)

equations_built : (b : Built) (ls : List Placed) → (parts_built (builds b ls)).equations ≡ whole b ls
equations_built b [] = sym (append-nil (b.closed ++ filled b.last []) ∙ ap (λ v. b.closed ++ v) (filled_none b.last))
equations_built b (l ∷ ls) = equations_built (build b l.line) ls ∙ whole_step b l.number l.line ls

-- all lines in turn build what they declare
pub built_is : (ls : List Placed) → parts_built (builds nothing_built ls) ≡ parts_in ls
built_is ls = rw (inputs_built nothing_built ls, outputs_built nothing_built ls, equations_built nothing_built ls) refl

-- a row of the last equation
add_row_is : (r : RowOf) (signals : List (List ℕ)) (rows : List RowOf) → add_row r (equation_of signals rows) ≡ equation_of signals (rows ++ r ∷ [])
add_row_is r signals [] = refl
add_row_is r signals (x ∷ xs) = rw (map_put (λ (v : RowOf). v.literals) xs r) refl

pub row_built : (b : Built) (o : Open) (r : RowOf) → parts_with_row (record { inputs = b.inputs; outputs = b.outputs; equations = b.closed ++ opened (Some o) }) r ≡ record { inputs = b.inputs; outputs = b.outputs; equations = b.closed ++ opened (Some (record { signals = o.signals; rows = o.rows ++ r ∷ [] })) }
row_built b o r = rw (on_last_put (add_row r) b.closed (equation_of o.signals o.rows), add_row_is r o.signals o.rows) refl

-- what parts cost
pub inputs_cost : (p : PartsOf (List ℕ)) (ts : List (List ℕ)) → cost_of (with_inputs p ts) ≡ cost_of p + length ts
inputs_cost p ts = omega (arith, length-append p.inputs ts)

pub outputs_cost : (p : PartsOf (List ℕ)) (ts : List (List ℕ)) → cost_of (with_outputs p ts) ≡ cost_of p + length ts
outputs_cost p ts = omega (arith, length-append p.outputs ts)

pub equation_more : (p : PartsOf (List ℕ)) (ts : List (List ℕ)) → cost_of (with_equation p ts) ≡ cost_of p + 1
equation_more p ts = omega (arith, sum_put (equation_cost {N = List ℕ}) p.equations (equation_of ts []))

pub row_more : (inputs outputs : List (List ℕ)) (closed : List (EquationOf (List ℕ))) (q : EquationOf (List ℕ)) (r : RowOf) → cost_of (parts_with_row (record { inputs = inputs; outputs = outputs; equations = closed ++ q ∷ [] }) r) ≡ cost_of (record { inputs = inputs; outputs = outputs; equations = closed ++ q ∷ [] }) + row_cost r.literals
row_more inputs outputs closed q r =
    rw (on_last_put (add_row r) closed q)
    (omega (arith, sum_put (equation_cost {N = List ℕ}) closed (add_row r q), sum_put (equation_cost {N = List ℕ}) closed q, sum_put row_cost q.rows r.literals))
