-- The gates of one equation: ANDs of the literals of a row, and ORs of rows.
use Rattle.std.specs.Prelude.{ℕ, ◌+◌, ◌-◌, max, Bool, true, false, not, ◌&&◌, ◌||◌, nat_eq, Option, Some, None, List, [], ◌∷◌, ◌++◌, map, sum, length, if◌then◌else◌}
use Rattle.std.specs.List.{list_any}
use Rattle.std.specs.Option.{option_to_list}
use Rattle.surf_logic.specs.declared.equation.Literal.{Literal}
use Rattle.surf_logic.specs.declared.equation.Literal.TheVariants as literals
use Rattle.surf_logic.specs.Equations.{EquationOf, literal_cost}
use Rattle.surf_tiles.specs.declared.netlist.Gate.{Gate}
use Rattle.surf_tiles.specs.declared.netlist.Gate.TheVariants.{Constant, One, Two}
use Rattle.surf_netlist.specs.declared.signed.Signed.{Signed}

-- the value of a net as it is
abbrev pub plain : (net : ℕ) → Signed
plain net = record { net = net; positive = true }

-- the net of an input as a literal asks for it: `1` is positive, `0` negative, `-` is left out
abbrev pub signed_literal : Literal → (net : ℕ) → Option Signed
signed_literal literals.One net = Some (record { net = net; positive = true })
signed_literal literals.Zero net = Some (record { net = net; positive = false })
signed_literal literals.Any net = None

-- the signed nets of a row, in the order of the inputs
abbrev pub signed_row : (nets : ℕ → ℕ) → (inputs : List ℕ) → List Literal → List Signed
signed_row nets (i ∷ is) (l ∷ row) =
    option_to_list (signed_literal l (nets i)) ++ signed_row nets is row
signed_row nets [] row = []
signed_row nets (i ∷ is) [] = []

-- the signs are part of the tables: `t01` is for a false first net and a true second, and so on
abbrev pub and_gate : Signed → Signed → Gate
and_gate a b =
    Two (not a.positive && not b.positive) (not a.positive && b.positive)
    (a.positive && not b.positive) (a.positive && b.positive) a.net b.net

abbrev pub or_gate : Signed → Signed → Gate
or_gate a b =
    Two (not a.positive || not b.positive) (not a.positive || b.positive)
    (a.positive || not b.positive) (a.positive || b.positive) a.net b.net

-- gates, and the signed net that they give
pub record Made : Type 0 where
  pub gates : List Gate
  pub result : Signed

-- the AND of what was made so far (first) and the next signed net (second), and so on. `next` is
-- the net of the next gate
abbrev pub and_chain : (next : ℕ) → (so_far : Signed) → List Signed → Made
and_chain next so_far [] = record { gates = []; result = so_far }
and_chain next so_far (s ∷ row) =
    let rest = and_chain (next + 1) (plain next) row in
    record { gates = and_gate so_far s ∷ rest.gates; result = rest.result }

-- a row with one signed net is that net and makes no gate. (A row with none is no matter: it makes
-- the equation constant)
abbrev pub row_made : (next : ℕ) → List Signed → Made
row_made next [] = record { gates = []; result = plain 0 }
row_made next (s ∷ row) = and_chain next s row

-- after the gates of each further row the OR of what was joined so far (first) and that row
-- (second)
abbrev pub or_chain : (next : ℕ) → (so_far : Signed) → List (List Signed) → Made
or_chain next so_far [] = record { gates = []; result = so_far }
or_chain next so_far (row ∷ rows) =
    let made = row_made next row in
    let rest = or_chain (next + length made.gates + 1) (plain (next + length made.gates)) rows in
    record { gates = made.gates ++ (or_gate so_far made.result ∷ rest.gates); result = rest.result }

-- the gates of the first row come before all these
abbrev pub rows_made : (next : ℕ) → (row : List Signed) → (rows : List (List Signed)) → Made
rows_made next row rows =
    let made = row_made next row in
    let rest = or_chain (next + length made.gates) made.result rows in
    record { gates = made.gates ++ rest.gates; result = rest.result }

abbrev pub complement : Gate → Gate
complement (Constant v) = Constant (not v)
complement (One zero one input) = One (not zero) (not one) input
complement (Two t00 t01 t10 t11 first second) =
    Two (not t00) (not t01) (not t10) (not t11) first second

abbrev pub complement_last : List Gate → List Gate
complement_last [] = []
complement_last (g ∷ []) = complement g ∷ []
complement_last (g ∷ h ∷ gates) = g ∷ complement_last (h ∷ gates)

-- where there is no gate, one of one input; else the table of the last one is complemented for
-- polarity 0
abbrev pub finished : (polarity : Bool) → List Gate → Signed → List Gate
finished polarity [] s =
    (if s.positive then One (not polarity) polarity s.net else One polarity (not polarity) s.net)
    ∷ []
finished polarity (g ∷ gates) s = if polarity then g ∷ gates else complement_last (g ∷ gates)

abbrev pub is_empty : {X : Type 0} → List X → Bool
is_empty [] = true
is_empty (x ∷ xs) = false

-- without rows the gate is constant 0; with a row that asks nothing it is constant, the polarity
abbrev pub cover_gates : (next : ℕ) → List (List Signed) → (polarity : Bool) → List Gate
cover_gates next [] polarity = Constant false ∷ []
cover_gates next (row ∷ rows) polarity =
    if list_any is_empty (row ∷ rows) then Constant polarity ∷ []
    else finished polarity (rows_made next row rows).gates (rows_made next row rows).result

-- the gates of an equation. `nets` are those of the names, and `next` is the net of its first gate
abbrev pub gates_of_equation : (next : ℕ) → (nets : ℕ → ℕ) → EquationOf ℕ → List Gate
gates_of_equation next nets q = cover_gates next (map (signed_row nets q.inputs) q.rows) q.polarity

-- how many literals of a row ask something
abbrev pub asked : List Literal → ℕ
asked row = sum (map literal_cost row)

abbrev pub asks_nothing : List Literal → Bool
asks_nothing row = nat_eq (asked row) 0

-- how many gates an equation makes
abbrev pub gate_count : EquationOf ℕ → ℕ
gate_count q = if list_any asks_nothing q.rows then 1 else max 1 (sum (map asked q.rows) - 1)
