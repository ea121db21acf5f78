-- The gates of equations are within their cost.
use Rattle.std.proofs.Common.{◌≡◌, ℕ, ◌+◌, ◌-◌, ◌≤◌, max, Bool, true, false, Option, Some, None, cond, nat_eq, List, [], ◌∷◌, ◌++◌, map, sum, length, refl, sym, ap, ◌∙◌, arith}
use Rattle.std.specs.Prelude.{◌||◌}
use Rattle.std.specs.List.{list_any, All}
use Rattle.std.proofs.lemmas.List.{length-append, length-map, length_push}
use Rattle.std.proofs.lemmas.List.Elements.{All-head, All-tail}
use Rattle.std.proofs.lemmas.List.Sums.{sum_by-cons}
use Rattle.surf_logic.specs.declared.equation.Literal.{Literal}
use Rattle.surf_logic.specs.declared.equation.Literal.TheVariants as literals
use Rattle.surf_logic.specs.Equations.{EquationOf, PartsOf, literal_cost, row_cost, equation_cost, cost_of}
use Rattle.surf_logic.specs.Order.{EquationInRange}
use Rattle.surf_tiles.specs.declared.netlist.Gate.{Gate}
use Rattle.surf_netlist.specs.declared.signed.Signed.{Signed}
use Rattle.surf_netlist.specs.Gates.{signed_row, and_gate, or_gate, plain, is_empty, asked, asks_nothing, gate_count, gates_of_equation}
use Rattle.surf_netlist.specs.Circuits.{with_net, gates_from, input_nets, nets_from, gates_of, EquationsMakeGates}
use Rattle.surf_netlist.specs.Making.{with_or, and_all, or_all}
use Rattle.surf_netlist.proofs.Counts.{literals_in, rows_one, rows_long}
use Rattle.surf_netlist.proofs.Growing.{or_rest, not_zero}

-- the sum over a list with one element more
pub sum_more : {X : Type 0} (f : X → ℕ) (x : X) (xs : List X) → sum (map f (x ∷ xs)) ≡ f x + sum (map f xs)
sum_more f x xs = sum_by-cons (λ y. y) (f x) (map f xs)

row_asked : (nets : ℕ → ℕ) (inputs : List ℕ) (row : List Literal) → length (signed_row nets inputs row) ≤ asked row
row_asked nets (i ∷ is) (literals.One ∷ row) = let a = row_asked nets is row in let m = sum_more literal_cost literals.One row in omega (arith, a, m)
row_asked nets (i ∷ is) (literals.Zero ∷ row) = let a = row_asked nets is row in let m = sum_more literal_cost literals.Zero row in omega (arith, a, m)
row_asked nets (i ∷ is) (literals.Any ∷ row) = let a = row_asked nets is row in let m = sum_more literal_cost literals.Any row in omega (arith, a, m)
row_asked nets (i ∷ is) [] = omega arith
row_asked nets [] row = omega arith

row_asks : (nets : ℕ → ℕ) (inputs : List ℕ) (row : List Literal) → length row ≡ length inputs → length (signed_row nets inputs row) ≡ asked row
row_asks nets (i ∷ is) (literals.One ∷ row) l = let a = row_asks nets is row (omega (arith, l)) in let m = sum_more literal_cost literals.One row in omega (arith, a, m)
row_asks nets (i ∷ is) (literals.Zero ∷ row) l = let a = row_asks nets is row (omega (arith, l)) in let m = sum_more literal_cost literals.Zero row in omega (arith, a, m)
row_asks nets (i ∷ is) (literals.Any ∷ row) l = let a = row_asks nets is row (omega (arith, l)) in let m = sum_more literal_cost literals.Any row in omega (arith, a, m)
row_asks nets (i ∷ is) [] l = absurd (omega (arith, l))
row_asks nets [] (x ∷ row) l = absurd (omega (arith, l))
row_asks nets [] [] l = omega arith

rows_asked : (nets : ℕ → ℕ) (inputs : List ℕ) (rows : List (List Literal)) → literals_in (map (signed_row nets inputs) rows) ≤ sum (map row_cost rows)
rows_asked nets inputs [] = omega arith
rows_asked nets inputs (row ∷ rows) = let a = row_asked nets inputs row in let b = rows_asked nets inputs rows in let m = sum_more row_cost row rows in omega (arith, a, b, m)

rows_ask : (nets : ℕ → ℕ) (inputs : List ℕ) (rows : List (List Literal)) → All (λ row. length row ≡ length inputs) rows → literals_in (map (signed_row nets inputs) rows) ≡ sum (map asked rows)
rows_ask nets inputs [] same = refl
rows_ask nets inputs (row ∷ rows) same =
    let P : List Literal → Type 0 = λ r. length r ≡ length inputs in
    let a = row_asks nets inputs row (All-head P row rows same) in let b = rows_ask nets inputs rows (All-tail P row rows same) in let m = sum_more asked row rows in omega (arith, a, b, m)

empty_asks : (row : List Signed) (n : ℕ) → length row ≡ n → is_empty row ≡ nat_eq n 0
empty_asks [] n l = ap (λ (k : ℕ). nat_eq k 0) l
empty_asks (s ∷ row) n l = sym (ap (λ (k : ℕ). nat_eq k 0) (sym l) ∙ not_zero (length row))

empties_ask : (nets : ℕ → ℕ) (inputs : List ℕ) (rows : List (List Literal)) → All (λ row. length row ≡ length inputs) rows → list_any is_empty (map (signed_row nets inputs) rows) ≡ list_any asks_nothing rows
empties_ask nets inputs [] same = refl
empties_ask nets inputs (row ∷ rows) same =
    let P : List Literal → Type 0 = λ r. length r ≡ length inputs in
    ap (λ (b : Bool). b || list_any is_empty (map (signed_row nets inputs) rows)) (empty_asks (signed_row nets inputs row) (asked row) (row_asks nets inputs row (All-head P row rows same)))
    ∙ ap (λ (b : Bool). asks_nothing row || b) (empties_ask nets inputs rows (All-tail P row rows same))

pub equations_make : EquationsMakeGates
equations_make next nets q same = go (list_any is_empty rows) refl
  where
    rows : List (List Signed)
    rows = map (signed_row nets q.inputs) q.rows

    count : Bool → ℕ
    count b = cond b 1 (max 1 (sum (map asked q.rows) - 1))

    go : (t : Bool) → list_any is_empty rows ≡ t → length (gates_of_equation next nets q) ≡ gate_count q
    go true e = rows_one next rows q.polarity e ∙ sym (ap count (sym (empties_ask nets q.inputs q.rows same) ∙ e))
    go false e =
        rows_long next rows q.polarity e ∙ ap (λ (n : ℕ). max 1 (n - 1)) (rows_ask nets q.inputs q.rows same) ∙ sym (ap count (sym (empties_ask nets q.inputs q.rows same) ∙ e))

pub equation_within : (next : ℕ) (nets : ℕ → ℕ) (q : EquationOf ℕ) → length (gates_of_equation next nets q) ≤ equation_cost q
equation_within next nets q = go (list_any is_empty (map (signed_row nets q.inputs) q.rows)) refl
  where
    go : (t : Bool) → list_any is_empty (map (signed_row nets q.inputs) q.rows) ≡ t → length (gates_of_equation next nets q) ≤ equation_cost q
    go true h = let a = rows_one next (map (signed_row nets q.inputs) q.rows) q.polarity h in omega (arith, a)
    go false h = let a = rows_long next (map (signed_row nets q.inputs) q.rows) q.polarity h in let b = rows_asked nets q.inputs q.rows in omega (arith, a, b)

gates_within : (next : ℕ) (nets : ℕ → ℕ) (qs : List (EquationOf ℕ)) → length (gates_from next nets qs) ≤ sum (map equation_cost qs)
gates_within next nets [] = omega arith
gates_within next nets (q ∷ qs) =
    let a = equation_within next nets q in
    let n : ℕ = next + length (gates_of_equation next nets q) in
    let b = gates_within n (with_net nets q.output (n - 1)) qs in
    let z : length (gates_from next nets (q ∷ qs)) ≡ length (gates_of_equation next nets q) + length (gates_from n (with_net nets q.output (n - 1)) qs) = length-append (gates_of_equation next nets q) _ in
    let m = sum_more equation_cost q qs in omega (arith, a, b, z, m)

-- inputs, gates and outputs together are at most the cost
pub gates_cost : (p : PartsOf ℕ) → length p.inputs + length (gates_of p).gates + length (gates_of p).outputs ≤ cost_of p
gates_cost p =
    let a = gates_within (length p.inputs) (input_nets 0 p.inputs) p.equations in
    let b : length (gates_of p).outputs ≡ length p.outputs = length-map p.outputs (nets_from (length p.inputs) (input_nets 0 p.inputs) p.equations) in
    omega (arith, a, b)

pub gates_count : (count next : ℕ) (nets : ℕ → ℕ) (qs : List (EquationOf ℕ)) → All (EquationInRange count) qs → length (gates_from next nets qs) ≡ sum (map gate_count qs)
gates_count count next nets [] range = refl
gates_count count next nets (q ∷ qs) range =
    let a = equations_make next nets q (All-head (EquationInRange count) q qs range).rows in
    let n : ℕ = next + length (gates_of_equation next nets q) in
    let b = gates_count count n (with_net nets q.output (n - 1)) qs (All-tail (EquationInRange count) q qs range) in
    let z : length (gates_from next nets (q ∷ qs)) ≡ length (gates_of_equation next nets q) + length (gates_from n (with_net nets q.output (n - 1)) qs) = length-append (gates_of_equation next nets q) _ in
    let m = sum_more gate_count q qs in omega (arith, a, b, z, m)

-- gates so far, with those of a row and of rows
and_few : (inputs : ℕ) (gates : List Gate) (so_far : Option Signed) (row : List Signed) → length (and_all inputs gates so_far row).gates ≤ length gates + length row
and_few inputs gates so_far [] = omega arith
and_few inputs gates None (s ∷ row) = let a = and_few inputs gates (Some s) row in omega (arith, a)
and_few inputs gates (Some t) (s ∷ row) =
    let a = and_few inputs (gates ++ and_gate t s ∷ []) (Some (plain (inputs + length gates))) row in let l = length_push gates (and_gate t s) in omega (arith, a, l)

or_one : (inputs : ℕ) (gates : List Gate) (so_far : Option Signed) (s : Signed) → length (with_or inputs gates so_far s).gates ≤ length gates + 1
or_one inputs gates None s = omega arith
or_one inputs gates (Some t) s = let l = length_push gates (or_gate t s) in omega (arith, l)

pub or_few : (nets : ℕ → ℕ) (is : List ℕ) (inputs : ℕ) (gates : List Gate) (so_far : Option Signed) (rows : List (List Literal)) →
    length (or_all inputs gates so_far (map (signed_row nets is) rows)).gates ≤ length gates + sum (map row_cost rows)
or_few nets is inputs gates so_far [] = omega arith
or_few nets is inputs gates so_far (row ∷ rows) =
    let signed = signed_row nets is row in
    let made = and_all inputs gates None signed in
    let a = and_few inputs gates None signed in
    let b = row_asked nets is row in
    let c = go made.gates made.so_far (λ g o. or_few nets is inputs g o rows) in
    let m = sum_more row_cost row rows in omega (arith, a, b, c, m)
  where
    go : (g : List Gate) (o : Option Signed) → ((g' : List Gate) (o' : Option Signed) → length (or_all inputs g' o' (map (signed_row nets is) rows)).gates ≤ length g' + sum (map row_cost rows)) →
        length (or_rest inputs so_far (map (signed_row nets is) rows) (record { gates = g; so_far = o })).gates ≤ length g + 1 + sum (map row_cost rows)
    go g None deep = omega arith
    go g (Some s) deep = let a = deep (with_or inputs g so_far s).gates (with_or inputs g so_far s).so_far in let b = or_one inputs g so_far s in omega (arith, a, b)
