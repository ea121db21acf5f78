-- The rows of the inputs and of the outputs.
use Rattle.std.proofs.Common.{◌≡◌, ℕ, zero, suc, ◌+◌, ◌-◌, ◌<◌, Bool, true, false, Some, List, [], ◌∷◌, map, length, get_or, sym, ap, ◌∙◌, subst, arith}
use Rattle.std.specs.Prelude.{slice_get}
use Rattle.std.proofs.lemmas.List.{get_or_past, length-map}
use Rattle.std.proofs.lemmas.Option.{slice_get_past, slice_get_within}
use Rattle.surf_tiles.specs.declared.netlist.Gate.{Gate}
use Rattle.surf_tiles.specs.declared.netlist.Gate.TheVariants.{Constant, One, Two}
use Rattle.surf_tiles.specs.Netlists.{NetlistOf}
use Rattle.surf_tiles.specs.declared.tile.Tile.{Tile}
use Rattle.surf_tiles.specs.declared.tile.Tile.TheVariants.{Input as Inputs, Constant as Constants, Gate1 as Ones}
use Rattle.surf_tiles.specs.Tiles.{wires}
use Rattle.surf_place.specs.Drawing.{Row, Source, Tap, Ends, input_rows, gate_rows, rows_of, row_at}

-- a list that ends with another
pub record Below (xs ys : List Row) : Type 0 where
  pub count : ℕ
  pub long : length xs ≡ count + length ys
  pub at : (i : ℕ) → get_or xs (count + i) (Ends 0) ≡ get_or ys i (Ends 0)

below_same : (ys : List Row) → Below ys ys
below_same ys = record { count = 0; long = omega arith; at = λ i. let e : 0 + i ≡ i = omega arith in ap (λ (x : ℕ). get_or ys x (Ends 0)) e }

below_more : (row : Row) (xs ys : List Row) → Below xs ys → Below (row ∷ xs) ys
below_more row xs ys b = record {
  count = suc b.count;
  long = (let l = b.long in omega arith);
  at = λ i. let e : suc b.count + i ≡ suc (b.count + i) = omega arith in ap (λ (x : ℕ). get_or (row ∷ xs) x (Ends 0)) e ∙ b.at i;
}

below_gates : (net : ℕ) (gates : List Gate) (ys : List Row) → Below (gate_rows net gates ys) ys
below_gates net [] ys = below_same ys
below_gates net (Constant v ∷ gates) ys = below_more _ _ ys (below_gates (net + 1) gates ys)
below_gates net (One z o input ∷ gates) ys = below_more _ _ ys (below_more _ _ ys (below_gates (net + 1) gates ys))
below_gates net (Two t00 t01 t10 t11 first second ∷ gates) ys = below_more _ _ ys (below_more _ _ ys (below_more _ _ ys (below_gates (net + 1) gates ys)))

below_then : (xs ys zs : List Row) → Below xs ys → Below ys zs → Below xs zs
below_then xs ys zs a b = record {
  count = a.count + b.count;
  long = (let k = a.long in let l = b.long in omega arith);
  at = λ i. let e : a.count + b.count + i ≡ a.count + (b.count + i) = omega arith in ap (λ (x : ℕ). get_or xs x (Ends 0)) e ∙ a.at (b.count + i) ∙ b.at i;
}

below_inputs : (count net : ℕ) (ys : List Row) → Below (input_rows count net ys) ys
below_inputs zero net ys = below_same ys
below_inputs (suc count) net ys = below_more _ _ ys (below_inputs count (net + 1) ys)

pub output_below : (N : NetlistOf) → Below (rows_of N) (map Ends N.outputs)
output_below N = below_then (rows_of N) (gate_rows N.inputs N.gates (map Ends N.outputs)) (map Ends N.outputs) (below_inputs N.inputs 0 _) (below_gates N.inputs N.gates _)

-- the first rows are the inputs'
input_at : (count net : ℕ) (ys : List Row) (i : ℕ) → i < count → get_or (input_rows count net ys) i (Ends 0) ≡ Source (net + i) Inputs
input_at zero net ys i b = absurd (omega arith)
input_at (suc count) net ys zero b = let e : net ≡ net + 0 = omega arith in ap (λ (x : ℕ). Source x Inputs) e
input_at (suc count) net ys (suc i) b = input_at count (net + 1) ys i (omega arith) ∙ (let e : net + 1 + i ≡ net + suc i = omega arith in ap (λ (x : ℕ). Source x Inputs) e)

inputs_long : (count net : ℕ) (ys : List Row) → length (input_rows count net ys) ≡ count + length ys
inputs_long zero net ys = omega arith
inputs_long (suc count) net ys = let l = inputs_long count (net + 1) ys in omega arith

pub input_row : (N : NetlistOf) (i : ℕ) → i < N.inputs → (row_at N i ≡ Source i Inputs) × (i < length (rows_of N))
input_row N i b =
    (input_at N.inputs 0 _ i b ∙ (let e : 0 + i ≡ i = omega arith in ap (λ (x : ℕ). Source x Inputs) e), let c = inputs_long N.inputs 0 (gate_rows N.inputs N.gates (map Ends N.outputs)) in omega (arith, c, b))

-- no other row is an input's
record NoInput (rows : List Row) : Type 0 where
  none : (r n : ℕ) → get_or rows r (Ends 0) ≡ Source n Inputs → ⊥

no_input_more : (row : Row) (rows : List Row) → ((n : ℕ) → row ≡ Source n Inputs → ⊥) → NoInput rows → NoInput (row ∷ rows)
no_input_more row rows other rest = record { none = λ r n e. go rest r n e }
  where
    go : NoInput rows → (r n : ℕ) → get_or (row ∷ rows) r (Ends 0) ≡ Source n Inputs → ⊥
    go rest' zero n e = other n e
    go rest' (suc r) n e = rest'.none r n e

no_input_ends : (outputs : List ℕ) → NoInput (map Ends outputs)
no_input_ends [] = record { none = λ r n e. absurd (cc (sym (get_or_past [] r (Ends 0) (omega arith)) ∙ e)) }
no_input_ends (m ∷ outputs) = no_input_more (Ends m) (map Ends outputs) (λ n e. absurd (cc e)) (no_input_ends outputs)

not_constant : (net : ℕ) (v : Bool) (n : ℕ) → Source net (Constants v) ≡ Source n Inputs → ⊥
not_constant net v n e = absurd cc

not_one : (net : ℕ) (z o : Bool) (n : ℕ) → Source net (Ones z o) ≡ Source n Inputs → ⊥
not_one net z o n e = absurd cc

not_wire : (net : ℕ) (a b c d : Bool) (n : ℕ) → Source net (wires a b c d) ≡ Source n Inputs → ⊥
not_wire net a b c d n e = absurd cc

not_tap : (net gate : ℕ) (device : Tile) (n : ℕ) → Tap net gate device ≡ Source n Inputs → ⊥
not_tap net gate device n e = absurd cc

no_input_gates : (net : ℕ) (gates : List Gate) (ys : List Row) → NoInput ys → NoInput (gate_rows net gates ys)
no_input_gates net [] ys h = h
no_input_gates net (Constant v ∷ gates) ys h = no_input_more _ _ (not_constant net v) (no_input_gates (net + 1) gates ys h)
no_input_gates net (One z o input ∷ gates) ys h = no_input_more _ _ (not_tap input net _) (no_input_more _ _ (not_one net z o) (no_input_gates (net + 1) gates ys h))
no_input_gates net (Two t00 t01 t10 t11 first second ∷ gates) ys h =
    no_input_more _ _ (not_tap first net _) (no_input_more _ _ (not_tap second net _) (no_input_more _ _ (not_wire net true true false false) (no_input_gates (net + 1) gates ys h)))

within_inputs : (count net : ℕ) (ys : List Row) (r n : ℕ) → NoInput ys → get_or (input_rows count net ys) r (Ends 0) ≡ Source n Inputs → r < count
within_inputs zero net ys r n h e = absurd (h.none r n e)
within_inputs (suc count) net ys zero n h e = omega arith
within_inputs (suc count) net ys (suc r) n h e = let l = within_inputs count (net + 1) ys r n h e in omega arith

pub input_only : (N : NetlistOf) (r n : ℕ) → row_at N r ≡ Source n Inputs → r < N.inputs
input_only N r n e = within_inputs N.inputs 0 (gate_rows N.inputs N.gates (map Ends N.outputs)) r n (no_input_gates N.inputs N.gates (map Ends N.outputs) (no_input_ends N.outputs)) e

-- the last rows are the outputs'
end_at : (outputs : List ℕ) (i : ℕ) (net : ℕ) → slice_get outputs i ≡ Some net → get_or (map Ends outputs) i (Ends 0) ≡ Ends net
end_at [] i net e = absurd (cc (sym (slice_get_past [] i (omega arith)) ∙ e))
end_at (m ∷ outputs) zero net e = let f : m ≡ net = cc (e) in ap Ends f
end_at (m ∷ outputs) (suc i) net e = end_at outputs i net e

pub output_row : (N : NetlistOf) (i net : ℕ) → slice_get N.outputs i ≡ Some net → (row_at N (length (rows_of N) - length N.outputs + i) ≡ Ends net) × (length (rows_of N) - length N.outputs + i < length (rows_of N))
output_row N i net e =
    let b = output_below N in
    let l : length (rows_of N) ≡ b.count + length N.outputs = b.long ∙ ap (λ (x : ℕ). b.count + x) (length-map N.outputs Ends) in
    let w = slice_get_within N.outputs i net e in
    let f : b.count ≡ length (rows_of N) - length N.outputs = omega (arith, l) in
    (subst (λ (x : ℕ). row_at N (x + i) ≡ Ends net) f (b.at i ∙ end_at N.outputs i net e), omega (arith, l, w))
