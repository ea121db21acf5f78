-- The rows of inputs, gates and outputs, taken one after another.
use Rattle.std.proofs.Common.{◌≡◌, ℕ, zero, suc, ◌+◌, ◌-◌, ◌*◌, ◌<◌, ◌≤◌, List, [], ◌∷◌, map, length, get_or, refl, sym, ap, ◌∙◌, arith}
use Rattle.std.specs.List.{All, range_with_len}
use Rattle.std.proofs.Math.ListN.{length-set}
use Rattle.std.proofs.lemmas.List.{length_push, length-map}
use Rattle.std.proofs.lemmas.List.Elements.{All-from_get_or}
use Rattle.std.proofs.lemmas.Option.{slice_get-get_or}
use Rattle.surf_tiles.specs.declared.netlist.Gate.{Gate}
use Rattle.surf_tiles.specs.declared.netlist.Gate.TheVariants.{Constant, One, Two}
use Rattle.surf_tiles.specs.Netlists.{NetlistOf, HasOutputs, nets_of}
use Rattle.surf_lanes.specs.declared.lanes.Span.{Span}
use Rattle.surf_place.specs.Drawing.{Row, Ends, input_rows, gate_rows, rows_of, source_row, last_row}
use Rattle.surf_place.specs.Filling.{Filled, nothing, with_source, with_use, filled}
use Rattle.surf_place.specs.Placed.{net_spans, spans_of}
use Rattle.surf_place.proofs.Filled.{inputs_then, gates_then}

pub input_more : (f : Filled) (count i : ℕ) → i < count → filled f (input_rows (count - i) i []) ≡ filled (with_source f) (input_rows (count - (i + 1)) (i + 1) [])
input_more f count i b = let e : count - i ≡ suc (count - (i + 1)) = omega (arith, b) in ap (λ (k : ℕ). filled f (input_rows k i [])) e

pub input_end : (f : Filled) (count i : ℕ) → count ≤ i → filled f (input_rows (count - i) i []) ≡ f
input_end f count i b = let e : count - i ≡ 0 = omega (arith, b) in ap (λ (k : ℕ). filled f (input_rows k i [])) e

-- one gate, and those after it
pub gate_more : (f : Filled) (net : ℕ) (g : Gate) (gates : List Gate) → filled f (gate_rows net (g ∷ gates) []) ≡ filled (filled f (gate_rows net (g ∷ []) [])) (gate_rows (net + 1) gates [])
gate_more f net (Constant v) gates = refl
gate_more f net (One z o input) gates = refl
gate_more f net (Two t00 t01 t10 t11 first second) gates = refl

-- how many nets have begun, and how many rows there are at most
pub record HasTaken (f g : Filled) (count bound : ℕ) : Type 0 where
  pub nets : length g.last ≡ length f.last + count
  pub rows : g.row ≤ f.row + bound

begun_one : (f : Filled) → length (with_source f).last ≡ length f.last + 1
begun_one f = length_push f.last f.row

used_long : (f : Filled) (net : ℕ) → length (with_use f net).last ≡ length f.last
used_long f net = length-set f.last net f.row

pub gate_taken : (f : Filled) (net : ℕ) (g : Gate) → HasTaken f (filled f (gate_rows net (g ∷ []) [])) 1 3
gate_taken f net (Constant v) = record { nets = begun_one f; rows = omega arith }
gate_taken f net (One z o input) = record { nets = begun_one (with_use f input) ∙ ap (λ (n : ℕ). n + 1) (used_long f input); rows = omega arith }
gate_taken f net (Two t00 t01 t10 t11 first second) = record {
  nets = begun_one (with_use (with_use f first) second) ∙ ap (λ (n : ℕ). n + 1) (used_long (with_use f first) second ∙ used_long f first);
  rows = omega arith;
}

pub inputs_taken : (f : Filled) (count net : ℕ) → HasTaken f (filled f (input_rows count net [])) count count
inputs_taken f zero net = record { nets = omega arith; rows = omega arith }
inputs_taken f (suc count) net =
    let d = inputs_taken (with_source f) count (net + 1) in
    let l = begun_one f in
    record { nets = (let n = d.nets in omega (arith, n, l)); rows = (let r = d.rows in omega (arith, r)) }

pub gates_taken : (f : Filled) (net : ℕ) (gates : List Gate) → HasTaken f (filled f (gate_rows net gates [])) (length gates) (3 * length gates)
gates_taken f net [] = record { nets = omega arith; rows = omega arith }
gates_taken f net (g ∷ gates) =
    let one = gate_taken f net g in
    let d = gates_taken (filled f (gate_rows net (g ∷ []) [])) (net + 1) gates in
    let e = gate_more f net g gates in
    record {
      nets = (let n = d.nets in let o = one.nets in let k = ap (λ (x : Filled). length x.last) e in omega (arith, n, o, k));
      rows = (let n = d.rows in let o = one.rows in let k = ap (λ (x : Filled). x.row) e in omega (arith, n, o, k));
    }

gates_long : (net : ℕ) (gates : List Gate) (below : List Row) → length below ≤ length (gate_rows net gates below)
gates_long net [] below = omega arith
gates_long net (Constant v ∷ gates) below = let d = gates_long (net + 1) gates below in omega (arith, d)
gates_long net (One z o input ∷ gates) below = let d = gates_long (net + 1) gates below in omega (arith, d)
gates_long net (Two t00 t01 t10 t11 first second ∷ gates) below = let d = gates_long (net + 1) gates below in omega (arith, d)

inputs_long : (count net : ℕ) (below : List Row) → length below ≤ length (input_rows count net below)
inputs_long zero net below = omega arith
inputs_long (suc count) net below = let d = inputs_long count (net + 1) below in omega (arith, d)

gates_few : (net : ℕ) (gates : List Gate) (below : List Row) → length (gate_rows net gates below) ≤ 3 * length gates + length below
gates_few net [] below = omega arith
gates_few net (Constant v ∷ gates) below = let d = gates_few (net + 1) gates below in omega (arith, d)
gates_few net (One z o input ∷ gates) below = let d = gates_few (net + 1) gates below in omega (arith, d)
gates_few net (Two t00 t01 t10 t11 first second ∷ gates) below = let d = gates_few (net + 1) gates below in omega (arith, d)

inputs_few : (count net : ℕ) (below : List Row) → length (input_rows count net below) ≡ count + length below
inputs_few zero net below = omega arith
inputs_few (suc count) net below = let d = inputs_few count (net + 1) below in omega (arith, d)

-- at most three rows for a gate, and one for each input and output
pub rows_few : (N : NetlistOf) → length (rows_of N) ≤ N.inputs + 3 * length N.gates + length N.outputs
rows_few N =
    let a = inputs_few N.inputs 0 (gate_rows N.inputs N.gates (map Ends N.outputs)) in
    let b = gates_few N.inputs N.gates (map Ends N.outputs) in
    let l = length-map N.outputs Ends in omega (arith, a, b, l)

-- each output has a row
pub outputs_few : (N : NetlistOf) → length N.outputs ≤ length (rows_of N)
outputs_few N =
    let a = inputs_long N.inputs 0 (gate_rows N.inputs N.gates (map Ends N.outputs)) in
    let b = gates_long N.inputs N.gates (map Ends N.outputs) in
    let l = length-map N.outputs Ends in omega (arith, a, b, l)

pub outputs_within : (N : NetlistOf) → HasOutputs N → All (λ n. n < nets_of N) N.outputs
outputs_within N has = All-from_get_or (λ n. n < nets_of N) N.outputs 0 (λ i b. has i (get_or N.outputs i 0) (slice_get-get_or N.outputs i 0 b))

-- what is taken of all rows
pub all_taken : (N : NetlistOf) (a b c : Filled) (net : ℕ) → a ≡ filled nothing (input_rows N.inputs 0 []) → net ≡ N.inputs → b ≡ filled a (gate_rows net N.gates []) → c ≡ filled b (map Ends N.outputs) → c ≡ filled nothing (rows_of N)
all_taken N a b c net e n f g =
    g ∙ ap (λ (x : Filled). filled x (map Ends N.outputs)) (f ∙ ap (λ (k : ℕ). filled a (gate_rows k N.gates [])) n)
    ∙ sym (gates_then a N.inputs N.gates (map Ends N.outputs))
    ∙ ap (λ (x : Filled). filled x (gate_rows N.inputs N.gates (map Ends N.outputs))) e
    ∙ sym (inputs_then nothing N.inputs 0 (gate_rows N.inputs N.gates (map Ends N.outputs)))

-- the spans of tables of first and last rows
pub spans_map : (f g : ℕ → ℕ) (ns : List ℕ) → spans_of (map f ns) (map g ns) ≡ map (λ n. let s : Span = record { from = f n; to = g n } in s) ns
spans_map f g [] = refl
spans_map f g (n ∷ ns) = ap (λ (ss : List Span). (record { from = f n; to = g n }) ∷ ss) (spans_map f g ns)

pub spans_are : (N : NetlistOf) (source last : List ℕ) → source ≡ map (source_row N) (range_with_len 0 (nets_of N)) → last ≡ map (last_row N) (range_with_len 0 (nets_of N)) → spans_of source last ≡ net_spans N
spans_are N source last e f =
    ap (λ (xs : List ℕ). spans_of xs last) e
    ∙ ap (spans_of (map (source_row N) (range_with_len 0 (nets_of N)))) f
    ∙ spans_map (source_row N) (last_row N) (range_with_len 0 (nets_of N))
