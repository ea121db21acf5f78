-- The netlist of a circuit can be drawn.
use Rattle.std.proofs.Common.{Bool, ℕ, zero, suc, ◌≡◌, ◌+◌, ◌*◌, ◌<◌, ◌≤◌, List, [], ◌∷◌, map, length, Option, Some, None, nat_eq, sym, ◌∙◌, ap, arith, subst}
use Rattle.std.specs.Option.{option_map}
use Rattle.std.proofs.lemmas.List.{length-map}
use Rattle.surf_tiles.specs.declared.netlist.Gate.{Gate}
use Rattle.surf_tiles.specs.declared.netlist.Gate.TheVariants.{Constant, One, Two}
use Rattle.surf_tiles.specs.Netlists.{NetlistOf}
use Rattle.surf_logic.specs.Equations.{Numbered}
use Rattle.surf_logic.specs.Order.{DeclaredTwice, DrivenTwice, Undriven, or_else, declared_twice, driven_twice, undriven, no_outputs, IsCircuit}
use Rattle.surf_place.specs.Drawing.{Row, Ends, input_rows, gate_rows, rows_of}
use Rattle.surf_netlist.specs.Circuits.{gates_of, nets_from, input_nets, outputs_at}
use Rattle.surf_logic.specs.Answers.{IsEval}
use Rattle.surf_settle.specs.Law.{Plan}
use Rattle.surf_circuit.specs.Surfaces.{Decomposes}
use Rattle.surf_circuit.specs.Compiled.{IsDrawn}

inputs_rows : (count net : ℕ) (below : List Row) → length (input_rows count net below) ≡ count + length below
inputs_rows zero net below = omega arith
inputs_rows (suc count) net below = omega (arith, inputs_rows count (net + 1) below)

gates_rows : (net : ℕ) (gates : List Gate) (below : List Row) → length (gate_rows net gates below) ≤ 3 * length gates + length below
gates_rows net [] below = omega arith
gates_rows net (Constant v ∷ gates) below = omega (arith, gates_rows (net + 1) gates below)
gates_rows net (One z o input ∷ gates) below = omega (arith, gates_rows (net + 1) gates below)
gates_rows net (Two t00 t01 t10 t11 first second ∷ gates) below = omega (arith, gates_rows (net + 1) gates below)

pub few_rows : (N : NetlistOf) → N.inputs + length N.gates + length N.outputs ≤ 1000 → length (rows_of N) ≤ 3000
few_rows N few =
    let ends = length-map N.outputs Ends in
    let gates = gates_rows N.inputs N.gates (map Ends N.outputs) in
    let inputs = inputs_rows N.inputs 0 (gate_rows N.inputs N.gates (map Ends N.outputs)) in
    omega (arith, few, ends, gates, inputs)

-- parts without a fault have an output
nothing_else : {X : Type 0} (a b : Option X) → or_else a b ≡ None → b ≡ None
nothing_else None b h = h
nothing_else (Some x) b h = cc

some_output : (ns : List ℕ) → no_outputs ns ≡ None → 0 < length ns
some_output [] h = cc
some_output (n ∷ ns) h = omega arith

pub has_output : (c : Numbered) → IsCircuit c → 0 < length (gates_of c.parts).outputs
has_output c circuit =
    let missing = option_map Undriven (undriven nat_eq c.parts) in
    let driven = option_map DrivenTwice (driven_twice nat_eq c.parts) in
    let declared = option_map DeclaredTwice (declared_twice nat_eq c.parts) in
    let last = no_outputs c.parts.outputs in
    let none = nothing_else missing last (nothing_else driven (or_else missing last) (nothing_else declared (or_else driven (or_else missing last)) circuit.no_fault)) in
    omega (arith, some_output c.parts.outputs none, length-map c.parts.outputs (nets_from (length c.parts.inputs) (input_nets 0 c.parts.inputs) c.parts.equations))

-- the gates have the inputs and the outputs of the circuit
decomposed : (c : Numbered) (N : NetlistOf) → N ≡ gates_of c.parts → ((bits : List Bool) → length bits ≡ N.inputs → IsEval c bits (outputs_at N bits)) → Decomposes N c
decomposed c N is values = record {
  inputs = ap (λ (n : NetlistOf). n.inputs) is;
  outputs = ap (λ (n : NetlistOf). length n.outputs) is ∙ length-map c.parts.outputs (nets_from (length c.parts.inputs) (input_nets 0 c.parts.inputs) c.parts.equations);
  values = values;
}

pub decomposed_layout : (c : Numbered) (N : NetlistOf) (L : Plan) → N ≡ gates_of c.parts → ((bits : List Bool) → length bits ≡ N.inputs → IsEval c bits (outputs_at N bits)) → IsDrawn N L → Decomposes L.netlist c
decomposed_layout c N L is values drawn = subst (λ (n : NetlistOf). Decomposes n c) (sym (ap (λ (l : Plan). l.netlist) drawn.drawn)) (decomposed c N is values)
