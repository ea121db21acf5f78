use Rattle.std.proofs.Common.{◌≡◌, ◌<◌, ℕ, ◌+◌, ◌*◌, Some, List, [], length, map, vec_len, sym, ap, ◌∙◌, subst, arith}
use Rattle.std.specs.Prelude.{slice_get}
use Rattle.std.specs.List.{All}
use Rattle.surf_tiles.specs.declared.netlist.Gate.{Gate}
use Rattle.surf_tiles.specs.Netlists.{NetlistOf, nets_of, UsesBelow}
use Rattle.surf_place.specs.Drawing.{Ends, input_rows, gate_rows}
use Rattle.surf_place.specs.Filling.{Filled, nothing, filled, filled_of}
use Rattle.surf_place.proofs.Filled.{are_tables}
use Rattle.surf_place.proofs.Taking.{HasTaken, inputs_taken, gates_taken, outputs_few, outputs_within, all_taken}
use Rattle.surf_place.proofs.filling.fill.Goals as goal

-- after the inputs, and after the gates
after_inputs : (N : NetlistOf) (a : Filled) → a ≡ filled nothing (input_rows N.inputs 0 []) → HasTaken nothing a N.inputs N.inputs
after_inputs N a e = subst (λ (f : Filled). HasTaken nothing f N.inputs N.inputs) (sym e) (inputs_taken nothing N.inputs 0)

after_gates : (N : NetlistOf) (a b : Filled) (net : ℕ) → b ≡ filled a (gate_rows net N.gates []) → HasTaken a b (length N.gates) (3 * length N.gates)
after_gates N a b net e = subst (λ (f : Filled). HasTaken a f (length N.gates) (3 * length N.gates)) (sym e) (gates_taken a net N.gates)

begun_inputs : (N : NetlistOf) (f a : Filled) (count : ℕ) → f ≡ nothing → count ≡ N.inputs → a ≡ filled f (input_rows count 0 []) → a ≡ filled nothing (input_rows N.inputs 0 [])
begun_inputs N f a count e k h = h ∙ ap (λ (x : Filled). filled x (input_rows count 0 [])) e ∙ ap (λ (n : ℕ). filled nothing (input_rows n 0 [])) k

begun_gates : (N : NetlistOf) (a b : Filled) (net : ℕ) (gates : List Gate) → gates ≡ N.gates → b ≡ filled a (gate_rows net gates []) → b ≡ filled a (gate_rows net N.gates [])
begun_gates N a b net gates k h = h ∙ ap (λ (gs : List Gate). filled a (gate_rows net gs [])) k

pub add_gates-requires-clause-lower : goal.add_gates-requires-clause-lower
add_gates-requires-clause-lower c =
    let N = c.args.netlist.now in
    let a = filled_of c.add_inputs.new.self in
    let e = begun_inputs N (filled_of c.in_ok-rows.rows) a c.inputs-inputs.result c.in_ok-rows.ensures c.inputs-inputs.ensures.is c.in_ok-add_inputs.ensures in
    let t = after_inputs N a e in
    let n : N.inputs ≡ vec_len c.add_inputs.new.self.last = omega (arith, t.nets, c.add_inputs.new.self.last.ok.0) in
    λ j g h. subst (λ (k : ℕ). UsesBelow (k + j) g) n (c.requires.netlist.ordered j g (subst (λ (gs : List Gate). slice_get gs j ≡ Some g) c.gates-gates.ensures.is h))

pub add_gates-requires-clause-room : goal.add_gates-requires-clause-room
add_gates-requires-clause-room c =
    let N = c.args.netlist.now in
    let a = filled_of c.add_inputs.new.self in
    let e = begun_inputs N (filled_of c.in_ok-rows.rows) a c.inputs-inputs.result c.in_ok-rows.ensures c.inputs-inputs.ensures.is c.in_ok-add_inputs.ensures in
    let t = after_inputs N a e in
    let l = ap length c.gates-gates.ensures.is in
    omega (arith, t.rows, l, c.requires.few)

pub add_outputs-requires-clause-within : goal.add_outputs-requires-clause-within
add_outputs-requires-clause-within c =
    let N = c.args.netlist.now in
    let a = filled_of c.add_inputs.new.self in
    let e = begun_inputs N (filled_of c.in_ok-rows.rows) a c.inputs-inputs.result c.in_ok-rows.ensures c.inputs-inputs.ensures.is c.in_ok-add_inputs.ensures in
    let t = after_inputs N a e in
    let b = filled_of c.add_gates.new.self in
    let f = begun_gates N a b (vec_len c.add_inputs.new.self.last) c.gates-gates.result.now c.gates-gates.ensures.is c.in_ok-add_gates.ensures in
    let u = after_gates N a b (vec_len c.add_inputs.new.self.last) f in
    let n : nets_of N ≡ vec_len c.add_gates.new.self.last = omega (arith, t.nets, u.nets, c.add_gates.new.self.last.ok.0) in
    subst (λ (k : ℕ). All (λ m. m < k) c.outputs.result.now) n (subst (All (λ m. m < nets_of N)) (sym c.outputs.ensures.is) (outputs_within N c.requires.netlist.outputs))

pub add_outputs-requires-clause-room : goal.add_outputs-requires-clause-room
add_outputs-requires-clause-room c =
    let N = c.args.netlist.now in
    let a = filled_of c.add_inputs.new.self in
    let e = begun_inputs N (filled_of c.in_ok-rows.rows) a c.inputs-inputs.result c.in_ok-rows.ensures c.inputs-inputs.ensures.is c.in_ok-add_inputs.ensures in
    let t = after_inputs N a e in
    let b = filled_of c.add_gates.new.self in
    let f = begun_gates N a b (vec_len c.add_inputs.new.self.last) c.gates-gates.result.now c.gates-gates.ensures.is c.in_ok-add_gates.ensures in
    let u = after_gates N a b (vec_len c.add_inputs.new.self.last) f in
    let l = ap length c.outputs.ensures.is in
    let o = outputs_few N in
    omega (arith, t.rows, u.rows, l, o, c.requires.few, c.requires.rows)

pub returns-clause-rows : goal.returns-clause-rows
returns-clause-rows c =
    let N = c.args.netlist.now in
    let a = filled_of c.add_inputs.new.self in
    let e = begun_inputs N (filled_of c.in_ok-rows.rows) a c.inputs-inputs.result c.in_ok-rows.ensures c.inputs-inputs.ensures.is c.in_ok-add_inputs.ensures in
    let t = after_inputs N a e in
    let n : vec_len c.add_inputs.new.self.last ≡ N.inputs = omega (arith, t.nets, c.add_inputs.new.self.last.ok.0) in
    let b = filled_of c.add_gates.new.self in
    let f = begun_gates N a b (vec_len c.add_inputs.new.self.last) c.gates-gates.result.now c.gates-gates.ensures.is c.in_ok-add_gates.ensures in
    let g = c.add_outputs.ensures ∙ ap (λ (ns : List ℕ). filled b (map Ends ns)) c.outputs.ensures.is in
    let all = all_taken N a b (filled_of c.add_outputs.new.self) (vec_len c.add_inputs.new.self.last) e n f g in
    let tables = are_tables N c.requires.netlist in
    ap (λ (x : Filled). x.row) all ∙ tables.rows

pub returns-clause-sources : goal.returns-clause-sources
returns-clause-sources c =
    let N = c.args.netlist.now in
    let a = filled_of c.add_inputs.new.self in
    let e = begun_inputs N (filled_of c.in_ok-rows.rows) a c.inputs-inputs.result c.in_ok-rows.ensures c.inputs-inputs.ensures.is c.in_ok-add_inputs.ensures in
    let t = after_inputs N a e in
    let n : vec_len c.add_inputs.new.self.last ≡ N.inputs = omega (arith, t.nets, c.add_inputs.new.self.last.ok.0) in
    let b = filled_of c.add_gates.new.self in
    let f = begun_gates N a b (vec_len c.add_inputs.new.self.last) c.gates-gates.result.now c.gates-gates.ensures.is c.in_ok-add_gates.ensures in
    let g = c.add_outputs.ensures ∙ ap (λ (ns : List ℕ). filled b (map Ends ns)) c.outputs.ensures.is in
    let all = all_taken N a b (filled_of c.add_outputs.new.self) (vec_len c.add_inputs.new.self.last) e n f g in
    let tables = are_tables N c.requires.netlist in
    ap (λ (x : Filled). x.source) all ∙ tables.sources

pub returns-clause-lasts : goal.returns-clause-lasts
returns-clause-lasts c =
    let N = c.args.netlist.now in
    let a = filled_of c.add_inputs.new.self in
    let e = begun_inputs N (filled_of c.in_ok-rows.rows) a c.inputs-inputs.result c.in_ok-rows.ensures c.inputs-inputs.ensures.is c.in_ok-add_inputs.ensures in
    let t = after_inputs N a e in
    let n : vec_len c.add_inputs.new.self.last ≡ N.inputs = omega (arith, t.nets, c.add_inputs.new.self.last.ok.0) in
    let b = filled_of c.add_gates.new.self in
    let f = begun_gates N a b (vec_len c.add_inputs.new.self.last) c.gates-gates.result.now c.gates-gates.ensures.is c.in_ok-add_gates.ensures in
    let g = c.add_outputs.ensures ∙ ap (λ (ns : List ℕ). filled b (map Ends ns)) c.outputs.ensures.is in
    let all = all_taken N a b (filled_of c.add_outputs.new.self) (vec_len c.add_inputs.new.self.last) e n f g in
    let tables = are_tables N c.requires.netlist in
    ap (λ (x : Filled). x.last) all ∙ tables.lasts
