use Rattle.std.proofs.Common.{◌≡◌, ◌≤◌, ◌+◌, ◌++◌, ℕ, List, Bool, length, map, take, drop, sym, ap, ◌∙◌, subst, arith}
use Rattle.std.proofs.Math.Seq.{take-append_seam}
use Rattle.surf_logic.specs.Equations.{cost_of}
use Rattle.surf_logic.specs.Answers.{IsEval}
use Rattle.surf_tiles.specs.declared.netlist.Gate.{Gate}
use Rattle.surf_tiles.specs.Netlists.{NetlistOf, IsNetlist}
use Rattle.surf_netlist.specs.Circuits.{input_nets, outputs_at}
use Rattle.surf_netlist.specs.Making.{net_at}
use Rattle.surf_netlist.proofs.Meaning.{outputs_eval}
use Rattle.surf_netlist.proofs.Lower.{gates_are_netlist}
use Rattle.surf_netlist.proofs.Costs.{gates_cost, gates_count}
use Rattle.surf_netlist.proofs.Tables.{netlist_is}
use Rattle.surf_netlist.proofs.nets.decompose.Goals as goal

-- a table that was written over as a slice
written : (new old : List ℕ) (n : ℕ) → n ≡ length new → take n (new ++ drop (length new) old) ≡ new
written new old n e = ap (λ (k : ℕ). take k (new ++ drop (length new) old)) e ∙ take-append_seam new (drop (length new) old)

pub invariant_of-result : goal.invariant_of-result
invariant_of-result c =
    let p = c.args.circuit.now.parts in
    let long : c.in_ok-nets.nets.len ≡ length c.list_gates.new.nets = omega (arith, c.list_gates.ensures.length, c.deref_mut.ensures.len, c.in_ok-nets.nets.ok.0, ap length c.deref_mut.ensures.value) in
    let table : c.deref.result.now ≡ c.list_gates.new.nets = c.deref.ensures.value ∙ written c.list_gates.new.nets c.in_ok-nets.nets.items c.in_ok-nets.nets.len long in
    let outputs = c.in_ok-outputs.ensures ∙ ap (λ (t : List ℕ). map (net_at t) c.outputs.result.now) table ∙ ap (map (net_at c.list_gates.new.nets)) c.outputs.ensures ∙ c.in_ok-list.ensures.nets in
    let is = netlist_is p c.in_ok-list.list.inputs c.in_ok-list.list.gates.items c.in_ok-outputs.outputs.items c.in_ok-list.ensures.inputs c.in_ok-list.ensures.gates outputs in
    subst IsNetlist (sym is) (gates_are_netlist c.args.circuit.now c.list_gates.ensures.circuit)

pub returns-clause-values : goal.returns-clause-values
returns-clause-values c =
    let p = c.args.circuit.now.parts in
    let long : c.in_ok-nets.nets.len ≡ length c.list_gates.new.nets = omega (arith, c.list_gates.ensures.length, c.deref_mut.ensures.len, c.in_ok-nets.nets.ok.0, ap length c.deref_mut.ensures.value) in
    let table : c.deref.result.now ≡ c.list_gates.new.nets = c.deref.ensures.value ∙ written c.list_gates.new.nets c.in_ok-nets.nets.items c.in_ok-nets.nets.len long in
    let outputs = c.in_ok-outputs.ensures ∙ ap (λ (t : List ℕ). map (net_at t) c.outputs.result.now) table ∙ ap (map (net_at c.list_gates.new.nets)) c.outputs.ensures ∙ c.in_ok-list.ensures.nets in
    let is = netlist_is p c.in_ok-list.list.inputs c.in_ok-list.list.gates.items c.in_ok-outputs.outputs.items c.in_ok-list.ensures.inputs c.in_ok-list.ensures.gates outputs in
    subst (λ (M : NetlistOf). (bits : List Bool) → length bits ≡ M.inputs → IsEval c.args.circuit.now bits (outputs_at M bits)) (sym is) (λ bits len. outputs_eval c.args.circuit.now bits c.list_gates.ensures.circuit len)

pub returns-clause-lower : goal.returns-clause-lower
returns-clause-lower c =
    let p = c.args.circuit.now.parts in
    let long : c.in_ok-nets.nets.len ≡ length c.list_gates.new.nets = omega (arith, c.list_gates.ensures.length, c.deref_mut.ensures.len, c.in_ok-nets.nets.ok.0, ap length c.deref_mut.ensures.value) in
    let table : c.deref.result.now ≡ c.list_gates.new.nets = c.deref.ensures.value ∙ written c.list_gates.new.nets c.in_ok-nets.nets.items c.in_ok-nets.nets.len long in
    let outputs = c.in_ok-outputs.ensures ∙ ap (λ (t : List ℕ). map (net_at t) c.outputs.result.now) table ∙ ap (map (net_at c.list_gates.new.nets)) c.outputs.ensures ∙ c.in_ok-list.ensures.nets in
    let is = netlist_is p c.in_ok-list.list.inputs c.in_ok-list.list.gates.items c.in_ok-outputs.outputs.items c.in_ok-list.ensures.inputs c.in_ok-list.ensures.gates outputs in
    subst IsNetlist (sym is) (gates_are_netlist c.args.circuit.now c.list_gates.ensures.circuit)

pub returns-clause-count : goal.returns-clause-count
returns-clause-count c =
    let p = c.args.circuit.now.parts in
    ap (λ (gs : List Gate). length gs) c.in_ok-list.ensures.gates ∙ gates_count (length c.args.circuit.now.names) (length p.inputs) (input_nets 0 p.inputs) p.equations c.list_gates.ensures.circuit.in_range.equations

pub returns-clause-cost : goal.returns-clause-cost
returns-clause-cost c =
    let p = c.args.circuit.now.parts in
    let long : c.in_ok-nets.nets.len ≡ length c.list_gates.new.nets = omega (arith, c.list_gates.ensures.length, c.deref_mut.ensures.len, c.in_ok-nets.nets.ok.0, ap length c.deref_mut.ensures.value) in
    let table : c.deref.result.now ≡ c.list_gates.new.nets = c.deref.ensures.value ∙ written c.list_gates.new.nets c.in_ok-nets.nets.items c.in_ok-nets.nets.len long in
    let outputs = c.in_ok-outputs.ensures ∙ ap (λ (t : List ℕ). map (net_at t) c.outputs.result.now) table ∙ ap (map (net_at c.list_gates.new.nets)) c.outputs.ensures ∙ c.in_ok-list.ensures.nets in
    let is = netlist_is p c.in_ok-list.list.inputs c.in_ok-list.list.gates.items c.in_ok-outputs.outputs.items c.in_ok-list.ensures.inputs c.in_ok-list.ensures.gates outputs in
    subst (λ (M : NetlistOf). M.inputs + length M.gates + length M.outputs ≤ cost_of p) (sym is) (gates_cost p)
