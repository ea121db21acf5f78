use Rattle.std.proofs.Common.{◌≡◌, ℕ, Bool, List, vec_len, ◌+◌, ◌≤◌, ◌++◌, None, ◌∷◌, [], map, take, drop, length, sym, ap, ◌∙◌, arith}
use Rattle.std.specs.Prelude.{sum}
use Rattle.surf_logic.specs.Equations.{row_cost}
use Rattle.surf_tiles.specs.declared.netlist.Gate.{Gate}
use Rattle.surf_netlist.specs.Gates.{signed_row, gates_of_equation, finished}
use Rattle.surf_netlist.specs.Making.{Making, net_at}
use Rattle.surf_netlist.proofs.Growing.{or_grows}
use Rattle.surf_netlist.proofs.Ending.{constant_added, finished_added}
use Rattle.surf_netlist.proofs.Costs.{or_few}
use Rattle.surf_netlist.proofs.gate_list.GateList.add.Goals as goal

pub cover-requires-clause-room : goal.cover-requires-clause-room
cover-requires-clause-room c =
    let few = or_few (net_at c.args.nets.now) c.inputs.result.now c.args.self.now.inputs c.args.self.now.gates.items None c.rows-rows.result.now in
    let is = rw c.rows-rows.ensures at few in
    rw c.rows-rows.ensures (omega (arith, is, c.requires.room, c.args.self.now.gates.ok.0))

pub finish-requires-clause-begun : goal.finish-requires-clause-begun
finish-requires-clause-begun c =
    let f = signed_row (net_at c.args.nets.now) c.inputs.result.now in
    let grows = or_grows c.args.self.now.inputs c.args.self.now.gates.items None (map f c.rows-rows.result.now) in
    let is = ap (λ (m : Making). length m.gates) c.in_ok-cover.ensures.is in
    omega (arith, grows, is, c.args.self.now.gates.ok.0, c.cover.new.self.gates.ok.0)

pub finish-requires-clause-room : goal.finish-requires-clause-room
finish-requires-clause-room c =
    let few = or_few (net_at c.args.nets.now) c.inputs.result.now c.args.self.now.inputs c.args.self.now.gates.items None c.rows-rows.result.now in
    let is = ap (λ (m : Making). length m.gates) c.in_ok-cover.ensures.is in
    let all : length c.cover.new.self.gates.items ≤ length c.args.self.now.gates.items + sum (map row_cost c.args.equation.now.rows) =
    rw (← c.rows-rows.ensures) (omega (arith, few, is)) in
    omega (arith, all, c.requires.room, c.args.self.now.gates.ok.0, c.cover.new.self.gates.ok.0, c.cover.ensures.inputs)

pub returns-in_ok-push-in-None-clause-gates : goal.returns-in_ok-push-in-None-clause-gates
returns-in_ok-push-in-None-clause-gates c =
    let old = c.args.self.now.gates in
    let q = c.args.equation.now in
    let now = c.cover.new.self.gates.items in
    let f = signed_row (net_at c.args.nets.now) q.inputs in
    let is = rw (c.rows-rows.ensures, c.inputs.ensures) at c.in_ok-cover.ensures.is in
    let long : length old.items ≡ vec_len old = omega (arith, old.ok.0) in
    let all = constant_added f c.args.self.now.inputs old.items q.rows q.polarity now c.in_ok-cover.field-0 is c.in-None.is in
    c.in_ok-push-in-None.ensures.gates
    ∙ ap (λ (gs : List Gate). gs ++ c.constant.result ∷ []) (c.truncate.ensures.items ∙ ap (λ (n : ℕ). take n now) (c.len-start.ensures ∙ sym long))
    ∙ ap (λ (g : Gate). take (length old.items) now ++ g ∷ []) c.constant.ensures
    ∙ all
    ∙ ap (λ (n : ℕ). old.items ++ gates_of_equation (c.args.self.now.inputs + n) (net_at c.args.nets.now) q) long

pub returns-in_ok-finish-in-Some-clause-gates : goal.returns-in_ok-finish-in-Some-clause-gates
returns-in_ok-finish-in-Some-clause-gates c =
    let old = c.args.self.now.gates in
    let q = c.args.equation.now in
    let now = c.cover.new.self.gates.items in
    let f = signed_row (net_at c.args.nets.now) q.inputs in
    let is = rw (c.rows-rows.ensures, c.inputs.ensures) at c.in_ok-cover.ensures.is in
    let long : length old.items ≡ vec_len old = omega (arith, old.ok.0) in
    let all = finished_added f c.args.self.now.inputs old.items q.rows q.polarity now c.in_ok-cover.field-0 c.in-Some.input is c.in-Some.is in
    c.in_ok-finish-in-Some.ensures.gates
    ∙ ap (λ (n : ℕ). take n now ++ finished c.polarity.result (drop n now) c.in-Some.input) (c.len-start.ensures ∙ sym long)
    ∙ ap (λ (b : Bool). take (length old.items) now ++ finished b (drop (length old.items) now) c.in-Some.input) c.polarity.ensures
    ∙ all
    ∙ ap (λ (n : ℕ). old.items ++ gates_of_equation (c.args.self.now.inputs + n) (net_at c.args.nets.now) q) long
