use Rattle.std.proofs.Common.{◌≡◌, ℕ, ◌+◌, ◌-◌, ◌<◌, ◌++◌, List, ◌∷◌, length, drop, get_or, vec_len, sym, ap, ◌∙◌, subst, arith}
use Rattle.std.proofs.Math.ListN.{set}
use Rattle.std.proofs.lemmas.List.{drop_more}
use Rattle.std.proofs.lemmas.List.Elements.{All-get_or}
use Rattle.surf_logic.specs.Order.{EquationInRange}
use Rattle.surf_logic.specs.Equations.{EquationOf}
use Rattle.surf_netlist.specs.Circuits.{gates_from, nets_from}
use Rattle.surf_netlist.specs.Gates.{gates_of_equation}
use Rattle.surf_netlist.specs.Making.{net_at}
use Rattle.surf_netlist.proofs.Tables.{AllAre, has_grown, next_added}
use Rattle.surf_netlist.proofs.gate_list.GateList.add_all.Goals as goal

pub overflow_cast-nets : goal.overflow_cast-nets
overflow_cast-nets c =
    let l = c.loop-equation in
    let at : c.equation-item.result ≡ get_or c.args.equations.now l.equation-index c.equation-item.result = c.equation-item.is in
    let g = has_grown l.self.inputs l.self.gates.items c.add.new.self.gates.items (vec_len l.self.gates) (net_at l.nets) c.args.equations.now l.equation-index c.equation-item.result 4294967296 c.loop-equation-test.true at (omega (arith, l.self.gates.ok.0)) c.in_ok-add.ensures.gates l.invariant.room in
    omega (arith, g, c.len.ensures, c.add.new.self.gates.ok.0)

pub overflow_add-nets : goal.overflow_add-nets
overflow_add-nets c =
    let l = c.loop-equation in
    let at : c.equation-item.result ≡ get_or c.args.equations.now l.equation-index c.equation-item.result = c.equation-item.is in
    let g = has_grown l.self.inputs l.self.gates.items c.add.new.self.gates.items (vec_len l.self.gates) (net_at l.nets) c.args.equations.now l.equation-index c.equation-item.result 4294967296 c.loop-equation-test.true at (omega (arith, l.self.gates.ok.0)) c.in_ok-add.ensures.gates l.invariant.room in
    omega (arith, g, c.len.ensures, c.add.new.self.gates.ok.0, c.add.ensures.inputs)

pub overflow_sub-nets : goal.overflow_sub-nets
overflow_sub-nets c =
    let l = c.loop-equation in
    let at : c.equation-item.result ≡ get_or c.args.equations.now l.equation-index c.equation-item.result = c.equation-item.is in
    let g = has_grown l.self.inputs l.self.gates.items c.add.new.self.gates.items (vec_len l.self.gates) (net_at l.nets) c.args.equations.now l.equation-index c.equation-item.result 4294967296 c.loop-equation-test.true at (omega (arith, l.self.gates.ok.0)) c.in_ok-add.ensures.gates l.invariant.room in
    omega (arith, g, c.len.ensures, c.add.new.self.gates.ok.0)

pub loop-equation-preserved : goal.loop-equation-preserved
loop-equation-preserved c =
    let l = c.loop-equation in
    let qs = c.args.equations.now in
    let i = l.equation-index in
    let q = c.equation-item.result in
    let at : q ≡ get_or qs i q = c.equation-item.is in
    let long : vec_len l.self.gates ≡ length l.self.gates.items = omega (arith, l.self.gates.ok.0) in
    let now = c.add.new.self.gates.items in
    let n = c.add.new.self.inputs + c.len.result - 1 in
    let g = has_grown l.self.inputs l.self.gates.items now (vec_len l.self.gates) (net_at l.nets) qs i q 4294967296 c.loop-equation-test.true at long c.in_ok-add.ensures.gates l.invariant.room in
    let d : drop i qs ≡ q ∷ drop (i + 1) qs = drop_more qs i q c.loop-equation-test.true ∙ ap (λ (r : EquationOf ℕ). r ∷ drop (i + 1) qs) (sym at) in
    let all = c.args.self.now.gates.items ++ gates_from (c.args.self.now.inputs + vec_len c.args.self.now.gates) (net_at c.args.nets.now) qs in
    let named = nets_from (c.args.self.now.inputs + vec_len c.args.self.now.gates) (net_at c.args.nets.now) qs in
    let are = subst (λ (rs : List (EquationOf ℕ)). AllAre l.self.inputs l.self.gates.items l.nets rs all named) d l.invariant.are in
    let is : now ≡ l.self.gates.items ++ gates_of_equation (l.self.inputs + length l.self.gates.items) (net_at l.nets) q =
    c.in_ok-add.ensures.gates ∙ ap (λ (k : ℕ). l.self.gates.items ++ gates_of_equation (l.self.inputs + k) (net_at l.nets) q) long in
    let last : n ≡ l.self.inputs + length now - 1 = omega (arith, c.len.ensures, c.add.new.self.gates.ok.0, c.add.ensures.inputs) in
    let fits : EquationInRange (length c.args.nets.now) q = subst (EquationInRange (length c.args.nets.now)) (sym at) (All-get_or (EquationInRange (length c.args.nets.now)) qs i q c.loop-equation-test.true c.requires.range) in
    let within : q.output < length l.nets = (let o = fits.output in let s = l.auto.nets in omega (arith, o, s)) in
    let next = next_added l.self.inputs l.self.gates.items l.nets q (drop (i + 1) qs) all named now n within is last are in
    record {
      same = c.add.ensures.inputs ∙ l.invariant.same;
      are = subst (λ (k : ℕ). AllAre k now (set l.nets c.output.result n) (drop (i + 1) qs) all named) (sym c.add.ensures.inputs)
          (subst (λ (o : ℕ). AllAre l.self.inputs now (set l.nets o n) (drop (i + 1) qs) all named) (sym c.output.ensures) next);
      room = omega (arith, g, c.add.ensures.inputs, c.add.new.self.gates.ok.0);
    }
