use Rattle.std.proofs.Common.{◌≡◌, ◌<◌, ◌+◌, ◌++◌, ℕ, None, List, [], length, replicate, vec_len, nat_eq, ap, ◌∙◌, arith}
use Rattle.std.specs.List.{All}
use Rattle.surf_logic.specs.Equations.{EquationOf}
use Rattle.surf_logic.specs.Order.{first_twice}
use Rattle.surf_logic.proofs.Evaluating.{sound}
use Rattle.surf_netlist.specs.Circuits.{gates_from, nets_from}
use Rattle.surf_netlist.specs.Making.{numbered, net_at}
use Rattle.surf_netlist.proofs.Tables.{AreGates, are_gates}
use Rattle.surf_netlist.proofs.nets.list_gates.Goals as goal

-- what is made is what the definition says
made : (c : goal.In_ok-add_all) → AreGates c.args.circuit.now.parts c.in_ok-list.list.inputs c.add_all.new.self.gates.items c.add_all.new.nets
made c =
    let p = c.args.circuit.now.parts in
    let count = length c.args.circuit.now.names in
    let is = c.inputs-inputs.ensures.circuit in
    let list = c.in_ok-list.list in
    let once : first_twice nat_eq [] p.inputs ≡ None = (sound nat_eq p is.no_fault).inputs_once in
    let within : All (λ m. m < count) p.inputs = is.in_range.inputs in
    let numbered_is : c.number.new.nets ≡ numbered (replicate count 0) 0 p.inputs =
    c.number.ensures.is ∙ ap (λ (xs : List ℕ). numbered xs 0 c.inputs-inputs.result.now) c.requires.none ∙ ap (numbered (replicate count 0) 0) c.inputs-inputs.ensures.is in
    let as_many : list.inputs ≡ length p.inputs = c.in_ok-list.ensures.inputs ∙ ap length c.inputs-inputs.ensures.is in
    are_gates p count list.inputs (vec_len list.gates) c.number.new.nets c.add_all.new.nets list.gates.items c.add_all.new.self.gates.items once within numbered_is c.in_ok-list.ensures.gates (omega (arith, list.gates.ok.0)) as_many
    (c.in_ok-add_all.ensures.gates ∙ ap (λ (qs : List (EquationOf ℕ)). list.gates.items ++ gates_from (list.inputs + vec_len list.gates) (net_at c.number.new.nets) qs) c.equations.ensures.is)
    (c.in_ok-add_all.ensures.nets ∙ ap (nets_from (list.inputs + vec_len list.gates) (net_at c.number.new.nets)) c.equations.ensures.is)

pub returns-clause-gates : goal.returns-clause-gates
returns-clause-gates c = (made c).gates_are

pub returns-clause-nets : goal.returns-clause-nets
returns-clause-nets c = (made c).outputs_are
