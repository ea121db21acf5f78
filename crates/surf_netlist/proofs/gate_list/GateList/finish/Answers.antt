use Rattle.std.proofs.Common.{◌≡◌, ◌-◌, ◌<◌, length, get_or, arith}
use Rattle.std.proofs.lemmas.Grind.{common_steps}
use Rattle.surf_netlist.proofs.Ending.{finished_by_write, finished_as_is}
use Rattle.surf_netlist.proofs.gate_list.GateList.finish.Goals as goal

pub returns-then-not-polarity-clause-gates : goal.returns-then-not-polarity-clause-gates
returns-then-not-polarity-clause-gates c =
    let gates = c.args.self.now.gates.items in
    let within : c.args.start < length gates = omega (arith, c.args.self.now.gates.ok.0) in
    let count : c.len-count.result ≡ length gates = omega (arith, c.args.self.now.gates.ok.0) in
    let at : c.index.result.now ≡ get_or gates (length gates - 1) c.index.result.now = grind (arith, common_steps) in
    let is = finished_by_write gates c.args.start c.index.result.now c.args.input within at in
    cc (count, is, c.complement.ensures, c.if-not-polarity.true)

pub returns-else-not-polarity-clause-gates : goal.returns-else-not-polarity-clause-gates
returns-else-not-polarity-clause-gates c =
    let gates = c.args.self.now.gates.items in
    let within : c.args.start < length gates = omega (arith, c.args.self.now.gates.ok.0) in
    let is = finished_as_is gates c.args.start c.args.input within in
    cc (is, c.if-not-polarity.false)
