use Rattle.std.proofs.Common.{◌+◌, arith}
use Rattle.surf_sync.proofs.Few.{few_degree, rules_fit}
use Rattle.surf_sync.proofs.rules.phase_rules.Goals as goal

pub overflow_mul-result-3 : goal.overflow_mul-result-3
overflow_mul-result-3 g c =
    let R = g.L.Local.rule c.args.local.now in
    let number = c.degree.ensures.number in
    let small = few_degree R.degree c.degree.ensures.law.known in
    let f = rules_fit c.from.result (c.from-colours.result + 1) c.from-codes.result c.from-next.result (omega arith) (omega arith) (omega arith) (omega arith) in
    omega arith

pub returns-clause-few : goal.returns-clause-few
returns-clause-few g c =
    let R = g.L.Local.rule c.args.local.now in
    let number = c.degree.ensures.number in
    let small = few_degree R.degree c.degree.ensures.law.known in
    let f = rules_fit c.from.result (c.from-colours.result + 1) c.from-codes.result c.from-next.result (omega arith) (omega arith) (omega arith) (omega arith) in
    f
