use Rattle.std.proofs.Common.{arith, ◌≤◌, length}
use Rattle.surf_table.proofs.Sizes.{few_directions, rules_fit}
use Rattle.surf_table.proofs.head.rule_count.Goals as goal

pub overflow_mul-result-3 : goal.overflow_mul-result-3
overflow_mul-result-3 c =
    let d : c.from-degree.result ≤ 6 = omega (arith, few_directions c.args.degree c.requires.known, c.from-degree.ensures) in
    let g : c.from.result ≤ 255 = omega (arith, c.from.ensures, c.heaviest.ensures, c.requires.light) in
    omega (arith, rules_fit c.from-degree.result (length c.args.weights.now) c.from.result d c.requires.few g)
