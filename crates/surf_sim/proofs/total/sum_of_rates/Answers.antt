use Rattle.std.proofs.Common.{rules, arith, ap, sum_by, ◌∙◌}
use Rattle.std.proofs.lemmas.List.{take_all}
use Rattle.surf_world.specs.Worlds.{rule_of}
use Rattle.surf_sim.proofs.Totals.{rate_more, whole_rates}
use Rattle.surf_sim.proofs.total.sum_of_rates.Goals as goal

pub loop-number-preserved : goal.loop-number-preserved
loop-number-preserved g c =
    let more = rate_more (λ r. (rule_of r).rate) c.book-book.result.now c.loop-number.number c.rule.result.now c.rule.ensures.value in
    record {
      sum = omega (arith, more, c.loop-number.invariant.sum, c.from-sum.ensures);
      bound = omega (arith, c.loop-number.invariant.bound, c.from-sum.ensures, c.rule.ensures.rate);
    }

pub returns-clause-sum : goal.returns-clause-sum
returns-clause-sum g c =
    c.loop-number.invariant.sum ∙ ap (sum_by (λ r. (rule_of r).rate)) (take_all c.loop-number.number c.book-book.result.now (search rules))
    ∙ whole_rates rule_of c.book-book.result.now c.args.world.now.surface c.book-book.ensures.rules
