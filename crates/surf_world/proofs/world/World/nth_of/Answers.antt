use Rattle.std.proofs.Common.{rules, arith, ap, sum_by}
use Rattle.std.proofs.lemmas.List.{take_all}
use Rattle.surf_world.specs.Picks.{rate_at}
use Rattle.surf_world.proofs.Sums.{known_at, rule_more, rule_picked, picked_event, sum_of_events}
use Rattle.surf_world.proofs.world.World.nth_of.Goals as goal

pub rule-requires : goal.rule-requires
rule-requires g c = known_at c.book-book.result.now c.args.self.now.surface.rules c.book-book.ensures.rules c.args.numbers.now c.loop-number.number-index c.requires c.loop-number-test.true

pub returns-then-rest-rate : goal.returns-then-rest-rate
returns-then-rest-rate g c =
    picked_event c.args.self.now.surface c.args.first c.args.second c.args.numbers.now c.args.r _
    (rule_picked c.book-book.result.now c.args.self.now.surface.rules c.book-book.ensures.rules c.args.numbers.now c.loop-number.number-index c.rule.result.now c.loop-number.rest c.args.r c.loop-number-test.true c.rule.ensures.value c.loop-number.invariant
    (omega (arith, c.if-rest-rate.true, c.from-rate.ensures)))

pub loop-number-preserved : goal.loop-number-preserved
loop-number-preserved g c =
    let more = rule_more c.book-book.result.now c.args.self.now.surface.rules c.book-book.ensures.rules c.args.numbers.now c.loop-number.number-index c.rule.result.now c.loop-number-test.true c.rule.ensures.value in
    omega (arith, more, c.loop-number.invariant, c.from-rate.ensures, c.if-rest-rate.false)

pub returns : goal.returns
returns g c =
    let all = ap (sum_by (rate_at c.args.self.now.surface.rules)) (take_all c.loop-number.number-index c.args.numbers.now (search rules)) in
    omega (arith, all, sum_of_events c.args.self.now.surface c.args.first c.args.second c.args.numbers.now, c.loop-number.invariant)
