use Rattle.std.specs.List.{sum_by}
use Rattle.std.specs.Option.{option_map_or}
use Rattle.std.proofs.Common.{◌≡◌, ◌+◌, ap, arith, length}
use Rattle.std.proofs.lemmas.List.Sums.{sum_by_more, sum_by-take-le}
use Rattle.surf_rules.specs.declared.rule.Rule.{Rule}
use Rattle.surf_rules.specs.Books.{is_pair, rate_in}
use Rattle.surf_rules.specs.Sums.{sum_among}
use Rattle.surf_rules.proofs.Totals.{sum_small, pair_known}
use Rattle.surf_rules.proofs.listed.ListedRules.pair_sum.Goals as goal

pub rule-requires : goal.rule-requires
rule-requires c = pair_known c.args.self.now c.args.a c.args.b c.pair-numbers.result.now c.loop-place.place c.pair-numbers.ensures c.loop-place-test.true

pub overflow_add-sum : goal.overflow_add-sum
overflow_add-sum c =
    let rate = rate_in c.args.self.now in
    let numbers = c.pair-numbers.result.now in
    let more = sum_by_more (rate_in c.args.self.now) c.pair-numbers.result.now c.loop-place.place 0 c.loop-place-test.true in
    let here = ap (λ o. option_map_or (λ (r : Rule). r.rate) o 0) c.rule.ensures.value in
    let part = sum_by-take-le (rate_in c.args.self.now) c.pair-numbers.result.now (c.loop-place.place + 1) in
    let whole : sum_by (rate_in c.args.self.now) c.pair-numbers.result.now ≡ sum_among c.args.self.now (is_pair c.args.a c.args.b) (length c.args.self.now) = ap (sum_by (rate_in c.args.self.now)) c.pair-numbers.ensures in
    let small = sum_small c.args.self.now (is_pair c.args.a c.args.b) (length c.args.self.now) c.len-rule_count.ensures.rates (omega arith) in
    omega (arith, c.loop-place.invariant, more, here, part, whole, small, c.len-rule_count.ensures.bound, c.len-rule_count.ensures.count)
