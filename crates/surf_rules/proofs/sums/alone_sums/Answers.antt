use Rattle.std.specs.Prelude.{slice_index, slice_set}
use Rattle.std.proofs.Common.{ℕ, ◌≡◌, ◌<◌, ◌≤◌, ◌+◌, ◌∙◌, ap, sym, arith, cond, is_none, length, Some, slice_get, length-set}
use Rattle.std.proofs.lemmas.Option.{slice_get-get_or}
use Rattle.surf_rules.specs.declared.rule.Rule.{Rule}
use Rattle.surf_rules.specs.Books.{is_alone}
use Rattle.surf_rules.specs.Sums.{sum_among}
use Rattle.surf_rules.proofs.Totals.{read_at, sum_more, sum_small, slot_more, cond_le, alone_here, alone_other}
use Rattle.surf_rules.proofs.sums.alone_sums.Goals as goal

pub overflow_add-sum : goal.overflow_add-sum
overflow_add-sum c =
    let rule : Rule = c.index-rules-place.result in
    let left : ℕ = rule.left in
    let lt : rule.left < length c.loop-place.sums.items = omega (arith, c.requires.names c.loop-place.place rule c.loop-place-test.true, ap (λ (x : Rule). x.left) c.index-rules-place.is, c.loop-place.invariant.long) in
    let sum : c.index-sum.result.now ≡ slice_index c.loop-place.sums.items rule.left = read_at c.loop-place.sums.items rule.left c.index-sum.result.now 0 lt c.index-sum.ensures in
    let small = sum_small c.args.rules.now (is_alone rule.left) c.loop-place.place c.requires.rates (omega (arith, c.loop-place-test.true)) in
    let rate : rule.rate ≤ 1000000000000 = omega (arith, c.requires.rates c.loop-place.place rule c.loop-place-test.true, ap (λ (x : Rule). x.rate) c.index-rules-place.is) in
    omega (arith, sum, c.loop-place.invariant.at rule.left, small, c.alone_rate-rate.ensures, cond_le (is_none rule.right) rule.rate 1000000000000 rate, c.loop-place-test.true, c.requires.few)

pub loop-place-preserved : goal.loop-place-preserved
loop-place-preserved c =
    let rule : Rule = c.index-rules-place.result in
    let at_rule : slice_get c.args.rules.now c.loop-place.place ≡ Some rule = slice_get-get_or c.args.rules.now c.loop-place.place rule c.loop-place-test.true ∙ ap (λ (v : Rule). Some v) (sym c.index-rules-place.is) in
    let lt : rule.left < length c.loop-place.sums.items = omega (arith, c.requires.names c.loop-place.place rule c.loop-place-test.true, ap (λ (x : Rule). x.left) c.index-rules-place.is, c.loop-place.invariant.long) in
    let sum : c.index-sum.result.now ≡ slice_index c.loop-place.sums.items rule.left = read_at c.loop-place.sums.items rule.left c.index-sum.result.now 0 lt c.index-sum.ensures in
    record {
      long = length-set c.loop-place.sums.items rule.left (c.index-sum.result.now + c.alone_rate-rate.result) ∙ c.loop-place.invariant.long;
      at = λ a. slot_more c.loop-place.sums.items _ rule.left a c.alone_rate-rate.result (sum_among c.args.rules.now (is_alone a) c.loop-place.place) (cond (is_alone a rule) rule.rate 0) lt
          (ap (λ n. slice_set c.loop-place.sums.items rule.left (n + c.alone_rate-rate.result)) sum) (c.loop-place.invariant.at a)
          (λ e. alone_here a rule e ∙ sym c.alone_rate-rate.ensures)
          (alone_other a rule)
          ∙ sym (sum_more c.args.rules.now (is_alone a) c.loop-place.place rule at_rule);
    }
