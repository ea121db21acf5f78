use Rattle.std.specs.Prelude.{slice_index, slice_set}
use Rattle.std.specs.Option.{unwrap_or}
use Rattle.std.proofs.Common.{ℕ, ◌≡◌, ◌<◌, ◌≤◌, ◌+◌, ◌*◌, ◌∙◌, ap, sym, subst, arith, cond, is_some, IfSome, length, Some, slice_get, length-set}
use Rattle.std.proofs.lemmas.Option.{slice_get-get_or}
use Rattle.surf_rules.specs.declared.rule.Rule.{Rule}
use Rattle.surf_rules.specs.Books.{is_pair}
use Rattle.surf_rules.specs.Sums.{sum_among}
use Rattle.surf_rules.proofs.Totals.{read_at, sum_more, sum_small, slot_more, slot_within, right_within, cond_le, pair_here, pair_other}
use Rattle.surf_rules.proofs.sums.add_pairs.Goals as goal

pub overflow_add-sum : goal.overflow_add-sum
overflow_add-sum c =
    let rule : Rule = c.index-rules-place.result in
    let lefts : rule.left < c.args.side = omega (arith, c.requires.lefts c.loop-place.place rule c.loop-place-test.true, ap (λ (x : Rule). x.left) c.index-rules-place.is) in
    let rights : IfSome rule.right (λ b. b < c.args.side) = subst (λ (v : Rule). IfSome v.right (λ b. b < c.args.side)) (sym c.index-rules-place.is) (c.requires.rights c.loop-place.place rule c.loop-place-test.true) in
    let right : c.unwrap_or.result < c.args.side = omega (arith, c.unwrap_or.ensures, right_within c.args.side rule.right (omega (arith, lefts)) rights) in
    let lt : rule.left * c.args.side + c.unwrap_or.result < length c.loop-place.table.items = omega (arith, slot_within rule.left c.unwrap_or.result c.args.side lefts right, c.loop-place.invariant.whole) in
    let sum : c.index-sum.result.now ≡ slice_index c.loop-place.table.items (rule.left * c.args.side + c.unwrap_or.result) = read_at c.loop-place.table.items (rule.left * c.args.side + c.unwrap_or.result) c.index-sum.result.now 0 lt c.index-sum.ensures in
    let small = sum_small c.args.rules.now (is_pair rule.left c.unwrap_or.result) c.loop-place.place c.requires.rates (omega (arith, c.loop-place-test.true)) in
    let rate : rule.rate ≤ 1000000000000 = omega (arith, c.requires.rates c.loop-place.place rule c.loop-place-test.true, ap (λ (x : Rule). x.rate) c.index-rules-place.is) in
    omega (arith, sum, c.loop-place.invariant.at rule.left c.unwrap_or.result lefts right, small, c.pair_rate-rate.ensures, cond_le (is_some rule.right) rule.rate 1000000000000 rate, c.loop-place-test.true, c.requires.few)

pub loop-place-preserved : goal.loop-place-preserved
loop-place-preserved c =
    let rule : Rule = c.index-rules-place.result in
    let at_rule : slice_get c.args.rules.now c.loop-place.place ≡ Some rule = slice_get-get_or c.args.rules.now c.loop-place.place rule c.loop-place-test.true ∙ ap (λ (v : Rule). Some v) (sym c.index-rules-place.is) in
    let lefts : rule.left < c.args.side = omega (arith, c.requires.lefts c.loop-place.place rule c.loop-place-test.true, ap (λ (x : Rule). x.left) c.index-rules-place.is) in
    let rights : IfSome rule.right (λ b. b < c.args.side) = subst (λ (v : Rule). IfSome v.right (λ b. b < c.args.side)) (sym c.index-rules-place.is) (c.requires.rights c.loop-place.place rule c.loop-place-test.true) in
    let right : c.unwrap_or.result < c.args.side = omega (arith, c.unwrap_or.ensures, right_within c.args.side rule.right (omega (arith, lefts)) rights) in
    let slot : ℕ = rule.left * c.args.side + c.unwrap_or.result in
    let same : rule.left * c.args.side + c.unwrap_or.result ≡ rule.left * c.args.side + unwrap_or rule.right 0 = ap (λ k. rule.left * c.args.side + k) c.unwrap_or.ensures in
    let lt : rule.left * c.args.side + c.unwrap_or.result < length c.loop-place.table.items = omega (arith, slot_within rule.left c.unwrap_or.result c.args.side lefts right, c.loop-place.invariant.whole) in
    let sum : c.index-sum.result.now ≡ slice_index c.loop-place.table.items (rule.left * c.args.side + c.unwrap_or.result) = read_at c.loop-place.table.items (rule.left * c.args.side + c.unwrap_or.result) c.index-sum.result.now 0 lt c.index-sum.ensures in
    record {
      whole = length-set c.loop-place.table.items slot (c.index-sum.result.now + c.pair_rate-rate.result) ∙ c.loop-place.invariant.whole;
      at = λ a b la lb. slot_more c.loop-place.table.items _ slot (a * c.args.side + b) c.pair_rate-rate.result (sum_among c.args.rules.now (is_pair a b) c.loop-place.place) (cond (is_pair a b rule) rule.rate 0) lt
          (ap (λ n. slice_set c.loop-place.table.items slot (n + c.pair_rate-rate.result)) sum) (c.loop-place.invariant.at a b la lb)
          (λ e. pair_here a b c.args.side rule lb rights (e ∙ same) ∙ sym c.pair_rate-rate.ensures)
          (λ ne. pair_other a b c.args.side rule (λ e. ne (e ∙ sym same)))
          ∙ sym (sum_more c.args.rules.now (is_pair a b) c.loop-place.place rule at_rule);
    }
