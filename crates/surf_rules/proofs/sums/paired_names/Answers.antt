use Rattle.std.specs.Prelude.{slice_index_or, slice_set}
use Rattle.std.proofs.Common.{◌≡◌, ◌<◌, ◌∙◌, ap, sym, arith, ◌||◌, false, length, Some, slice_get, length-set}
use Rattle.std.proofs.lemmas.Option.{slice_get-get_or}
use Rattle.surf_rules.specs.declared.rule.Rule.{Rule}
use Rattle.surf_rules.specs.Sums.{is_first, is_first_among}
use Rattle.surf_rules.proofs.Totals.{read_at, first_more, flag_more, first_here, first_other}
use Rattle.surf_rules.proofs.sums.paired_names.Goals as goal

pub loop-place-preserved : goal.loop-place-preserved
loop-place-preserved c =
    let rule : Rule = c.index-rules-place.result in
    let at_rule : slice_get c.args.rules.now c.loop-place.place ≡ Some rule = slice_get-get_or c.args.rules.now c.loop-place.place rule c.loop-place-test.true ∙ ap (λ (v : Rule). Some v) (sym c.index-rules-place.is) in
    let lt : rule.left < length c.loop-place.flags.items = omega (arith, c.requires.names c.loop-place.place rule c.loop-place-test.true, ap (λ (x : Rule). x.left) c.index-rules-place.is, c.loop-place.invariant.long) in
    let flag : c.index.result.now ≡ slice_index_or c.loop-place.flags.items rule.left false = read_at c.loop-place.flags.items rule.left c.index.result.now false lt c.index.ensures in
    record {
      long = length-set c.loop-place.flags.items rule.left (c.index.result.now || c.is_pair_rule-first.result) ∙ c.loop-place.invariant.long;
      at = λ a. flag_more c.loop-place.flags.items _ rule.left a c.is_pair_rule-first.result (is_first_among c.args.rules.now a c.loop-place.place) (is_first a rule) lt
          (ap (λ n. slice_set c.loop-place.flags.items rule.left (n || c.is_pair_rule-first.result)) flag) (c.loop-place.invariant.at a)
          (λ e. first_here a rule e ∙ sym c.is_pair_rule-first.ensures)
          (first_other a rule)
          ∙ sym (first_more c.args.rules.now a c.loop-place.place rule at_rule);
    }
