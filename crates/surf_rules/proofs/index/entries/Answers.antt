use Rattle.std.proofs.Common.{rules, ◌≡◌, ◌∙◌, ap, sym, ◌++◌, Some}
use Rattle.std.specs.Option.{option_to_list}
use Rattle.std.proofs.lemmas.Option.{slice_get-get_or}
use Rattle.surf_rules.specs.declared.rule.Rule.{Rule}
use Rattle.surf_rules.specs.Sides.{entry_of}
use Rattle.surf_rules.proofs.Lists.{side_more, few_more}
use Rattle.surf_rules.proofs.index.entries.Goals as goal

pub loop-place-preserved : goal.loop-place-preserved
loop-place-preserved c =
    let place = c.loop-place.place in
    let rule = c.index-rules-place.result in
    let pushed : c.push_some.new.entries.items ≡ c.loop-place.entries.items ++ option_to_list c.entry_for.result = search rules in
    let is : c.push_some.new.entries.items ≡ c.loop-place.entries.items ++ option_to_list (entry_of rule place) = pushed ∙ ap (λ o. c.loop-place.entries.items ++ option_to_list o) c.entry_for.ensures in
    record {
      few = few_more c.loop-place.entries.items c.push_some.new.entries.items place rule is c.loop-place.invariant.few;
      same = side_more c.args.rules.now c.loop-place.entries.items c.push_some.new.entries.items place rule
          (slice_get-get_or c.args.rules.now place rule (search rules) ∙ ap (λ (v : Rule). Some v) (sym c.index-rules-place.is))
          is c.loop-place.invariant.same;
    }
