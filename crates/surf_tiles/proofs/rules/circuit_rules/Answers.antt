use Rattle.std.proofs.lemmas.List.{take_more}
use Rattle.surf_tiles.proofs.Growing.{all_count, all_rates, count_of, listed_all, listed_end, listed_more, listed_put, listed_room}
use Rattle.std.proofs.Common.{◌∙◌}
use Rattle.surf_tiles.proofs.rules.circuit_rules.Goals as goal

pub rule_of-requires : goal.rule_of-requires
rule_of-requires c = listed_room _ _ _ _ _ c.loop-reaction.invariant c.requires c.loop-reaction-test.true

pub returns-in_err-rule-clause-grown : goal.returns-in_err-rule-clause-grown
returns-in_err-rule-clause-grown c = listed_more _ _ _ _ _ _ c.loop-reaction.invariant c.loop-reaction-test.true c.rule_of.ensures.grown

pub returns-in_err-put-clause-grown : goal.returns-in_err-put-clause-grown
returns-in_err-put-clause-grown c = listed_more _ _ _ _ _ _ c.loop-reaction.invariant c.loop-reaction-test.true c.rule_of.ensures.grown

pub loop-reaction-preserved : goal.loop-reaction-preserved
loop-reaction-preserved c = listed_put _ _ _ _ _ _ _ _ _ c.loop-reaction.invariant c.rule_of.ensures.grown c.in_ok-rule.ensures.says c.in_ok-put.ensures (take_more _ _ _ c.loop-reaction-test.true)

pub returns-clause-grown : goal.returns-clause-grown
returns-clause-grown c = listed_end _ _ _ _ _ c.loop-reaction.invariant c.loop-reaction.auto.reaction-index-end

pub returns-clause-rules : goal.returns-clause-rules
returns-clause-rules c = listed_all _ _ _ _ _ c.loop-reaction.invariant c.loop-reaction-test.false

pub returns-clause-count : goal.returns-clause-count
returns-clause-count c = all_count _ _ _ (listed_all _ _ _ _ _ c.loop-reaction.invariant c.loop-reaction-test.false) ∙ count_of

pub returns-clause-rates : goal.returns-clause-rates
returns-clause-rates c = all_rates _ _ _ (listed_all _ _ _ _ _ c.loop-reaction.invariant c.loop-reaction-test.false)
