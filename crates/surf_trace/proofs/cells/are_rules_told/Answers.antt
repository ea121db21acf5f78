use Rattle.std.proofs.Common.{arith, refl, sym, ◌∙◌, length}
use Rattle.std.proofs.lemmas.Bool.{false≢true}
use Rattle.surf_world.specs.Renamings.{RuleBelow}
use Rattle.surf_trace.specs.Observations.{RuleNamed}
use Rattle.surf_trace.specs.Sights.{IsTold}
use Rattle.surf_trace.proofs.Told.{one_of, all_of, one_more}
use Rattle.surf_trace.proofs.cells.are_rules_told.Goals as goal

pub is_rule_told-requires : goal.is_rule_told-requires
is_rule_told-requires g c =
    one_of (RuleBelow (length c.args.sights.now)) c.book-book.result.now c.args.world.now.surface.rules c.book-book.ensures.rules c.requires c.loop-number.number c.rule.result.now c.rule.ensures.value

pub loop-number-preserved : goal.loop-number-preserved
loop-number-preserved g c =
    one_more (RuleNamed (IsTold c.args.sights.now)) c.book-book.result.now c.loop-number.number c.rule.result.now c.rule.ensures.value (c.is_rule_told.ensures.0 c.if-not-is_rule_told.false) c.loop-number.invariant

pub returns-then-not-is_rule_told : goal.returns-then-not-is_rule_told
returns-then-not-is_rule_told g c = (
  λ t. absurd (false≢true t),
  λ all. absurd (false≢true (sym c.if-not-is_rule_told.true ∙ c.is_rule_told.ensures.1 (one_of (RuleNamed (IsTold c.args.sights.now)) c.book-book.result.now c.args.world.now.surface.rules c.book-book.ensures.rules all c.loop-number.number c.rule.result.now c.rule.ensures.value))),
)

pub returns : goal.returns
returns g c = (
  λ t. all_of (RuleNamed (IsTold c.args.sights.now)) c.book-book.result.now c.args.world.now.surface.rules c.book-book.ensures.rules c.loop-number.number (omega (arith, c.loop-number-test.false, c.len-number-end.ensures)) c.loop-number.invariant,
  λ all. refl,
)
