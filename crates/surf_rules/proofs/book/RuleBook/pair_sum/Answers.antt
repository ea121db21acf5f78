use Rattle.std.proofs.Common.{ℕ, ◌<◌, List, length, sum_by, sym, ap, ◌∙◌, arith}
use Rattle.surf_rules.specs.declared.rule.Rule.{Rule}
use Rattle.surf_rules.specs.Books.{pair_of, rate_in}
use Rattle.surf_rules.proofs.Totals.{beyond}
use Rattle.surf_rules.proofs.book.RuleBook.pair_sum.Goals as goal
use Rattle.surf_rules.proofs.book.RuleBook.pair_sum.Goals.{else-left-side-via-then-left-side+else-right-side, else-left-side-via-else-left-side}

pub returns : goal.returns
returns c =
    let side : ℕ = c.self.inside.sums.side in
    let some : 0 < c.self.inside.sums.side = omega (arith, c.if-side-eq0.false) in
    sym (beyond c.self.inside.listed c.args.a c.args.b c.self.inside.sums.side (length c.self.inside.listed)
    (λ la lb. elim c.else-left-side.branch [
      | else-left-side-via-then-left-side+else-right-side w ↦ absurd (omega (arith, w.if-right-side.false, lb))
      | else-left-side-via-else-left-side w ↦ absurd (omega (arith, w.if-left-side.false, la))
    ])
    (c.self.invariant.lefts some) (c.self.invariant.rights some) (omega arith))
    ∙ ap (λ (rs : List Rule). sum_by (rate_in rs) (pair_of rs c.args.a c.args.b)) c.self.view_is
