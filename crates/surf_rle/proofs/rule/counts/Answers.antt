use Rattle.std.proofs.Common.{◌∙◌, ◌-◌, ap, get_or, inl, inr, slice_set, true}
use Rattle.surf_rle.proofs.Digits.{counts_more, counts_same}
use Rattle.surf_rle.proofs.rule.counts.Goals as goal
use Rattle.surf_rle.proofs.rule.counts.Goals.{then-digit-ge48+then-digit-le56, else-digit-ge48, else-digit-ge48-via-then-digit-ge48+else-digit-le56, else-digit-ge48-via-else-digit-ge48}

pub loop-digit-preserved : goal.loop-digit-preserved
loop-digit-preserved c =
    let t = c.args.digits.now in
    let i = c.loop-digit.digit-index in
    elim c.if-digit-ge48.branch [
      | then-digit-ge48+then-digit-le56 w ↦
          w.table-is ∙ ap (λ b. slice_set b (get_or t i 0 - 48) true) c.loop-digit.invariant ∙ counts_more t i c.loop-digit-test.true w.if-digit-ge48.true w.if-digit-le56.true
      | else-digit-ge48 w ↦ w.table-is ∙ c.loop-digit.invariant ∙ counts_same t i c.loop-digit-test.true (elim w.else-digit-ge48.branch [
        | else-digit-ge48-via-then-digit-ge48+else-digit-le56 v ↦ inr v.if-digit-le56.false
        | else-digit-ge48-via-else-digit-ge48 v ↦ inl v.if-digit-ge48.false
      ])
    ]
