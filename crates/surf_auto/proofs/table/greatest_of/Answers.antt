use Rattle.std.proofs.Common.{rules, ◌∙◌, ◌<◌, length, get_or, ℕ}
use Rattle.surf_auto.proofs.Ranges.{greatest_kept, greater, not_greater}
use Rattle.surf_auto.proofs.table.greatest_of.Goals.{then-weight-found, else-weight-found}
use Rattle.surf_auto.proofs.table.greatest_of.Goals as goal

pub loop-weight-preserved : goal.loop-weight-preserved
loop-weight-preserved c =
    let ws = c.args.weights.now in
    let i : ℕ = c.loop-weight.weight-index in
    let below : i < length ws = search rules in
    greatest_kept ws i c.loop-weight.found c.if-weight-found.found below c.loop-weight.invariant
    (elim c.if-weight-found.branch [
      | then-weight-found w ↦ w.found-is ∙ greater c.loop-weight.found (get_or ws i 0) w.if-weight-found.true
      | else-weight-found w ↦ w.found-is ∙ not_greater c.loop-weight.found (get_or ws i 0) w.if-weight-found.false
    ])
