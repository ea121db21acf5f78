use Rattle.std.proofs.Common.{rules, ◌≡◌, ◌≤◌, length, sym, subst}
use Rattle.surf_blif.specs.Logical.{cut}
use Rattle.surf_blif.proofs.Cutting.{cut_within}
use Rattle.surf_blif.proofs.joins.cut_line.Goals as goal

pub returns-clause-shorter : goal.returns-clause-shorter
returns-clause-shorter c =
    let is : c.trim.result.now ≡ cut c.args.line.now = search rules in
    subst (λ v. length v ≤ length c.args.line.now) (sym is) (cut_within c.args.line.now)
