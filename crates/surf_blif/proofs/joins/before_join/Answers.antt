use Rattle.std.proofs.Common.{rules, ◌≡◌, ◌-◌, length, get_or, suc}
use Rattle.surf_blif.proofs.Cutting.{goes, stays, front_is}
use Rattle.surf_blif.proofs.joins.before_join.Goals as goal

pub returns-then-piece-last-eq92-clause-some : goal.returns-then-piece-last-eq92-clause-some
returns-then-piece-last-eq92-clause-some c =
    let piece = c.args.piece.now in
    let is : length piece ≡ suc (length piece - 1) = search rules in
    let at : get_or piece (length piece - 1) 0 ≡ 92 = search rules in
    (goes piece (length piece - 1) is at, front_is piece (length piece - 1) is, search rules)

pub returns-else-piece-last-eq92-clause-none : goal.returns-else-piece-last-eq92-clause-none
returns-else-piece-last-eq92-clause-none c =
    let piece = c.args.piece.now in
    let is : length piece ≡ suc (length piece - 1) = search rules in
    stays piece (length piece - 1) is (λ at. c.if-piece-last-eq92.false at)
