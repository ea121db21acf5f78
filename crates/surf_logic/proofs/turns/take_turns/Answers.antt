use Rattle.std.proofs.Common.{rules, ◌≡◌, length, sym, subst}
use Rattle.std.proofs.Math.ListN.{replicate}
use Rattle.surf_logic.specs.Marks.{ArePassed}
use Rattle.surf_logic.proofs.Passing.{none_passed}
use Rattle.surf_logic.proofs.turns.take_turns.Goals as goal

pub turns_by-requires-clause-passed : goal.turns_by-requires-clause-passed
turns_by-requires-clause-passed c =
    let rest = c.args.rest.now.items in
    let made : c.in_ok-passed.passed.items ≡ replicate (length rest) 0 = search rules in
    subst (ArePassed c.args.known.now rest) (sym made) (none_passed c.args.known.now rest)
