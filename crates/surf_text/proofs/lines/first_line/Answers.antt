use Rattle.std.proofs.Math.Seq.{drop-length}
use Rattle.std.proofs.Common.{rules, arith, add-one, length, ◌+◌}
use Rattle.surf_text.proofs.LinesLemmas.{rest_of, lines_at, lines_end}
use Rattle.surf_text.proofs.lines.first_line.Goals as goal

pub returns-then-byte-eq10-clause-lines : goal.returns-then-byte-eq10-clause-lines
returns-then-byte-eq10-clause-lines c =
    rw (rest_of c.args.text.now (c.loop-i.i + 1), add-one) (lines_at c.args.text.now c.loop-i.i (search rules) c.loop-i.invariant (search rules))

pub returns-clause-lines : goal.returns-clause-lines
returns-clause-lines c =
    rw (rest_of c.args.text.now (length c.args.text.now), drop-length) (lines_end c.args.text.now (search rules) (λ k h. c.loop-i.invariant k (omega (arith, h))))
