use Rattle.std.proofs.Common.{rules, arith, add-one}
use Rattle.surf_trace.proofs.SplitLines.{line_up_to, line_alone}
use Rattle.surf_trace.proofs.split.line_feed.Goals as goal

pub returns-then-byte-eq10-clause-line : goal.returns-then-byte-eq10-clause-line
returns-then-byte-eq10-clause-line c after =
    rw add-one (line_up_to c.args.text.now c.loop-i.i (search rules) c.loop-i.invariant (search rules) after)

pub returns-clause-none : goal.returns-clause-none
returns-clause-none c some = line_alone c.args.text.now some (λ k h. c.loop-i.invariant k (omega (arith, h)))
