use Rattle.std.proofs.Common.{rules}
use Rattle.surf_trace.proofs.SplitLines.{line_in, opening_in, ends_here, closed_next, read_next}
use Rattle.surf_trace.proofs.split.manifest_part.Goals as goal

pub returns-then-is_opening-clause-lines : goal.returns-then-is_opening-clause-lines
returns-then-is_opening-clause-lines c =
    let t = c.args.input.now in
    let s = c.loop-i.start in
    let i = c.in-Some.i in
    ends_here t s c.loop-i.invariant.closed c.loop-i.invariant.read i (line_in t s i c.in-Some.ensures.line) (opening_in t s i _ _ c.is_opening.ensures c.if-is_opening.true)

pub loop-i-preserved : goal.loop-i-preserved
loop-i-preserved c =
    let t = c.args.input.now in
    let s = c.loop-i.start in
    let i = c.in-Some.i in
    let line = line_in t s i c.in-Some.ensures.line in
    record {
      within = search rules;
      closed = closed_next t s c.loop-i.invariant.closed c.loop-i.invariant.read i line;
      read = read_next t s c.loop-i.invariant.closed c.loop-i.invariant.read i line (opening_in t s i _ _ c.is_opening.ensures c.if-is_opening.false);
    }
