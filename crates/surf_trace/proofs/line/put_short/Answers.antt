use Rattle.std.proofs.Common.{rules, arith, ◌≤◌, length, ap}
use Rattle.std.specs.Fmt.{decimal}
use Rattle.std.proofs.lemmas.Fmt.{length-decimal-le}
use Rattle.surf_trace.proofs.line.put_short.Goals as goal

pub put-requires : goal.put-requires
put-requires c =
    let short : length (decimal c.from.result) ≤ 10 = search (rules, length-decimal-le 10) in
    omega (arith, short, ap length c.put_decimal-count.ensures.text)

pub returns-clause-place : goal.returns-clause-place
returns-clause-place c =
    let short : length (decimal c.from.result) ≤ 10 = search (rules, length-decimal-le 10) in
    omega (arith, short, ap length c.put_decimal-count.ensures.text, c.put.ensures.place)
