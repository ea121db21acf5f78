use Rattle.std.proofs.Common.{rules, ◌≡◌}
use Rattle.surf_text.specs.Bytes.{tokens_of}
use Rattle.surf_table.specs.TableLines.{numbers, next_line}
use Rattle.surf_table.specs.TableTexts.{read, read_line}
use Rattle.surf_table.proofs.Refusals.{rest_refused}
use Rattle.surf_table.proofs.numbers.read_next_states.Goals as goal

pub returns-clause-refused : goal.returns-clause-refused
returns-clause-refused c =
    let whole = read (next_line c.args.sums c.args.states c.args.own) c.args.lines.now in
    let n = c.in-Some.line.number in
    let ls = c.next.new.self in
    let o = numbers c.args.sums c.from-2.result (tokens_of c.in-Some-next_token-2.rest.now) in
    let e : whole ≡ read_line n ls o = search rules in
    rest_refused c.add_numbers.result whole n ls o e c.add_numbers.ensures.refused
