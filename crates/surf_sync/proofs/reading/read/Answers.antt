use Rattle.std.proofs.Common.{◌≡◌, rules, sym, subst}
use Rattle.surf_sync.specs.declared.code.Code.{Code}
use Rattle.surf_sync.specs.Codes.{IsCode, protocol, read}
use Rattle.surf_sync.proofs.AfterReads.{read_listed}
use Rattle.surf_sync.proofs.reading.read.Goals as goal

pub returns-clause-code : goal.returns-clause-code
returns-clause-code g c =
    let R = g.L.Local.rule c.args.local.now in
    let code : Code = record {
      current = c.finish.result;
      generation = c.next_generation-generation.result;
      colour = c.args.reader.now.colour;
      previous = c.args.reader.now.current;
      reads = 0;
      acc = c.start.result;
    } in
    let is : code ≡ read (protocol R 0 c.args.last) c.args.reader.now c.args.state = search rules in
    subst (λ (x : Code). IsCode R c.args.last x) (sym is)
    (read_listed R c.args.last c.degree.ensures.law c.args.reader.now c.requires.code c.requires.opened c.args.state c.requires.state)
