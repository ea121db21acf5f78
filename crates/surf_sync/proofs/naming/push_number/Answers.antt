use Rattle.surf_sync.proofs.Growing.{numbers_one}
use Rattle.surf_sync.proofs.naming.push_number.Goals as goal

pub returns-clause-numbers : goal.returns-clause-numbers
returns-clause-numbers c =
    numbers_one c.args.names.now c.args.numbers.now.items c.args.name.now c.intern.new.self c.push.new.out.items c.in_ok-number.number
    c.in_ok-number.ensures.grown c.in_ok-number.ensures.found c.in_ok-push.ensures
