use Rattle.std.proofs.Common.{arith}
use Rattle.surf_table.proofs.TableFacts.{low, narrow}
use Rattle.surf_table.proofs.reader.automaton.Goals as goal

pub overflow_add-result : goal.overflow_add-result
overflow_add-result c = omega (arith, narrow c.args.margin c.args.size c.requires.size)

pub overflow_add-result-2 : goal.overflow_add-result-2
overflow_add-result-2 c = omega (arith, low c.args.margin c.args.size c.requires.size)
