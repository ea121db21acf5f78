use Rattle.std.proofs.Common.{subst}
use Rattle.surf_auto.specs.Locals.{IsLocal}
use Rattle.surf_auto.specs.Tables.{Table, table_rule}
use Rattle.surf_auto.proofs.Ranges.{table, is_table_rule}
use Rattle.surf_auto.proofs.table.TableLocalLocal.degree.Goals as goal

pub returns-clause-law : goal.returns-clause-law
returns-clause-law c =
    let t = c.self.inside in
    subst (λ (v : Table). IsLocal (table_rule v)) c.self.view_is (is_table_rule (table t.degree t.weights.items t.next.items) c.self.invariant.0)
