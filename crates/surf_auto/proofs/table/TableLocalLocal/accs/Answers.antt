use Rattle.std.proofs.Common.{arith, ◌≤◌, sym, subst}
use Rattle.surf_auto.specs.Tables.{Table}
use Rattle.surf_auto.proofs.Ranges.{table, acc_small}
use Rattle.surf_auto.proofs.table.TableLocalLocal.accs.Goals as goal

pub overflow_mul-result : goal.overflow_mul-result
overflow_mul-result c =
    let t = c.self.inside in
    let T = table t.degree t.weights.items t.next.items in
    let k = subst (λ (v : Table). c.args.reads ≤ v.degree) (sym c.self.view_is) c.requires.reads in
    let m = acc_small T c.self.invariant.0 c.args.reads t.heaviest c.self.invariant.1 k in
    omega arith

pub overflow_add-result : goal.overflow_add-result
overflow_add-result c =
    let t = c.self.inside in
    let T = table t.degree t.weights.items t.next.items in
    let k = subst (λ (v : Table). c.args.reads ≤ v.degree) (sym c.self.view_is) c.requires.reads in
    let m = acc_small T c.self.invariant.0 c.args.reads t.heaviest c.self.invariant.1 k in
    omega arith
