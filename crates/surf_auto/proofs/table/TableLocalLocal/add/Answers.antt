use Rattle.std.proofs.Common.{arith, ◌+◌, ◌*◌, ◌<◌, refl, length, sym, subst}
use Rattle.surf_auto.specs.Tables.{Table, greatest}
use Rattle.surf_auto.proofs.Ranges.{table, acc_small, weight_read}
use Rattle.surf_auto.proofs.table.TableLocalLocal.add.Goals as goal

pub overflow_add-result : goal.overflow_add-result
overflow_add-result c =
    let t = c.self.inside in
    let T = table t.degree t.weights.items t.next.items in
    let is = c.self.invariant.0 in
    let d = subst (λ (v : Table). c.args._direction < v.degree) (sym c.self.view_is) c.requires.direction in
    let a = subst (λ (v : Table). c.args.acc < c.args._direction * greatest v.weights + 1) (sym c.self.view_is) c.requires.acc in
    let s = subst (λ (v : Table). c.args.state < length v.weights) (sym c.self.view_is) c.requires.state in
    let m = acc_small T is c.args._direction (greatest t.weights.items) refl (omega arith) in
    let w = weight_read T is _ c.index.result.now c.index.ensures (omega arith) in
    omega arith
