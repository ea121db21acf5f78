use Rattle.std.proofs.Common.{arith, ◌≡◌, ◌+◌, ◌*◌, ◌<◌, length, get_or, refl, sym, subst, ap, ◌∙◌}
use Rattle.std.proofs.lemmas.Grind.{get_or_default_zero}
use Rattle.surf_auto.specs.Tables.{Table, greatest, next_at}
use Rattle.surf_auto.proofs.Ranges.{table, acc_small, place_small, place_within}
use Rattle.surf_auto.proofs.table.TableLocalLocal.finish.Goals as goal

pub overflow_mul-row : goal.overflow_mul-row
overflow_mul-row c =
    let t = c.self.inside in
    let m = acc_small (table t.degree t.weights.items t.next.items) c.self.invariant.0 t.degree t.heaviest c.self.invariant.1 (omega arith) in
    omega arith

pub overflow_add-row : goal.overflow_add-row
overflow_add-row c =
    let t = c.self.inside in
    let m = acc_small (table t.degree t.weights.items t.next.items) c.self.invariant.0 t.degree t.heaviest c.self.invariant.1 (omega arith) in
    omega arith

pub overflow_mul-own : goal.overflow_mul-own
overflow_mul-own c =
    let t = c.self.inside in
    let own = subst (λ (v : Table). c.args.own < length v.weights) (sym c.self.view_is) c.requires.own in
    let m = place_small (table t.degree t.weights.items t.next.items) c.self.invariant.0 c.args.own t.heaviest c.self.invariant.1 own in
    omega arith

pub overflow_add-own : goal.overflow_add-own
overflow_add-own c =
    let t = c.self.inside in
    let T = table t.degree t.weights.items t.next.items in
    let own = subst (λ (v : Table). c.args.own < length v.weights) (sym c.self.view_is) c.requires.own in
    let acc = subst (λ (v : Table). c.args.acc < v.degree * greatest v.weights + 1) (sym c.self.view_is) c.requires.acc in
    let m = place_small T c.self.invariant.0 c.args.own t.heaviest c.self.invariant.1 own in
    let n = acc_small T c.self.invariant.0 t.degree (greatest t.weights.items) refl (omega arith) in
    omega arith

pub returns : goal.returns
returns c =
    let t = c.self.inside in
    let T = table t.degree t.weights.items t.next.items in
    let own = subst (λ (v : Table). c.args.own < length v.weights) (sym c.self.view_is) c.requires.own in
    let acc = subst (λ (v : Table). c.args.acc < v.degree * greatest v.weights + 1) (sym c.self.view_is) c.requires.acc in
    let b = place_within T c.self.invariant.0 c.args.own c.args.acc t.heaviest c.self.invariant.1 own acc in
    let e : c.index.result.now ≡ get_or t.next.items (c.args.own * (t.degree * t.heaviest + 1) + c.args.acc) 0 = c.index.ensures ∙ get_or_default_zero t.next.items _ _ b in
    e
    ∙ ap (λ h. get_or t.next.items (c.args.own * (t.degree * h + 1) + c.args.acc) 0) c.self.invariant.1
    ∙ ap (λ (v : Table). next_at v c.args.own c.args.acc) c.self.view_is
