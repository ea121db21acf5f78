use Rattle.std.proofs.Common.{arith, ◌≡◌, ◌-◌, ◌+◌, ◌<◌, ◌∙◌, subst}
use Rattle.std.proofs.lemmas.List.{get_or-set_other}
use Rattle.surf_pick.specs.Wides.{SumsFrom}
use Rattle.surf_pick.proofs.WideMends.{small_at, fill_more, put_same, same_rows}
use Rattle.surf_pick.proofs.wide.fill.Goals as goal

pub sum_of-requires-clause-small : goal.sum_of-requires-clause-small
sum_of-requires-clause-small c =
    let i = c.loop-place.invariant in
    let rows = same_rows _ _ c.args.leaf i.leaves c.requires.rows in
    let d : c.deref.result.now ≡ c.loop-place.sums.items = c.deref.ensures.value in
    rw d (omega (arith, rows.small, small_at c.loop-place.sums.items c.loop-place.place c.args.leaf rows.depth (c.loop-place.place - 1) rows.row i.sums (omega (arith, c.loop-place-test.true)) (omega (arith, c.loop-place-test.true, i.high))))

pub loop-place-preserved-then-first-len : goal.loop-place-preserved-then-first-len
loop-place-preserved-then-first-len c =
    let i = c.loop-place.invariant in
    let rows = same_rows _ _ c.args.leaf i.leaves c.requires.rows in
    let q = c.loop-place.place - 1 in
    let lt : q < c.args.leaf = omega (arith, c.loop-place-test.true, i.high) in
    let e : c.loop-place.place ≡ q + 1 = omega (arith, c.loop-place-test.true) in
    let sums : SumsFrom (q + 1) c.args.leaf c.loop-place.sums.items = subst (λ v. SumsFrom v c.args.leaf c.loop-place.sums.items) e i.sums in
    let d : c.deref.result.now ≡ c.loop-place.sums.items = c.deref.ensures.value in
    let v = rw d at c.sum_of.ensures in
    record {
      leaves = put_same _ _ c.args.leaf q _ i.leaves lt;
      sums = fill_more c.loop-place.sums.items c.args.leaf q _ rows sums lt v;
      zeros = λ k less. get_or-set_other c.loop-place.sums.items q k _ 0 (λ e. omega (arith, e, less)) ∙ i.zeros k (omega (arith, less));
      high = omega (arith, lt);
    }
