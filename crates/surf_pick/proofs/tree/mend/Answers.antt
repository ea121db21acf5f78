use Rattle.std.proofs.Common.{arith, rules, ◌∙◌, ◌≡◌, ◌+◌, ◌*◌, ◌/◌, slice_index}
use Rattle.surf_pick.proofs.Spans.{mend_fits, mend_read, put_same, read_is}
use Rattle.surf_pick.proofs.tree.mend.Goals as goal

pub overflow_add-sum : goal.overflow_add-sum
overflow_add-sum c =
    let a : c.index.result.now ≡ slice_index c.loop-place.sums.items (2 * (c.loop-place.place / 2)) = read_is c.loop-place.sums.items (2 * (c.loop-place.place / 2)) _ (search rules) (search rules) in
    let b : c.index-in-loop-place.result.now ≡ slice_index c.loop-place.sums.items (2 * (c.loop-place.place / 2) + 1) = read_is c.loop-place.sums.items (2 * (c.loop-place.place / 2) + 1) _ (search rules) (search rules) in
    omega (arith, a, b, mend_fits c.args.sums.now.items c.loop-place.sums.items c.args.half c.requires.rows.0 c.loop-place.place c.requires.rows.1 c.loop-place.invariant.leaves c.loop-place.invariant.inner c.loop-place-test.true c.loop-place.invariant.high)

pub loop-place-preserved : goal.loop-place-preserved
loop-place-preserved c =
    let i = c.loop-place.invariant in
    let q = c.loop-place.place / 2 in
    let a : c.index.result.now ≡ slice_index c.loop-place.sums.items (2 * (c.loop-place.place / 2)) = read_is c.loop-place.sums.items (2 * (c.loop-place.place / 2)) _ (search rules) (search rules) in
    let b : c.index-in-loop-place.result.now ≡ slice_index c.loop-place.sums.items (2 * (c.loop-place.place / 2) + 1) = read_is c.loop-place.sums.items (2 * (c.loop-place.place / 2) + 1) _ (search rules) (search rules) in
    record {
      leaves = put_same _ _ c.args.half q _ i.leaves (omega (arith, c.loop-place-test.true)) (omega (arith, i.high));
      inner = mend_read c.loop-place.sums.items c.args.half q _ _ a b (i.leaves.size ∙ c.requires.rows.1.size) i.inner (omega (arith, c.loop-place-test.true)) (omega (arith, i.high));
      low = omega (arith, c.loop-place-test.true);
      high = omega (arith, i.high);
    }
