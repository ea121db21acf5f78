use Rattle.std.proofs.Common.{arith, rules, ◌∙◌, ◌≡◌, ◌+◌, ◌*◌, ◌-◌, slice_index}
use Rattle.surf_pick.proofs.Spans.{fill_fits, fill_read, put_same, read_is}
use Rattle.surf_pick.proofs.tree.fill.Goals as goal

pub overflow_add-index : goal.overflow_add-index
overflow_add-index c =
    let a : c.index.result.now ≡ slice_index c.loop-place.sums.items (2 * (c.loop-place.place - 1)) = read_is c.loop-place.sums.items (2 * (c.loop-place.place - 1)) _ (search rules) (search rules) in
    let b : c.index-in-loop-place.result.now ≡ slice_index c.loop-place.sums.items (2 * (c.loop-place.place - 1) + 1) = read_is c.loop-place.sums.items (2 * (c.loop-place.place - 1) + 1) _ (search rules) (search rules) in
    omega (arith, a, b, fill_fits c.args.sums.now.items c.loop-place.sums.items c.args.half c.requires.0 c.loop-place.place c.requires.1 c.loop-place.invariant.leaves c.loop-place.invariant.inner c.loop-place-test.true c.loop-place.invariant.high)

pub loop-place-preserved : goal.loop-place-preserved
loop-place-preserved c =
    let i = c.loop-place.invariant in
    let a : c.index.result.now ≡ slice_index c.loop-place.sums.items (2 * (c.loop-place.place - 1)) = read_is c.loop-place.sums.items (2 * (c.loop-place.place - 1)) _ (search rules) (search rules) in
    let b : c.index-in-loop-place.result.now ≡ slice_index c.loop-place.sums.items (2 * (c.loop-place.place - 1) + 1) = read_is c.loop-place.sums.items (2 * (c.loop-place.place - 1) + 1) _ (search rules) (search rules) in
    record {
      leaves = put_same _ _ c.args.half _ _ i.leaves (omega (arith, c.loop-place-test.true)) (omega (arith, c.loop-place-test.true, i.high));
      inner = fill_read c.loop-place.sums.items c.args.half c.loop-place.place _ _ a b (i.leaves.size ∙ c.requires.1.size) i.inner c.loop-place-test.true i.high;
      low = omega (arith, c.loop-place-test.true);
      high = omega (arith, i.high);
    }
