use Rattle.std.proofs.Common.{arith, rules, ◌≡◌, ◌/◌, ◌-◌, ◌+◌, length-set, slice_index}
use Rattle.surf_pick.proofs.WideMends.{mend_fits, mend_read, put_same, same_rows, read_is}
use Rattle.surf_pick.proofs.wide.mend.Goals as goal

pub overflow_add-index : goal.overflow_add-index
overflow_add-index c =
    let i = c.loop-at.invariant in
    let rows = same_rows _ _ c.args.leaf i.leaves c.requires.rows in
    let x : c.index.result.now ≡ slice_index c.loop-at.sums.items (c.loop-at.at / 8 - 1) = read_is c.loop-at.sums.items (c.loop-at.at / 8 - 1) _ (search rules) (search rules) in
    omega (arith, x, (mend_fits c.loop-at.sums.items c.args.leaf c.loop-at.at c.args.old c.args.new rows i.mending i.within c.loop-at-test.true).1)

pub loop-at-preserved : goal.loop-at-preserved
loop-at-preserved c =
    let i = c.loop-at.invariant in
    let rows = same_rows _ _ c.args.leaf i.leaves c.requires.rows in
    let x : c.index.result.now ≡ slice_index c.loop-at.sums.items (c.loop-at.at / 8 - 1) = read_is c.loop-at.sums.items (c.loop-at.at / 8 - 1) _ (search rules) (search rules) in
    record {
      leaves = put_same _ _ c.args.leaf _ _ i.leaves (omega (arith, rows.long, i.within, c.loop-at-test.true));
      mending = mend_read c.loop-at.sums.items c.args.leaf c.loop-at.at c.args.old c.args.new _ x rows i.mending i.within c.loop-at-test.true;
      within = omega (arith, rows.long, i.within, c.loop-at-test.true, length-set c.loop-at.sums.items (c.loop-at.at / 8 - 1) (c.index.result.now - c.args.old + c.args.new));
    }
