use Rattle.std.proofs.Common.{rules, ◌≡◌, ◌≤◌, ◌+◌, ◌-◌, ◌*◌, ◌/◌, ◌^◌, ◌++◌, length, sum, replicate}
use Rattle.surf_pick.specs.Wides.{Rows}
use Rattle.surf_pick.proofs.WideKepts.{made, built}
use Rattle.surf_pick.proofs.wide.WidePickerPicker.build.Goals as goal

pub fill-requires-clause-rows : goal.fill-requires-clause-rows
fill-requires-clause-rows c =
    let ws = c.args.list.items in
    let leaf = c.leaf_for-leaf.result in
    let room : length ws ≤ 7 * leaf + 8 = search rules in
    let few : leaf ≤ 2 ^ 60 = search rules in
    let leaves : c.in_ok-sums.sums.items ≡ replicate leaf 0 ++ (ws ++ replicate ((length ws + 7) / 8 * 8 - length ws) 0) = search rules in
    made ws c.in_ok-sums.sums.items leaf c.leaf_for-leaf.ensures.row.0 c.leaf_for-leaf.ensures.row.1 room few c.requires leaves

pub invariant_of-result : goal.invariant_of-result
invariant_of-result c =
    let ws = c.args.list.items in
    let leaf = c.leaf_for-leaf.result in
    let count : length ws ≡ c.len-count.result = search rules in
    let room : length ws ≤ 7 * leaf + 8 = search rules in
    let few : leaf ≤ 2 ^ 60 = search rules in
    let leaves : c.in_ok-sums.sums.items ≡ replicate leaf 0 ++ (ws ++ replicate ((length ws + 7) / 8 * 8 - length ws) 0) = search rules in
    let rows : Rows c.in_ok-sums.sums.items leaf = made ws c.in_ok-sums.sums.items leaf c.leaf_for-leaf.ensures.row.0 c.leaf_for-leaf.ensures.row.1 room few c.requires leaves in
    let whole : c.whole_of-whole.result ≡ sum ws = search rules in
    built ws c.in_ok-sums.sums.items c.fill.new.sums.items leaf c.whole_of-whole.result c.len-count.result rows leaves whole c.fill.ensures.leaves c.fill.ensures.sums count
