use Rattle.std.proofs.Common.{rules, ◌≡◌, ◌≤◌, ◌<◌, ◌-◌, ◌++◌, ◌/◌, length, replicate}
use Rattle.std.specs.Prelude.{max}
use Rattle.surf_pick.proofs.Kepts.{built}
use Rattle.surf_pick.proofs.tree.TreePickerPicker.build.Goals as goal

pub invariant_of-result : goal.invariant_of-result
invariant_of-result c =
    let ws = c.args.list.items in
    let half = c.next_power_of_two-half.result in
    let count : length ws ≡ c.len-count.result = search rules in
    let holds : length ws ≤ half = search rules in
    let less : half / 2 < max 1 (length ws) = search rules in
    let leaves : c.in_ok-sums.sums.items ≡ replicate half 0 ++ (ws ++ replicate (half - length ws) 0) = search rules in
    built ws c.in_ok-sums.sums.items c.fill.new.sums.items half c.len-count.result c.next_power_of_two-half.ensures.power holds less c.requires leaves c.fill.ensures.leaves c.fill.ensures.inner count
