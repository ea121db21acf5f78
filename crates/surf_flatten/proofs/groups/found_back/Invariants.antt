use Rattle.std.proofs.Common.{◌≡◌, ◌+◌, ◌-◌, ◌<◌, ℕ, List, length}
use Rattle.std.specs.List.{All}
use Rattle.surf_logic.specs.Marks.{Marks, down_count}
use Rattle.surf_flatten.proofs.Grouping.{Backward}
use Rattle.surf_flatten.proofs.groups.found_back.Given as goal

abbrev pub invariant-loop-next : goal.invariant-loop-next
invariant-loop-next l = record {
  back : (assigned : List ℕ) → Marks l.fn.taken assigned → Backward l.sources l.root l.next assigned l.found.items l.taken;
  inside : All (λ k. k < length l.taken) l.found.items;
  same : length l.taken ≡ length l.fn.taken;
}

abbrev pub decreases-loop-next : goal.decreases-loop-next
decreases-loop-next l = down_count l.taken + (length l.found.items - l.next)
