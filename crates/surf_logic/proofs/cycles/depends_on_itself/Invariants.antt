use Rattle.std.proofs.Common.{◌≡◌, ◌+◌, length}
use Rattle.surf_logic.specs.Marks.{down_count}
use Rattle.surf_logic.proofs.Searching.{Searched}
use Rattle.surf_logic.proofs.cycles.depends_on_itself.Given as goal

abbrev pub invariant-loop-next : goal.invariant-loop-next
invariant-loop-next l = record {
  searched : Searched l.sources l.name l.reached l.waiting.items;
  same : length l.reached ≡ length l.initial.reached;
}

abbrev pub decreases-loop-next : goal.decreases-loop-next
decreases-loop-next l = down_count l.reached + length l.waiting.items
