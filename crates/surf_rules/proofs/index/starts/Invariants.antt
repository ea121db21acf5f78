use Rattle.std.proofs.Common.{◌≡◌, ◌<◌, ℕ, length, get_or}
use Rattle.surf_rules.specs.declared.index.Entry.{Entry}
use Rattle.surf_rules.specs.Sides.{IsStart}
use Rattle.surf_rules.proofs.index.starts.Given as goal

abbrev pub invariant-loop-name : goal.invariant-loop-name
invariant-loop-name l = record {
  long : length l.starts.items ≡ l.name;
  at : (a : ℕ) → a < l.name → IsStart (λ (e : Entry). e.left) a l.entries (get_or l.starts.items a 0);
}
