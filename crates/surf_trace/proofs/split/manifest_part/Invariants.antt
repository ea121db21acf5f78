use Rattle.std.proofs.Common.{◌≡◌, ◌≤◌, ◌-◌, ◌++◌, ℕ, List, length, take, drop}
use Rattle.surf_text.specs.Bytes.{lines_of}
use Rattle.surf_trace.specs.Splits.{before_trace}
use Rattle.surf_trace.proofs.split.manifest_part.Given as goal

abbrev pub invariant-loop-i : goal.invariant-loop-i
invariant-loop-i l = record {
  within : l.start ≤ length l.input;
  closed : (after : List ℕ) → lines_of (take l.start l.input ++ after) ≡ lines_of (take l.start l.input) ++ lines_of after;
  read : before_trace (lines_of l.input) ≡ lines_of (take l.start l.input) ++ before_trace (lines_of (drop l.start l.input));
}

abbrev pub decreases-loop-i : goal.decreases-loop-i
decreases-loop-i l = length l.input - l.start
