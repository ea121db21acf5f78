use Rattle.std.proofs.Common.{◌≡◌, ◌≤◌, take, length}
use Rattle.surf_text.specs.Bytes.{without_end, is_blank}
use Rattle.surf_text.proofs.texts.trim_end.Given as goal

abbrev pub invariant-loop-end : goal.invariant-loop-end
invariant-loop-end l = record {
  within : l.end ≤ length l.line;
  same : without_end is_blank l.line ≡ without_end is_blank (take l.end l.line);
}

abbrev pub decreases-loop-end : goal.decreases-loop-end
decreases-loop-end l = l.end
