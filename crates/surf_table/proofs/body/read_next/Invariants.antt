use Rattle.std.proofs.Common.{◌≡◌, ◌-◌, [], map}
use Rattle.std.specs.List.{range_with_len}
use Rattle.surf_table.specs.TableLines.{next_line}
use Rattle.surf_table.specs.TableTexts.{next_lines, read_all}
use Rattle.surf_table.specs.Readings.{all_kept_with}
use Rattle.surf_table.proofs.body.read_next.Given as goal

abbrev pub invariant-loop-own : goal.invariant-loop-own
invariant-loop-own l = record {
  read : all_kept_with (λ row. row) [] (read_all (next_lines l.sums l.states) l.fn.lines) ≡ all_kept_with (λ row. row) l.next.items (read_all (map (next_line l.sums l.states) (range_with_len l.own (l.states - l.own))) l.lines);
}
