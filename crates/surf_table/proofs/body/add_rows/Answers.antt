use Rattle.std.proofs.Common.{rules, ◌∙◌, ◌-◌, ◌+◌, replicate, ap}
use Rattle.surf_table.specs.TableLines.{row_line}
use Rattle.surf_table.specs.TableTexts.{Refuses, read_all, row_lines, widened}
use Rattle.surf_table.specs.Readings.{all_kept_with}
use Rattle.surf_table.proofs.Rows.{row_kept, row_refused, none_left, rows_at, rows_end}
use Rattle.surf_table.proofs.body.add_rows.Goals as goal

pub returns-in_err-add_row-clause-refused : goal.returns-in_err-add_row-clause-refused
returns-in_err-add_row-clause-refused c =
    let f = widened c.args.margin c.args.edge in
    let e = row_line c.args.states c.args.size.0 in
    let y = c.loop-y._y in
    let h = c.args.size.1 in
    let kept = c.loop-y.cells.items in
    let ls = c.loop-y.lines in
    let told : Refuses (read_all (row_lines c.args.states (c.args.size.0, h)) c.args.lines.now) c.in_err-add_row.field-0.0 =
    row_refused f c.args.cells.now.items kept (read_all (row_lines c.args.states (c.args.size.0, h)) c.args.lines.now) e (replicate (h - (y + 1)) e) ls c.in_err-add_row.field-0.0
    (c.loop-y.invariant.read ∙ ap (λ es. all_kept_with f kept (read_all es ls)) (rows_at e y h c.loop-y-test.true))
    c.in_err-add_row.ensures.refused in
    search rules

pub loop-y-preserved : goal.loop-y-preserved
loop-y-preserved c =
    let f = widened c.args.margin c.args.edge in
    let e = row_line c.args.states c.args.size.0 in
    let y = c.loop-y._y in
    let h = c.args.size.1 in
    let kept = c.loop-y.cells.items in
    let ls = c.loop-y.lines in
    record {
      read = c.loop-y.invariant.read
          ∙ ap (λ es. all_kept_with f kept (read_all es ls)) (rows_at e y h c.loop-y-test.true)
          ∙ row_kept f kept c.add_row.new.cells.items e (replicate (h - (y + 1)) e) ls c.add_row.new.lines c.in_ok-add_row.ensures.ok;
    }

pub returns-clause-ok : goal.returns-clause-ok
returns-clause-ok c =
    let f = widened c.args.margin c.args.edge in
    let e = row_line c.args.states c.args.size.0 in
    let y = c.loop-y._y in
    let h = c.args.size.1 in
    let kept = c.loop-y.cells.items in
    let ls = c.loop-y.lines in
    c.loop-y.invariant.read
    ∙ ap (λ es. all_kept_with f kept (read_all es ls)) (rows_end e y h c.loop-y-test.false)
    ∙ none_left f kept ls
