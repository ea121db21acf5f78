use Rattle.std.proofs.Common.{rules, arith, ◌≤◌, ◌∙◌, ap, sym, length, Ok}
use Rattle.surf_table.specs.TableTexts.{Refuses, read_cells, read_table, sums_of, table_of}
use Rattle.surf_table.specs.Parts.{IsHead}
use Rattle.surf_table.specs.Readings.{head_by}
use Rattle.surf_table.proofs.Facts.{head_is, light}
use Rattle.surf_table.proofs.RowFacts.{cells_are, next_is}
use Rattle.surf_table.proofs.Refusals.{refuses_same}
use Rattle.surf_table.proofs.Chains.{cells_refused, end_refused, all_read, same_cells, same_next}
use Rattle.surf_table.proofs.reader.read_table.Goals as goal

pub overflow_cast-states : goal.overflow_cast-states
overflow_cast-states c =
    let h : IsHead (head_by c.in_ok-header.header) = head_is c.new-lines.result (head_by c.in_ok-header.header) c.read_head.new.lines c.in_ok-header.ensures.ok in
    let f : length c.in_ok-header.header.weights.items ≤ 256 = h.few in
    omega (arith, f, ap length c.as_slice-weights.ensures.value)

pub sum_count-sums-requires-clause-light : goal.sum_count-sums-requires-clause-light
sum_count-sums-requires-clause-light c =
    let h : IsHead (head_by c.in_ok-header.header) = head_is c.new-lines.result (head_by c.in_ok-header.header) c.read_head.new.lines c.in_ok-header.ensures.ok in
    rw c.as_slice-weights.ensures.value (light c.in_ok-header.header.weights.items h.weights)

pub returns-in_err-cells-clause-refused : goal.returns-in_err-cells-clause-refused
returns-in_err-cells-clause-refused c =
    let h = head_by c.in_ok-header.header in
    let w = c.as_slice-weights.ensures.value in
    let m = c.args.margin in
    let n = length c.as_slice-weights.result.now in
    let next_read = same_next c.sum_count-sums.result n (sums_of h.degree h.weights) (length h.weights) c.read_head.new.lines (Ok (c.in_ok-next.next.items, c.read_next.new.lines))
    (c.sum_count-sums.ensures ∙ ap (sums_of h.degree) w) (ap length w) c.in_ok-next.ensures.ok in
    let f = c.in_err-cells.field-0.0 in
    let cells : Refuses (read_cells m h.edge (length h.weights) c.in_ok-size.size c.read_size.new.lines) f =
    refuses_same (read_cells m h.edge (length h.weights) c.in_ok-size.size c.read_size.new.lines) (read_cells m h.edge n c.in_ok-size.size c.read_size.new.lines) f
    (ap (λ k. read_cells m h.edge k c.in_ok-size.size c.read_size.new.lines) (sym (ap length w))) c.in_err-cells.ensures.refused in
    let r : Refuses (read_table m c.new-lines.result) f =
    cells_refused m c.new-lines.result c.read_head.new.lines c.read_next.new.lines c.read_size.new.lines h c.in_ok-next.next.items c.in_ok-size.size
    c.in_ok-header.ensures.ok next_read c.in_ok-size.ensures.ok f cells in
    let whole : Refuses (table_of m c.args.bytes.now) f = refuses_same (table_of m c.args.bytes.now) (read_table m c.new-lines.result) f (ap (read_table m) (sym c.new-lines.ensures)) r in
    search rules

pub returns-in_err-read_end-clause-refused : goal.returns-in_err-read_end-clause-refused
returns-in_err-read_end-clause-refused c =
    let h = head_by c.in_ok-header.header in
    let w = c.as_slice-weights.ensures.value in
    let m = c.args.margin in
    let n = length c.as_slice-weights.result.now in
    let next_read = same_next c.sum_count-sums.result n (sums_of h.degree h.weights) (length h.weights) c.read_head.new.lines (Ok (c.in_ok-next.next.items, c.read_next.new.lines))
    (c.sum_count-sums.ensures ∙ ap (sums_of h.degree) w) (ap length w) c.in_ok-next.ensures.ok in
    let cells_read = same_cells m h.edge n (length h.weights) c.in_ok-size.size c.read_size.new.lines (Ok (c.in_ok-cells.cells.items, c.read_cells.new.lines)) (ap length w) c.in_ok-cells.ensures.ok in
    let f = c.in_err-read_end.field-0.0 in
    let r : Refuses (read_table m c.new-lines.result) f =
    end_refused m c.new-lines.result c.read_head.new.lines c.read_next.new.lines c.read_size.new.lines h c.in_ok-next.next.items c.in_ok-size.size
    c.in_ok-header.ensures.ok next_read c.in_ok-size.ensures.ok c.read_cells.new.lines c.in_ok-cells.cells.items cells_read f c.in_err-read_end.ensures.refused in
    let whole : Refuses (table_of m c.args.bytes.now) f = refuses_same (table_of m c.args.bytes.now) (read_table m c.new-lines.result) f (ap (read_table m) (sym c.new-lines.ensures)) r in
    search rules

pub automaton-requires-clause-head : goal.automaton-requires-clause-head
automaton-requires-clause-head c = head_is c.new-lines.result (head_by c.in_ok-header.header) c.read_head.new.lines c.in_ok-header.ensures.ok

pub automaton-requires-clause-next : goal.automaton-requires-clause-next
automaton-requires-clause-next c =
    let h = head_by c.in_ok-header.header in
    let w = c.as_slice-weights.ensures.value in
    next_is (sums_of h.degree h.weights) (length h.weights) c.read_head.new.lines c.in_ok-next.next.items c.read_next.new.lines
    (same_next c.sum_count-sums.result (length c.as_slice-weights.result.now) (sums_of h.degree h.weights) (length h.weights) c.read_head.new.lines (Ok (c.in_ok-next.next.items, c.read_next.new.lines))
    (c.sum_count-sums.ensures ∙ ap (sums_of h.degree) w) (ap length w) c.in_ok-next.ensures.ok)

pub automaton-requires-clause-cells : goal.automaton-requires-clause-cells
automaton-requires-clause-cells c =
    let h = head_by c.in_ok-header.header in
    let w = c.as_slice-weights.ensures.value in
    let head : IsHead h = head_is c.new-lines.result h c.read_head.new.lines c.in_ok-header.ensures.ok in
    cells_are c.args.margin h.edge (length h.weights) c.in_ok-size.size c.read_size.new.lines c.in_ok-cells.cells.items c.read_cells.new.lines head.edge_within
    (same_cells c.args.margin h.edge (length c.as_slice-weights.result.now) (length h.weights) c.in_ok-size.size c.read_size.new.lines (Ok (c.in_ok-cells.cells.items, c.read_cells.new.lines)) (ap length w) c.in_ok-cells.ensures.ok)

pub returns-clause-ok : goal.returns-clause-ok
returns-clause-ok c =
    let h = head_by c.in_ok-header.header in
    let w = c.as_slice-weights.ensures.value in
    let m = c.args.margin in
    let n = length c.as_slice-weights.result.now in
    let next_read = same_next c.sum_count-sums.result n (sums_of h.degree h.weights) (length h.weights) c.read_head.new.lines (Ok (c.in_ok-next.next.items, c.read_next.new.lines))
    (c.sum_count-sums.ensures ∙ ap (sums_of h.degree) w) (ap length w) c.in_ok-next.ensures.ok in
    let cells_read = same_cells m h.edge n (length h.weights) c.in_ok-size.size c.read_size.new.lines (Ok (c.in_ok-cells.cells.items, c.read_cells.new.lines)) (ap length w) c.in_ok-cells.ensures.ok in
    ap (read_table m) (sym c.new-lines.ensures)
    ∙ all_read m c.new-lines.result c.read_head.new.lines c.read_next.new.lines c.read_size.new.lines h c.in_ok-next.next.items c.in_ok-size.size
    c.in_ok-header.ensures.ok next_read c.in_ok-size.ensures.ok c.read_cells.new.lines c.in_ok-cells.cells.items cells_read c.read_end.new.lines c.in_ok-read_end.ensures.ok
    ∙ ap (λ u. Ok u) (sym c.automaton.ensures.universe)
