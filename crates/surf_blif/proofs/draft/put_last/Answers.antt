use Rattle.std.proofs.Common.{rules, ◌≡◌, ◌-◌, length, suc, sym, get_or, ap, ◌∙◌}
use Rattle.surf_blif.specs.Steps.{add_row}
use Rattle.surf_blif.specs.Covers.{RowOf}
use Rattle.surf_blif.proofs.Lists.{on_last_set}
use Rattle.surf_blif.proofs.draft.put_last.Goals as goal

pub returns : goal.returns
returns c =
    let qs = c.args.equations.now.items in
    let r : RowOf = record { literals = c.args.row; output = c.args.output } in
    let q = c.index_mut.result.now in
    let is : length qs ≡ suc (c.len-last.result - 1) = search rules in
    let at : get_or qs (c.len-last.result - 1) q ≡ q = search rules in
    on_last_set (add_row r) qs q c.put_row.new.equation (c.len-last.result - 1) is (ap (add_row r) at ∙ sym c.in_ok-put_row.ensures)
