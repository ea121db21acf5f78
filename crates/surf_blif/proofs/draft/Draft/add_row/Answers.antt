use Rattle.std.proofs.Common.{rules, ◌≡◌, ◌+◌, ◌≤◌, length}
use Rattle.surf_logic.specs.Equations.{row_cost}
use Rattle.surf_blif.specs.Drafts.{held_by, numbered_parts}
use Rattle.surf_blif.specs.Kinds.{row_said}
use Rattle.surf_blif.specs.Steps.{add_row, on_last, parts_with_row}
use Rattle.surf_blif.proofs.Growth.{keeps_within, row_put, last_below}
use Rattle.surf_blif.proofs.draft.Draft.add_row.Goals as goal

pub returns-clause-draft : goal.returns-clause-draft
returns-clause-draft c =
    let s = c.args.self.now in
    let r = row_said c.args.row in
    let put : c.put_last.new.equations.items ≡ on_last (add_row r) s.equations.items = search rules in
    record {
      inputs = c.requires.draft.inputs;
      outputs = c.requires.draft.outputs;
      equations = rw put (last_below (length s.names) r s.equations.items c.requires.draft.equations);
    }

pub returns-clause-held : goal.returns-clause-held
returns-clause-held c =
    let s = c.args.self.now in
    let r = row_said c.args.row in
    let put : c.put_last.new.equations.items ≡ on_last (add_row r) s.equations.items = search rules in
    let le : s.cost + c.cost.result ≤ 1000 = search rules in
    keeps_within (held_by s) (row_cost r.literals) c.cost.result (parts_with_row (held_by s).parts r) _ c.cost.ensures.is le
    (rw put (row_put s.names (numbered_parts s) r))
