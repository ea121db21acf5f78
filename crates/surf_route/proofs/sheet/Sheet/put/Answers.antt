use Rattle.std.proofs.Common.{rules, ◌≡◌, ◌++◌, length, List, Bool, arith, refl, subst}
use Rattle.std.specs.Prelude.{nat_lt}
use Rattle.std.proofs.lemmas.Grind.{common_steps}
use Rattle.surf_route.specs.Routing.{line_tiles}
use Rattle.surf_route.proofs.Sheets.{next_net, few_columns, few_rows, sheet_after}
use Rattle.surf_route.proofs.sheet.Sheet.put.Goals as goal

pub column-lane-requires : goal.column-lane-requires
column-lane-requires c = (next_net c.args.drawing.now _ _ c.args.line c.requires.sheet.placed c.requires.line c.net-net.ensures).in_range

pub last_row-requires : goal.last_row-requires
last_row-requires c = (next_net c.args.drawing.now _ _ c.args.line c.requires.sheet.placed c.requires.line c.net-net.ensures).in_range

pub put_tiles-requires : goal.put_tiles-requires
put_tiles-requires c = rw c.deref.ensures.value (few_columns c.args.drawing.now _ _ c.requires.sheet.placed c.requires.sheet.table)

pub index_mut-requires : goal.index_mut-requires
index_mut-requires c =
    let low = (next_net c.args.drawing.now _ _ c.args.line c.requires.sheet.placed c.requires.line c.net-net.ensures).lane in
    grind (arith, common_steps, low, c.requires.sheet.table.long, c.column-lane.ensures)

pub overflow_add-self : goal.overflow_add-self
overflow_add-self c =
    let few = few_rows c.args.drawing.now _ c.requires.sheet.placed (next_net c.args.drawing.now _ _ c.args.line c.requires.sheet.placed c.requires.line c.net-net.ensures).row in
    search (rules, few)

pub returns-clause-sheet : goal.returns-clause-sheet
returns-clause-sheet c =
    let below : Bool = nat_lt c.args.self.now.row c.last_row.result in
    let Put : List Bool → Type 0 = λ table. c.put_tiles.new.tiles.items ≡ c.args.self.now.tiles.items ++ line_tiles c.args.line c.column-lane.result table below (length table) in
    sheet_after c.args.drawing.now c.args.self.now _ c.net-net.result c.column-lane.result below c.args.line c.requires.sheet c.requires.line c.net-net.ensures c.column-lane.ensures
    (rw c.last_row.ensures refl) refl refl (subst Put c.deref.ensures.value c.in_ok-put_tiles.ensures)
