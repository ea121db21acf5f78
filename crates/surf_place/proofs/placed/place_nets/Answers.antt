use Rattle.surf_place.proofs.Laid.{placed}
use Rattle.surf_place.proofs.placed.place_nets.Goals as goal

pub returns-clause-placed : goal.returns-clause-placed
returns-clause-placed c =
    let f = c.in-Ok.rows in
    let lanes = c.in-Ok-lanes_of.lanes in
    placed c.args.netlist f.row f.source.items f.last.items lanes
    (record { drawable = c.requires; rows_are = c.in-Ok.ensures.rows; sources = c.in-Ok.ensures.sources; lasts = c.in-Ok.ensures.lasts; law = c.in-Ok-lanes_of.ensures })
