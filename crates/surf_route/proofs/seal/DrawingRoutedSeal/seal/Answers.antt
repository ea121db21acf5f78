use Rattle.surf_route.proofs.Bounds.{is_layout}
use Rattle.surf_route.proofs.seal.DrawingRoutedSeal.seal.Goals as goal

pub assemble-requires : goal.assemble-requires
assemble-requires c =
    rw (c.into_netlist-netlist.ensures, c.columns-width.ensures, c.rows-height.ensures, c.in-Ok.ensures.kinds, c.in-Ok.ensures.inputs, c.in-Ok.ensures.outputs) (is_layout c.args.self c.in-Ok.ensures.placed)
