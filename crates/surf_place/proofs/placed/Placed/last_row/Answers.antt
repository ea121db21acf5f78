use Rattle.std.proofs.Common.{◌<◌, sym, ap, ◌∙◌, subst, arith}
use Rattle.surf_tiles.specs.Netlists.{nets_of}
use Rattle.surf_place.specs.Drawing.{last_row}
use Rattle.surf_place.specs.Placed.{PlacedOf}
use Rattle.surf_place.proofs.Laid.{table_of}
use Rattle.surf_place.proofs.placed.Placed.last_row.Goals as goal

pub index-requires : goal.index-requires
index-requires c =
    let p = c.self.inside in
    let t = table_of p.netlist (last_row p.netlist) p.last.items c.self.invariant.lasts in
    let b = subst (λ (v : PlacedOf). c.args.net < nets_of v.netlist) (sym c.self.view_is) c.requires in
    omega (arith, t.long, p.last.ok.0, b)

pub returns : goal.returns
returns c =
    let p = c.self.inside in
    let t = table_of p.netlist (last_row p.netlist) p.last.items c.self.invariant.lasts in
    let b = subst (λ (v : PlacedOf). c.args.net < nets_of v.netlist) (sym c.self.view_is) c.requires in
    c.index.ensures ∙ t.at c.args.net c.index.result.now b ∙ ap (λ (v : PlacedOf). last_row v.netlist c.args.net) c.self.view_is
