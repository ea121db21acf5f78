use Rattle.surf_circuit.proofs.Holding.{spelled_fits, spelled_holds}
use Rattle.surf_circuit.proofs.compiler.on_surface.Goals as goal

pub returns-clause-holds : goal.returns-clause-holds
returns-clause-holds c B spelled =
    spelled_holds c.args.circuit.now B c.args.layout.now spelled c.requires.values c.in_ok-manifest.ensures.layout c.in_ok-legend.ensures.settles
    c.in_ok-manifest.manifest.text c.in_ok-legend.legend c.in_ok-manifest.ensures.text c.in_ok-legend.ensures.is

pub returns-clause-surface : goal.returns-clause-surface
returns-clause-surface c = record {
  layout = c.args.layout.now;
  drawn = c.requires.drawn;
  manifest = c.in_ok-manifest.ensures.text;
  legend = c.in_ok-legend.ensures.is;
}

pub returns-clause-form : goal.returns-clause-form
returns-clause-form c B spelled words =
    let sides = c.in_ok-manifest.ensures.sides in
    spelled_fits c.args.circuit.now B c.args.layout.now spelled c.in_ok-manifest.ensures.layout words sides.0 sides.1 c.in_ok-legend.ensures.events c.in_ok-legend.legend c.in_ok-legend.ensures.is
