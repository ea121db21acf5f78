use Rattle.std.proofs.Common.{◌≤◌, sym, arith, subst}
use Rattle.surf_sim.specs.Simulations.{AreWeights}
use Rattle.surf_sim.specs.Totals.{most_weight}
use Rattle.surf_sim.proofs.Totals.{weight_le, weights_set, sum_le}
use Rattle.surf_sim.proofs.refresh.refresh.Goals as goal

pub set-requires-clause-fits : goal.set-requires-clause-fits
set-requires-clause-fits g c =
    let S = c.args.world.now.surface in
    let small : c.weight_at.result ≤ most_weight S = omega (arith, c.weight_at.ensures.sum, weight_le S c.args.world.now.names c.args.site) in
    omega (arith, c.requires.fits, sum_le S _ (weights_set S (g.P.Picker.weights c.args.picker.now) c.place.result c.weight_at.result c.requires.weights small))

pub returns-clause-weights : goal.returns-clause-weights
returns-clause-weights g c =
    let S = c.args.world.now.surface in
    let small : c.weight_at.result ≤ most_weight S = omega (arith, c.weight_at.ensures.sum, weight_le S c.args.world.now.names c.args.site) in
    subst (AreWeights S) (sym c.set.ensures.list) (weights_set S (g.P.Picker.weights c.args.picker.now) c.place.result c.weight_at.result c.requires.weights small)
