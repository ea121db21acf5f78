use Rattle.std.proofs.Common.{rules, ◌≡◌, ◌∙◌, ◌++◌, ◌∷◌, [], ap}
use Rattle.surf_world.specs.Picks.{weight_of}
use Rattle.surf_sim.proofs.Weights.{weights_more, weights_all}
use Rattle.surf_sim.proofs.Totals.{are_weights, sum_le}
use Rattle.surf_sim.proofs.refresh.weights.Goals as goal

pub loop-place-preserved : goal.loop-place-preserved
loop-place-preserved g c =
    let w = c.args.world.now in
    let x = c.weight_at-weight.result in
    let pushed : c.push.new.self.items ≡ c.loop-place.weights.items ++ c.weight_at-weight.result ∷ [] = search rules in
    record {
      set = weights_more c.args.world.now c.loop-place.place c.loop-place.weights.items c.push.new.self.items c.weight_at-weight.result c.loop-place.invariant.set
          (c.weight_at-weight.ensures.sum ∙ ap (weight_of w.surface w.names) c.site_at.ensures.site) pushed;
      long = search rules;
    }

pub returns-clause-all : goal.returns-clause-all
returns-clause-all g c = weights_all c.args.world.now c.loop-place.place c.loop-place.weights.items (search rules) c.loop-place.invariant.set

pub returns-clause-right : goal.returns-clause-right
returns-clause-right g c =
    let w = c.args.world.now in
    are_weights w c.loop-place.weights.items (search rules) (weights_all w c.loop-place.place c.loop-place.weights.items (search rules) c.loop-place.invariant.set)

pub returns-clause-fits : goal.returns-clause-fits
returns-clause-fits g c =
    let w = c.args.world.now in
    sum_le w.surface c.loop-place.weights.items
    (are_weights w c.loop-place.weights.items (search rules) (weights_all w c.loop-place.place c.loop-place.weights.items (search rules) c.loop-place.invariant.set))
