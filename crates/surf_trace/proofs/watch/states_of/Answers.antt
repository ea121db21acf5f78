use Rattle.std.proofs.Common.{◌∙◌, ap, map}
use Rattle.std.proofs.lemmas.List.{take_all}
use Rattle.surf_trace.proofs.watch.states_of.Goals as goal

pub returns : goal.returns
returns c = c.loop-one.invariant ∙ ap (map (λ x. x.state)) (take_all c.loop-one.one-index c.args.kept.now c.loop-one-test.false)
