use Rattle.std.proofs.Common.{arith, refl}
use Rattle.std.proofs.lemmas.List.Elements.{All-from_get_or}
use Rattle.surf_trace.specs.Sights.{IsTold}
use Rattle.surf_trace.proofs.cells.are_names_told.Goals as goal

pub returns : goal.returns
returns g c = (
  λ t. All-from_get_or (IsTold c.args.sights.now) c.args.world.now.names 0 (λ i lt. c.loop-place.invariant i (omega (arith, lt, c.loop-place-test.false, c.site_count-place-end.ensures.names))),
  λ all. refl,
)
