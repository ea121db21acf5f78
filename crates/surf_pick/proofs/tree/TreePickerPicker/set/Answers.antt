use Rattle.std.proofs.Common.{arith, ◌∙◌, slice_set, length, sum, ap}
use Rattle.surf_pick.proofs.Kepts.{rows_of, set_kept, set_is, set_keeps}
use Rattle.surf_pick.proofs.tree.TreePickerPicker.set.Goals as goal

pub mend-requires-clause-rows : goal.mend-requires-clause-rows
mend-requires-clause-rows c =
    let k = c.self.inside in (
      c.self.invariant.0.0,
      rows_of _ _ k.half c.self.invariant.0.0 (set_kept _ k.sums.items k.half c.self.invariant.0.0 c.args.place c.args.weight c.self.invariant.0.1
          (omega (arith, ap (λ p. length p.0) c.self.view_is, c.requires.place))
          (omega (arith, ap (λ p. sum (slice_set p.0 c.args.place c.args.weight)) c.self.view_is, c.requires.fits))),
    )

pub invariant_of-self : goal.invariant_of-self
invariant_of-self c =
    let k = c.self.inside in
    set_keeps _ k.sums.items c.mend.new.sums.items k.half c.self.invariant.0.0 k.count c.args.place c.args.weight c.self.invariant.0.1 c.self.invariant.2
    (omega (arith, ap (λ p. length p.0) c.self.view_is, c.requires.place))
    (omega (arith, ap (λ p. sum (slice_set p.0 c.args.place c.args.weight)) c.self.view_is, c.requires.fits))
    c.mend.ensures.leaves c.mend.ensures.inner

pub returns-clause-list : goal.returns-clause-list
returns-clause-list c =
    let k = c.self.inside in
    set_is _ k.sums.items c.mend.new.sums.items k.half c.self.invariant.0.0 k.count c.args.place c.args.weight c.self.invariant.0.1 c.self.invariant.2
    (omega (arith, ap (λ p. length p.0) c.self.view_is, c.requires.place))
    (omega (arith, ap (λ p. sum (slice_set p.0 c.args.place c.args.weight)) c.self.view_is, c.requires.fits))
    c.mend.ensures.leaves
    ∙ ap (λ p. slice_set p.0 c.args.place c.args.weight) c.self.view_is
