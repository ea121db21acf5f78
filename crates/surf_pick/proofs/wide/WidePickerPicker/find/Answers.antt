use Rattle.std.proofs.Common.{arith, ◌≡◌, ◌-◌, sum, ap, subst}
use Rattle.surf_pick.specs.Finds.{Finds}
use Rattle.surf_pick.proofs.WideKepts.{down_first, down_among, down_more, down_finds, kept_small}
use Rattle.surf_pick.proofs.wide.WidePickerPicker.find.Goals as goal

pub overflow_cast-rest : goal.overflow_cast-rest
overflow_cast-rest c =
    let k = c.self.inside in
    omega (arith, ap (λ p. sum p.0) c.self.view_is, c.requires, kept_small _ k.sums.items k.leaf k.whole c.self.invariant.0)

pub loop-self-init : goal.loop-self-init
loop-self-init c =
    let k = c.self.inside in
    down_first _ k.sums.items k.leaf k.whole c.args.r c.self.invariant.0 (omega (arith, ap (λ p. sum p.0) c.self.view_is, c.requires))

pub pick-place-requires : goal.pick-place-requires
pick-place-requires c =
    let k = c.self.inside in
    let d : c.deref.result.now ≡ k.sums.items = c.deref.ensures.value in
    rw d (down_among _ k.sums.items k.leaf k.whole c.args.r _ _ c.self.invariant.0 c.loop-self.invariant)

pub returns-then-place-leaf : goal.returns-then-place-leaf
returns-then-place-leaf c =
    let k = c.self.inside in
    let d : c.deref.result.now ≡ k.sums.items = c.deref.ensures.value in
    let part = rw d at c.pick-place.ensures in
    rw c.from.ensures (subst (λ p. Finds p.0 c.args.r (c.pick-place.result.0 - k.leaf) c.pick-place.result.1) c.self.view_is
    (down_finds _ k.sums.items k.leaf k.whole c.args.r _ _ _ _ c.self.invariant.0 c.loop-self.invariant part c.if-place-leaf.true))

pub loop-self-preserved : goal.loop-self-preserved
loop-self-preserved c =
    let k = c.self.inside in
    let d : c.deref.result.now ≡ k.sums.items = c.deref.ensures.value in
    let part = rw d at c.pick-place.ensures in
    down_more _ k.sums.items k.leaf k.whole c.args.r _ _ _ _ c.self.invariant.0 c.loop-self.invariant part c.if-place-leaf.false
