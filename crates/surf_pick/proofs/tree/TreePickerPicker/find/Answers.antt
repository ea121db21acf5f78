use Rattle.std.proofs.Common.{rules, arith, ◌≡◌, ◌*◌, ◌-◌, slice_index, sum, ap, subst}
use Rattle.surf_pick.specs.Finds.{Finds}
use Rattle.surf_pick.proofs.Spans.{read_is}
use Rattle.surf_pick.proofs.Kepts.{down_first, down_left, down_right, down_finds}
use Rattle.surf_pick.proofs.tree.TreePickerPicker.find.Goals as goal

pub loop-place-init : goal.loop-place-init
loop-place-init c =
    let k = c.self.inside in
    let kept = c.self.invariant.0.1 in
    (c.self.invariant.0.0, kept, down_first _ k.sums.items k.half c.self.invariant.0.0 c.args.r kept c.self.invariant.1 (omega (arith, ap (λ p. sum p.0) c.self.view_is, c.requires)))

pub loop-place-preserved-then-index-rest : goal.loop-place-preserved-then-index-rest
loop-place-preserved-then-index-rest c =
    let k = c.self.inside in
    let i = c.loop-place.invariant in
    let v : c.index-then-index-rest.result.now ≡ slice_index k.sums.items (c.loop-place.place * 2) = read_is k.sums.items (c.loop-place.place * 2) _ (search rules) (search rules) in
    let u : c.index.result.now ≡ slice_index k.sums.items (c.loop-place.place * 2) = read_is k.sums.items (c.loop-place.place * 2) _ (search rules) (search rules) in
    (i.0, i.1, down_right _ k.sums.items k.half i.0 c.args.r c.loop-place.place c.loop-place.rest _ i.1 c.self.invariant.1 i.2 c.loop-place-test.true v (omega (arith, u, v, c.if-index-rest.true)))

pub loop-place-preserved : goal.loop-place-preserved
loop-place-preserved c =
    let k = c.self.inside in
    let i = c.loop-place.invariant in
    let v : c.index.result.now ≡ slice_index k.sums.items (c.loop-place.place * 2) = read_is k.sums.items (c.loop-place.place * 2) _ (search rules) (search rules) in
    (i.0, i.1, down_left _ k.sums.items k.half i.0 c.args.r c.loop-place.place c.loop-place.rest i.1 c.self.invariant.1 i.2 c.loop-place-test.true (omega (arith, v, c.if-index-rest.false)))

pub returns : goal.returns
returns c =
    let k = c.self.inside in
    let i = c.loop-place.invariant in
    subst (λ p. Finds p.0 c.args.r (c.loop-place.place - k.half) c.loop-place.rest) c.self.view_is (down_finds _ k.sums.items k.half i.0 c.args.r c.loop-place.place c.loop-place.rest i.1 i.2 c.loop-place-test.false)
