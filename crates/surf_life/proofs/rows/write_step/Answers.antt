use Rattle.std.proofs.Common.{◌≡◌, ◌*◌, ◌∙◌, subst, arith}
use Rattle.surf_life.specs.Rows.{AreNextBelow, square_of}
use Rattle.surf_life.proofs.Sums.{all_written}
use Rattle.surf_life.proofs.rows.write_step.Goals as goal

pub returns : goal.returns
returns c =
    let s = c.args.sides in
    let g = square_of s.wrap s.width s.height in
    let done = c.loop-y-test.false in
    let rows = c.loop-y.auto.y-end in
    let last : c.loop-y.y ≡ s.height = omega arith in
    λ C is. all_written C g c.args.cells.now c.loop-y.next (c.loop-y.auto.next ∙ c.requires.room ∙ c.requires.size)
    (subst (λ y. AreNextBelow C g c.args.cells.now c.loop-y.next (y * s.width)) last (c.loop-y.invariant C is))
