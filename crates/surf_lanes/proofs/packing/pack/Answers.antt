use Rattle.std.proofs.Common.{subst, arith}
use Rattle.std.proofs.lemmas.List.{get_or_default}
use Rattle.surf_lanes.specs.Lanes.{IsPlaced, PackingOf}
use Rattle.surf_lanes.proofs.Placing.{placed_so_far, handed_packed, are_apart}
use Rattle.surf_lanes.proofs.packing.pack.Goals as goal

pub add-requires : goal.add-requires
add-requires c = omega (arith, c.loop-span.invariant.few, c.loop-span-test.true, c.requires.few)

pub loop-span-preserved : goal.loop-span-preserved
loop-span-preserved c =
    let l = c.loop-span in
    let h = c.in_ok-add.ensures in
    let p : PackingOf = record { lane = l.packing.lane.items; last = l.packing.last.items; row = l.packing.row } in
    let q : PackingOf = record { lane = c.add.new.self.lane.items; last = c.add.new.self.last.items; row = c.add.new.self.row } in
    placed_so_far c.args.spans.now l.span-index p q c.requires.order c.loop-span-test.true l.invariant
    (subst (IsPlaced p q) (get_or_default c.args.spans.now l.span-index (record { from = 0; to = 0 }) (record { from = 1; to = 0 }) c.loop-span-test.true) h)

pub overflow_cast-result : goal.overflow_cast-result
overflow_cast-result c = omega (arith, c.loop-span.invariant.few, c.loop-span.auto.span-index-end, c.requires.few, c.len.ensures, c.loop-span.packing.last.ok.0)

pub returns-clause-packed : goal.returns-clause-packed
returns-clause-packed c =
    let l = c.loop-span in
    let p : PackingOf = record { lane = l.packing.lane.items; last = l.packing.last.items; row = l.packing.row } in
    handed_packed c.args.spans.now p c.len.result l.span-index c.requires.order l.invariant (omega (arith, c.loop-span-test.false, l.auto.span-index-end)) (omega (arith, c.len.ensures, l.packing.last.ok.0))

pub returns-clause-apart : goal.returns-clause-apart
returns-clause-apart c =
    let l = c.loop-span in
    let p : PackingOf = record { lane = l.packing.lane.items; last = l.packing.last.items; row = l.packing.row } in
    are_apart c.args.spans.now _ (handed_packed c.args.spans.now p c.len.result l.span-index c.requires.order l.invariant (omega (arith, c.loop-span-test.false, l.auto.span-index-end)) (omega (arith, c.len.ensures, l.packing.last.ok.0)))
