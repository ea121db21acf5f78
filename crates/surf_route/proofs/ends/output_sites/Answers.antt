use Rattle.std.proofs.Common.{rules, ◌+◌, ◌-◌, ◌<◌, ◌^◌, length, ap, ◌∙◌, arith}
use Rattle.surf_place.specs.Placed.{placement_of}
use Rattle.surf_route.specs.Sealed.{centre}
use Rattle.surf_route.proofs.Bounds.{net_of_output, outputs_more, small}
use Rattle.surf_route.proofs.ends.output_sites.Goals as goal

pub overflow_cast-first : goal.overflow_cast-first
overflow_cast-first c =
    let s = small c.args.drawing.now c.requires.placed in
    let few : length c.args.outputs.now < 2 ^ 32 = omega (arith, ap length c.requires.all, s.outputs, s.rows) in
    search (rules, few)

pub overflow_sub-first : goal.overflow_sub-first
overflow_sub-first c =
    let s = small c.args.drawing.now c.requires.placed in
    omega (arith, ap length c.requires.all, s.outputs, c.rows.ensures)

pub column-requires : goal.column-requires
column-requires c = net_of_output c.args.drawing.now c.args.outputs.now c.loop-k.k 0 c.requires.placed c.requires.all c.loop-k-test.true

pub overflow_cast-k : goal.overflow_cast-k
overflow_cast-k c =
    let s = small c.args.drawing.now c.requires.placed in
    let few : c.loop-k.k < 2 ^ 32 = omega (arith, ap length c.requires.all, s.outputs, s.rows, c.loop-k-test.true) in
    search (rules, few)

pub overflow_add-first : goal.overflow_add-first
overflow_add-first c =
    let s = small c.args.drawing.now c.requires.placed in
    let few : c.rows.result - length c.args.outputs.now + c.loop-k.k < 2 ^ 32 = omega (arith, ap length c.requires.all, s.outputs, s.rows, c.rows.ensures, c.loop-k-test.true) in
    search (rules, few)

pub centre-requires-clause-column : goal.centre-requires-clause-column
centre-requires-clause-column c =
    let s = small c.args.drawing.now c.requires.placed in
    let low = (c.requires.placed.placement.inside _ (net_of_output c.args.drawing.now c.args.outputs.now c.loop-k.k 0 c.requires.placed c.requires.all c.loop-k-test.true)).1 in
    omega (arith, s.columns, low, c.column.ensures)

pub centre-requires-clause-row : goal.centre-requires-clause-row
centre-requires-clause-row c =
    let s = small c.args.drawing.now c.requires.placed in
    omega (arith, ap length c.requires.all, s.outputs, s.rows, c.rows.ensures, c.loop-k-test.true)

pub loop-k-preserved : goal.loop-k-preserved
loop-k-preserved c =
    let first = c.rows.result - length c.args.outputs.now in
    outputs_more (placement_of c.args.drawing.now) first c.args.outputs.now c.loop-k.k 0 _ _ _ c.loop-k-test.true c.loop-k.invariant c.in_ok-put.ensures
    (c.centre.ensures ∙ ap (λ column. centre column (first + c.loop-k.k)) c.column.ensures)
