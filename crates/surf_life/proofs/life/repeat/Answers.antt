use Rattle.std.proofs.Common.{◌≡◌, ◌+◌, length, map, sym, ap, ◌∙◌, subst, arith}
use Rattle.std.proofs.lemmas.List.{with_items_is}
use Rattle.surf_lattice.specs.Grids.{sites}
use Rattle.surf_life.specs.Moore.{moore_next, moore_sync}
use Rattle.surf_life.specs.Rows.{AreTwo, shown, square_of}
use Rattle.surf_life.proofs.Cells.{no_step, one_step, stay_two, sized}
use Rattle.surf_life.proofs.life.repeat.Goals as goal

pub loop-step-init : goal.loop-step-init
loop-step-init c =
    let s = c.args.sides in
    record {
      cells = no_step c.args.local.now (square_of s.wrap s.width s.height) c.args.cells.now.items c.requires.size;
      room = c.requires.room;
    }

pub write_step-requires-clause-size : goal.write_step-requires-clause-size
write_step-requires-clause-size c =
    let s = c.args.sides in
    ap length c.deref.ensures.value ∙ sized c.args.local.now (square_of s.wrap s.width s.height) c.args.cells.now.items c.loop-step.cells.items c.loop-step._step c.loop-step.invariant.cells

pub write_step-requires-clause-two : goal.write_step-requires-clause-two
write_step-requires-clause-two c =
    let s = c.args.sides in
    subst AreTwo (sym c.deref.ensures.value) (stay_two c.args.local.now (square_of s.wrap s.width s.height) c.args.cells.now.items c.loop-step.cells.items c.loop-step._step c.requires.two c.loop-step.invariant.cells)

pub loop-step-preserved : goal.loop-step-preserved
loop-step-preserved c =
    let s = c.args.sides in
    let g = square_of s.wrap s.width s.height in
    let C = c.args.local.now in
    let swapped : c.swap.new.x.items ≡ c.write_step.new.next = ap (λ v. v.items) c.swap.ensures.x_after ∙ with_items_is c.loop-step.spare c.write_step.new.next (c.write_step.auto.next ∙ c.deref_mut.ensures.len) in
    let kept : c.swap.new.y.items ≡ c.loop-step.cells.items = ap (λ v. v.items) c.swap.ensures.y_after in
    let after : c.write_step.new.next ≡ map (moore_next C g (shown g c.loop-step.cells.items)) (sites g) = c.write_step.ensures C c.table_of-table.ensures.table ∙ ap (λ v. map (moore_next C g (shown g v)) (sites g)) c.deref.ensures.value in
    let cells : c.swap.new.x.items ≡ map (moore_sync C g c.args.cells.now.items (c.loop-step._step + 1)) (sites g) = swapped ∙ one_step C g c.args.cells.now.items c.loop-step.cells.items c.write_step.new.next c.loop-step._step c.loop-step.invariant.cells after in
    record {
      cells = cells;
      room = ap length kept ∙ sized C g c.args.cells.now.items c.loop-step.cells.items c.loop-step._step c.loop-step.invariant.cells ∙ sym (sized C g c.args.cells.now.items c.swap.new.x.items (c.loop-step._step + 1) cells);
    }

pub returns : goal.returns
returns c =
    let s = c.args.sides in
    let g = square_of s.wrap s.width s.height in
    let t = c.loop-step-test.false in
    let a = c.loop-step.auto._step-end in
    let last : c.loop-step._step ≡ c.args.times = omega arith in
    c.loop-step.invariant.cells ∙ ap (λ k. map (moore_sync c.args.local.now g c.args.cells.now.items k) (sites g)) last
