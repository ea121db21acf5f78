use Rattle.std.proofs.Common.{◌+◌, ◌-◌, [], sym, ap, ◌∙◌, arith}
use Rattle.surf_place.specs.Drawing.{input_rows}
use Rattle.surf_place.specs.Filling.{Filled, filled, filled_of}
use Rattle.surf_place.proofs.Taking.{input_more}
use Rattle.surf_place.proofs.filling.Filling.add_inputs.Goals as goal

pub loop-net-preserved : goal.loop-net-preserved
loop-net-preserved c =
    let l = c.loop-net in
    let count = c.args.count in
    let i = l._net in
    let h = c.in_ok-begin.ensures in
    let b = ap (λ (f : Filled). f.row) h in
    record {
      is = ap (λ (f : Filled). filled f (input_rows (count - (i + 1)) (i + 1) [])) h ∙ sym (input_more (filled_of l.self) count i c.loop-net-test.true) ∙ l.invariant.is;
      row = omega (arith, b, l.invariant.row);
    }
