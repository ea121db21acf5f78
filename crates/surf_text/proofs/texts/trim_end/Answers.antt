use Rattle.std.proofs.Common.{rules, arith, sym, ◌∙◌}
use Rattle.surf_text.specs.Bytes.{is_blank}
use Rattle.surf_text.proofs.Cuts.{end_here, end_down}
use Rattle.surf_text.proofs.texts.trim_end.Goals as goal

pub returns-then-not-is_blank_byte : goal.returns-then-not-is_blank_byte
returns-then-not-is_blank_byte c =
    sym (c.loop-end.invariant.same ∙ end_here is_blank c.args.line.now c.loop-end.end (search rules) c.loop-end.invariant.within (search rules))

pub loop-end-preserved : goal.loop-end-preserved
loop-end-preserved c = record {
  within = omega arith;
  same = c.loop-end.invariant.same ∙ end_down is_blank c.args.line.now c.loop-end.end (search rules) c.loop-end.invariant.within (search rules);
}
