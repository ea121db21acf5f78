use Rattle.std.proofs.Common.{rules, arith, sym, ◌∙◌, ◌==◌, eq-eqb}
use Rattle.std.proofs.lemmas.Bool.{ne_eqb}
use Rattle.surf_text.proofs.Cuts.{end_here, end_down}
use Rattle.surf_manifest_print.proofs.printer.without_zeros.Goals as goal

pub returns-then-digits-end-ne48 : goal.returns-then-digits-end-ne48
returns-then-digits-end-ne48 c =
    sym (c.loop-end.invariant.same ∙ end_here (λ d. d == 48) c.args.digits.now c.loop-end.end (search rules) c.loop-end.invariant.within (ne_eqb _ 48 c.if-digits-end-ne48.true))

pub loop-end-preserved : goal.loop-end-preserved
loop-end-preserved c = record {
  within = omega arith;
  same = c.loop-end.invariant.same ∙ end_down (λ d. d == 48) c.args.digits.now c.loop-end.end (search rules) c.loop-end.invariant.within (eq-eqb _ 48 c.if-digits-end-ne48.false);
}
