use Rattle.std.proofs.Common.{rules, arith, add-one, sym, ◌+◌}
use Rattle.surf_text.proofs.LinesLemmas.{rest_of}
use Rattle.surf_text.proofs.Cuts.{before_at, after_at, before_none, after_none}
use Rattle.surf_text.proofs.texts.cut.Goals as goal

pub returns-then-byte-sign-clause-front : goal.returns-then-byte-sign-clause-front
returns-then-byte-sign-clause-front c =
    sym (before_at c.args.sign c.args.text.now c.loop-i.i (search rules) c.loop-i.invariant (search rules))

pub returns-then-byte-sign-clause-rest : goal.returns-then-byte-sign-clause-rest
returns-then-byte-sign-clause-rest c =
    rw (rest_of c.args.text.now (c.loop-i.i + 1), add-one) (after_at c.args.sign c.args.text.now c.loop-i.i (search rules) c.loop-i.invariant (search rules))

pub returns-clause-front : goal.returns-clause-front
returns-clause-front c = sym (before_none c.args.sign c.args.text.now (λ k h. c.loop-i.invariant k (omega (arith, h))))

pub returns-clause-rest : goal.returns-clause-rest
returns-clause-rest c = after_none c.args.sign c.args.text.now (λ k h. c.loop-i.invariant k (omega (arith, h)))
