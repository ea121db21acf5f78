use Rattle.std.proofs.Common.{rules, arith, ◌≡◌, sym, false, get_or}
use Rattle.surf_base.specs.Decimal.{is_digit}
use Rattle.surf_rle.proofs.Digits.{digits_at, digits_end}
use Rattle.surf_rle.proofs.rule.cut_digits.Goals as goal

pub returns-then-not-is_ascii_digit-clause-digits : goal.returns-then-not-is_ascii_digit-clause-digits
returns-then-not-is_ascii_digit-clause-digits c =
    let no : is_digit (get_or c.args.text.now c.loop-i.i 0) ≡ false = search rules in
    sym (digits_at c.args.text.now c.loop-i.i c.loop-i-test.true c.loop-i.invariant.digits no)

pub returns-clause-digits : goal.returns-clause-digits
returns-clause-digits c =
    sym (digits_end c.args.text.now (λ k h. c.loop-i.invariant.digits k (omega (arith, h, c.loop-i-test.false, c.loop-i.auto.i-end))))
