use Rattle.std.proofs.Common.{rules, arith, ◌≡◌, ◌∙◌, ◌∷◌, ◌+◌, sym, ap, false, get_or, length, drop}
use Rattle.std.proofs.lemmas.List.{take_rest, drop_all}
use Rattle.surf_base.specs.Decimal.{is_digit}
use Rattle.surf_rle.specs.Items.{signs_of}
use Rattle.surf_rle.specs.declared.item.Sign.TheVariants.{Bad}
use Rattle.surf_rle.proofs.Signs.{sign_at, sign_end}
use Rattle.surf_rle.proofs.item.next_sign.Goals as goal

pub returns-then-not-is_ascii_digit-clause-sign : goal.returns-then-not-is_ascii_digit-clause-sign
returns-then-not-is_ascii_digit-clause-sign c =
    let line = c.args.line.now in
    let i = c.loop-i.i in
    let no : is_digit (get_or line i 0) ≡ false = search rules in
    sign_at line i c.loop-i-test.true c.loop-i.invariant no
    ∙ ap (λ s. s ∷ signs_of (drop (i + 1) line)) (sym c.sign_behind.ensures)
    ∙ ap (λ r. c.sign_behind.result ∷ signs_of r) (sym (take_rest line (i + 1)))

pub returns-clause-sign : goal.returns-clause-sign
returns-clause-sign c =
    let line = c.args.line.now in
    sign_end line c.requires (λ k h. c.loop-i.invariant k (omega (arith, h, c.loop-i-test.false)))
    ∙ ap (λ r. Bad ∷ signs_of r) (sym (take_rest line (length line) ∙ drop_all (length line) line (omega arith)))
