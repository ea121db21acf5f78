use Rattle.std.proofs.Math.Seq.{drop-length}
use Rattle.std.proofs.Common.{rules, arith, add-one, ◌∙◌, length, ◌+◌, ◌<◌, ◌≡◌, get_or, true}
use Rattle.surf_text.specs.Bytes.{is_blank}
use Rattle.surf_text.proofs.LinesLemmas.{rest_of, token_at, token_end, not_first}
use Rattle.surf_text.proofs.lines.next_token.Goals as goal

pub returns-then-is_blank_byte-clause-some : goal.returns-then-is_blank_byte-clause-some
returns-then-is_blank_byte-clause-some c =
    let rest = c.without_blanks-rest.result.now in
    let at : is_blank (get_or rest c.loop-i.i 0) ≡ true = search rules in
    let some : 0 < c.loop-i.i = not_first rest c.loop-i.i (search rules) at in
    c.without_blanks-rest.ensures.tokens ∙ rw (rest_of rest (c.loop-i.i + 1), add-one) (token_at rest c.loop-i.i some (search rules) c.loop-i.invariant at)

pub returns-clause-some : goal.returns-clause-some
returns-clause-some c =
    let rest = c.without_blanks-rest.result.now in
    c.without_blanks-rest.ensures.tokens ∙ rw (rest_of rest (length rest), drop-length) (token_end rest (search rules) (λ k h. c.loop-i.invariant k (omega (arith, h))))
