use Rattle.std.proofs.Common.{rules, ◌≡◌, ◌∷◌, Some, ◌∙◌, ap}
use Rattle.surf_text.specs.Bytes.{tokens_of}
use Rattle.surf_blif.specs.Covers.{bit_of}
use Rattle.surf_blif.proofs.Tokens.{two_within, bit_some}
use Rattle.surf_blif.proofs.rows.read_signed.Goals as goal

pub returns-clause-within : goal.returns-clause-within
returns-clause-within c =
    let line = c.args.line.now in
    let t = c.in_ok-literals.literals.now in
    let u = c.in_ok-output.output.now in
    let ts = tokens_of c.in_ok-output.rest.now in
    let first : tokens_of line ≡ t ∷ tokens_of c.in_ok-literals.rest.now = search rules in
    let second : tokens_of c.in_ok-literals.rest.now ≡ u ∷ ts = search rules in
    let bit : bit_of u ≡ Some c.in_ok-output-2.output = search rules in
    two_within line t u ts (first ∙ ap (λ v. t ∷ v) second) (bit_some u c.in_ok-output-2.output bit)
