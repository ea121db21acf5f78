use Rattle.std.proofs.Common.{rules, arith, ◌≡◌, ◌<◌, ◌-◌, ◌∙◌, ap, ◌∷◌, [], ◌++◌, Some}
use Rattle.surf_text.specs.Bytes.{tokens_of}
use Rattle.surf_base.specs.Decimal.{decimal_below}
use Rattle.surf_table.specs.TableLines.{numbers}
use Rattle.surf_table.specs.Readings.{onto}
use Rattle.surf_table.proofs.NumberLemmas.{numbers_step}
use Rattle.surf_table.proofs.words.add_numbers.Goals as goal

pub loop-word-preserved : goal.loop-word-preserved
loop-word-preserved c =
    let kept = c.loop-word.kept.items in
    let left = c.loop-word.left in
    let k = c.in-Some-read_below.number in
    let word = c.in-Some.word.now in
    let words = tokens_of c.in-Some.after.now in
    let pushed : kept ++ k ∷ [] ≡ c.push.new.self.items = search rules in
    let is : Some k ≡ decimal_below c.args.limit word = search rules in
    let some : 0 < left = omega arith in
    record {
      read = c.loop-word.invariant.read
          ∙ ap (λ ws. onto kept (numbers left c.args.limit ws)) c.in-Some.ensures.some
          ∙ numbers_step kept left c.args.limit k word words some is
          ∙ ap (λ v. onto v (numbers (left - 1) c.args.limit words)) pushed;
    }
