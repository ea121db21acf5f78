use Rattle.std.proofs.Common.{rules, arith, ◌≡◌, ◌∙◌, ◌++◌, ◌∷◌, [], ap, length, map, min, take}
use Rattle.std.proofs.lemmas.List.{take_min}
use Rattle.surf_manifest_print.specs.Rows.{short_text}
use Rattle.surf_manifest_print.proofs.ShortTexts.{shorts_more}
use Rattle.surf_manifest_print.proofs.shorts.shorts_of.Goals as goal

pub loop-number-preserved : goal.loop-number-preserved
loop-number-preserved c =
    let put : c.push.new.self.items ≡ c.loop-number.shorts.items ++ short_text c.text.result.now ∷ [] = search rules in
    shorts_more c.args.names.now c.loop-number.number c.text.result.now _ _ c.text.ensures c.loop-number.invariant put

pub returns : goal.returns
returns c =
    let names = c.args.names.now in
    let end : c.loop-number.number ≡ c.first_names-count.result = omega (arith, c.loop-number-test.false, c.loop-number.auto.number-end) in
    let all : c.loop-number.number ≡ min 256 (length names) = end ∙ c.first_names-count.ensures in
    c.loop-number.invariant ∙ ap (λ v. map short_text v) (ap (λ n. take n names) all ∙ take_min 256 names)
