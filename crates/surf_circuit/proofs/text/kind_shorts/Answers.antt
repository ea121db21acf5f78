use Rattle.std.proofs.Common.{rules, ◌≡◌, ◌∙◌, ◌++◌, ◌∷◌, [], List, ℕ, ap}
use Rattle.std.proofs.lemmas.List.{take_more}
use Rattle.surf_manifest_print.specs.Rows.{short_text}
use Rattle.surf_circuit.proofs.PrintedLemmas.{shorts_more}
use Rattle.surf_circuit.proofs.text.kind_shorts.Goals as goal

pub loop-kind-preserved : goal.loop-kind-preserved
loop-kind-preserved c =
    let pushed : c.push.new.self.items ≡ c.loop-kind.shorts.items ++ c.new-short.result ∷ [] = search rules in
    record {
      all = c.loop-kind.invariant.all;
      shorts = shorts_more _ _ _ _ _ c.loop-kind.invariant.shorts (pushed ∙ ap (λ (t : List ℕ). c.loop-kind.shorts.items ++ t ∷ []) (c.new-short.ensures ∙ ap short_text c.kind_name.ensures)) (take_more _ _ _ c.loop-kind-test.true);
    }
