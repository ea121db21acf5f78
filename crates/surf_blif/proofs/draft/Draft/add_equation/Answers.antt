use Rattle.std.proofs.Common.{rules, ◌≡◌, ◌+◌, ◌≤◌, [], ◌∷◌, ◌++◌, length, refl, true, map, sym, ◌∙◌, ap}
use Rattle.surf_text.specs.Bytes.{tokens_of}
use Rattle.surf_rules.specs.Names.{text_of}
use Rattle.surf_blif.specs.Drafts.{held_by, numbered_parts}
use Rattle.surf_blif.specs.Steps.{with_equation}
use Rattle.surf_blif.proofs.Growth.{keeps_within, equation_put}
use Rattle.surf_blif.proofs.draft.Draft.add_equation.Goals as goal

pub returns-clause-held : goal.returns-clause-held
returns-clause-held c =
    let s = c.args.self.now in
    let line = c.args.line.now in
    let names = c.numbers_of.new.names in
    let ks = c.pop.new.self.items in
    let k = c.unwrap-output.result in
    let all : c.in_ok-inputs.inputs.items ≡ ks ++ k ∷ [] = search rules in
    let tokens : map (text_of names) (ks ++ k ∷ []) ≡ tokens_of line = ap (map (text_of names)) (sym all) ∙ c.in_ok-inputs.ensures.tokens in
    let le : s.cost + 1 ≤ 1000 = search rules in
    let pushed : c.push.new.self.items ≡ s.equations.items ++ (record { output = k; inputs = ks; rows = []; polarity = true }) ∷ [] = search rules in
    keeps_within (held_by s) 1 1 (with_equation (held_by s).parts (tokens_of line)) _ refl le
    (rw pushed (equation_put (length line) s.names names (numbered_parts s) ks k (tokens_of line) c.in_ok-inputs.ensures.grown c.requires.draft tokens))
