use Rattle.std.proofs.Common.{◌≡◌, ◌++◌, ◌∷◌, ◌∙◌, IfOk, List, ℕ, ap, subst, take, slice_index_or}
use Rattle.surf_tiles.specs.Kinds.{name_of}
use Rattle.surf_circuit.proofs.PrintedLemmas.{short_of}
use Rattle.surf_circuit.proofs.text.put_kind.Goals as goal

pub returns-clause-text : goal.returns-clause-text
returns-clause-text c =
    let shorts = c.args.shorts.now in
    let short = c.index-shorts-index.result in
    let is : short ≡ 32 ∷ name_of c.args.kind.now = c.index-shorts-index.is ∙ (ap (λ i. slice_index_or shorts i short) c.index.ensures.is ∙ short_of shorts c.args.kind.now short c.requires.shorts) in
    subst (λ (s : List ℕ). IfOk c.put_short.result (λ n. c.put_short.new.self ++ take n c.put_short.new.piece ≡ c.args.printer.now ++ (take c.args.len c.args.piece.now ++ s))) is c.put_short.ensures.text
