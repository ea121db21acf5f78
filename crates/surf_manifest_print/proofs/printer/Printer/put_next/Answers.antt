use Rattle.std.proofs.Common.{rules, ◌≡◌, ◌==◌, ◌++◌, IfOk, List, ℕ, Some, ap, sym, ◌∙◌, ◌<◌, false, get_or, length, slice_get, subst, take}
use Rattle.std.proofs.lemmas.Option.{slice_get-get_or}
use Rattle.surf_manifest_print.specs.Rows.{short_texts}
use Rattle.surf_manifest_print.proofs.ShortTexts.{short_at}
use Rattle.surf_manifest_print.proofs.printer.Printer.put_next.Goals as goal

pub returns-in-Some-clause-text : goal.returns-in-Some-clause-text
returns-in-Some-clause-text c =
    let names = c.args.names.now in
    let within : c.args.name < length c.args.shorts.now = search rules in
    let is : c.in-Some.short.now ≡ get_or c.args.shorts.now c.args.name c.in-Some.short.now = c.in-Some.ensures.lookup.1 in
    let found : slice_get c.args.shorts.now c.args.name ≡ Some c.in-Some.short.now = slice_get-get_or c.args.shorts.now c.args.name c.in-Some.short.now within ∙ ap (λ (v : List ℕ). Some v) (sym is) in
    let there : slice_get (short_texts names) c.args.name ≡ Some c.in-Some.short.now = ap (λ (v : List (List ℕ)). slice_get v c.args.name) (sym c.requires.shorts) ∙ found in
    let some : (length c.in-Some.short.now == 0) ≡ false = search rules in
    subst (λ s. IfOk c.put_short.result (λ n. c.put_short.new.self ++ take n c.put_short.new.piece ≡ c.args.self.now ++ (take c.args.len c.args.piece.now ++ s)))
    (short_at names c.args.name c.in-Some.short.now there some) c.put_short.ensures.text
