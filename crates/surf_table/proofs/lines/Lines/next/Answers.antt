use Rattle.std.proofs.Common.{rules, ◌≡◌, ◌∷◌, [], ℕ, sym, ◌∙◌, ap}
use Rattle.surf_text.specs.Bytes.{lines_of, tokens_of}
use Rattle.surf_text.specs.Cursors.{Kept}
use Rattle.surf_table.specs.TableLines.{lines_from}
use Rattle.surf_table.proofs.KeptLines.{line_found, line_missing}
use Rattle.surf_table.proofs.lines.Lines.next.Goals as goal

pub returns-in_err-words-clause-none : goal.returns-in_err-words-clause-none
returns-in_err-words-clause-none c =
    let old = c.self.inside.lines in
    let none : c.args.self.now ≡ [] = sym c.self.view_is ∙ line_missing old.number (lines_of old.left) c.in_err-words.ensures.none in
    search rules

pub returns-clause-some : goal.returns-clause-some
returns-clause-some c =
    let old = c.self.inside.lines in
    let new = c.next_kept.new.self in
    let words = c.in_ok-words.words.now in
    let k : Kept = record { line = words; number = new.number; behind = lines_of new.left } in
    sym c.self.view_is
    ∙ line_found old.number (lines_of old.left) k c.in_ok-words.ensures.line
    ∙ ap (λ (n : ℕ). record { number = n; words = tokens_of words } ∷ lines_from new.number (lines_of new.left)) (sym c.number.ensures)
