use Rattle.std.proofs.Common.{rules, ◌≡◌, ◌+◌, ◌∷◌, List, length, ap, sym, subst, ◌∙◌, Ok, map, None, inl, inr}
use Rattle.surf_blif.specs.Answers.{Tells, fault_in, read_then}
use Rattle.surf_blif.specs.Blifs.{text_fault}
use Rattle.surf_blif.specs.Drafts.{reached_by}
use Rattle.surf_text.specs.Bytes.{lines_of}
use Rattle.surf_blif.specs.Grammar.{placed}
use Rattle.surf_blif.specs.Logical.{Logical, joined_from}
use Rattle.surf_blif.specs.Steps.{read_on}
use Rattle.surf_blif.proofs.Steps.{fault_read, read_as, reads_end}
use Rattle.surf_blif.proofs.reader.read_model.Goals as goal

pub returns-in_err-take_line-clause-refused : goal.returns-in_err-take_line-clause-refused
returns-in_err-take_line-clause-refused c =
    let old = c.loop-lines.lines.lines in
    let new = c.next.new.self.lines in
    let s = reached_by c.loop-lines.reading in
    let rest = joined_from (new.number + 1) None (lines_of new.left) in
    let is : joined_from (old.number + 1) None (lines_of old.left) ≡ (record { number = c.in-Some.line.number; text = c.text.result.now }) ∷ rest = search rules in
    let same = c.loop-lines.invariant.read ∙ ap (λ (v : List Logical). read_on s (map placed v)) is in
    let told : Tells (text_fault c.args.bytes.now) c.in_err-take_line.field-0.0 =
    subst (λ o. Tells o c.in_err-take_line.field-0.0) (ap fault_in (sym same) ∙ fault_read c.args.bytes.now) (c.in_err-take_line.ensures.refused (map placed rest)) in
    search rules

pub returns-in-Stops : goal.returns-in-Stops
returns-in-Stops c =
    let old = c.loop-lines.lines.lines in
    let new = c.next.new.self.lines in
    let s = reached_by c.loop-lines.reading in
    let t = reached_by c.take_line.new.self in
    let rest = joined_from (new.number + 1) None (lines_of new.left) in
    let is : joined_from (old.number + 1) None (lines_of old.left) ≡ (record { number = c.in-Some.line.number; text = c.text.result.now }) ∷ rest = search rules in
    let same = c.loop-lines.invariant.read ∙ ap (λ (v : List Logical). read_on s (map placed v)) is in
    let step = c.in_ok-take_line.ensures.read (map placed rest) in
    let stops : read_then c.in_ok-take_line.field-0 t (map placed rest) ≡ Ok t = elim c.in-Stops.is [
      | inl e ↦ ap (λ v. read_then v t (map placed rest)) e
      | inr e ↦ ap (λ v. read_then v t (map placed rest)) e
    ] in
    record {
      draft = c.in_ok-take_line.ensures.draft;
      read = read_as c.args.bytes.now t (same ∙ step ∙ stops);
      refused = tt;
    }

pub returns-clause-read : goal.returns-clause-read
returns-clause-read c =
    let left = c.loop-lines.lines.lines in
    let none : length left.left ≡ 0 = search rules in
    read_as c.args.bytes.now (reached_by c.loop-lines.reading) (c.loop-lines.invariant.read ∙ reads_end (reached_by c.loop-lines.reading) (left.number + 1) left.left none)
