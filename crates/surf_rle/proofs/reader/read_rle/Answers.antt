use Rattle.std.proofs.Common.{◌≡◌, Some, Ok, Err, IfOk, IfErr, Result, ap, sym, subst, ◌∙◌}
use Rattle.surf_text.specs.Bytes.{lines_of}
use Rattle.surf_text.specs.Cursors.{Kept}
use Rattle.surf_auto.specs.declared.error.SourceError.{SourceError}
use Rattle.surf_auto.specs.declared.error.SourceError.TheVariants.{BadHeader}
use Rattle.surf_rle.specs.Rle.{Refuses, if_header, rle_of}
use Rattle.surf_rle.specs.Said.{header_by}
use Rattle.surf_rle.specs.Sources.{Source, source_by}
use Rattle.surf_rle.proofs.HeaderLines.{text_found, text_missing}
use Rattle.surf_rle.proofs.reader.read_rle.Goals as goal

pub returns-in_default-clause-refused : goal.returns-in_default-clause-refused
returns-in_default-clause-refused c =
    text_missing c.args.margin c.args.bytes.now c.new-lines.result c.number.result c.new-lines.ensures c.in_default.ensures.none (c.number.ensures ∙ c.in_default.ensures.counted)

pub returns-in_default-read_header-clause-refused : goal.returns-in_default-read_header-clause-refused
returns-in_default-read_header-clause-refused c =
    let after = c.next_kept.new.self in
    let k : Kept = record { line = c.in-Some.line.now; number = after.number; behind = lines_of after.left } in
    text_found c.args.margin c.args.bytes.now c.new-lines.result k c.new-lines.ensures c.in-Some.ensures.line
    ∙ ap (λ h. if_header c.args.margin k.number h k.behind) c.in_default-read_header.ensures
    ∙ ap (λ n. Err (BadHeader n)) (sym c.number-in_default-read_header.ensures)

pub returns-clause-ok : goal.returns-clause-ok
returns-clause-ok c =
    let after = c.next_kept.new.self in
    let k : Kept = record { line = c.in-Some.line.now; number = after.number; behind = lines_of after.left } in
    let same : rle_of c.args.margin c.args.bytes.now ≡ if_header c.args.margin k.number (Some (header_by c.in-Some-read_header.header)) k.behind =
    text_found c.args.margin c.args.bytes.now c.new-lines.result k c.new-lines.ensures c.in-Some.ensures.line
    ∙ ap (λ h. if_header c.args.margin k.number h k.behind) c.in-Some-read_header.ensures in
    subst (λ (v : Result Source SourceError). IfOk c.read_pattern.result (λ p. v ≡ Ok (source_by p))) (sym same) c.read_pattern.ensures.ok

pub returns-clause-refused : goal.returns-clause-refused
returns-clause-refused c =
    let after = c.next_kept.new.self in
    let k : Kept = record { line = c.in-Some.line.now; number = after.number; behind = lines_of after.left } in
    let same : rle_of c.args.margin c.args.bytes.now ≡ if_header c.args.margin k.number (Some (header_by c.in-Some-read_header.header)) k.behind =
    text_found c.args.margin c.args.bytes.now c.new-lines.result k c.new-lines.ensures c.in-Some.ensures.line
    ∙ ap (λ h. if_header c.args.margin k.number h k.behind) c.in-Some-read_header.ensures in
    subst (λ (v : Result Source SourceError). IfErr c.read_pattern.result (λ f. Refuses v f)) (sym same) c.read_pattern.ensures.refused
