use Rattle.std.proofs.Common.{◌+◌}
use Rattle.std.proofs.lemmas.Result.{IfOk-weaker}
use Rattle.surf_text.specs.Bytes.{lines_of}
use Rattle.surf_rle.specs.Patterns.{marks_from}
use Rattle.surf_rle.proofs.Universes.{are_cells}
use Rattle.surf_rle.proofs.reader.read_box.Goals as goal

pub returns-clause-cells : goal.returns-clause-cells
returns-clause-cells c =
    IfOk-weaker c.read_cells.result _ _
    (λ v read. are_cells c.args.sheet v.items (marks_from (c.args.lines.now.number + 1) (lines_of c.args.lines.now.left))
    c.requires.placed c.in_ok-check_box.ensures.ok read)
    c.read_cells.ensures.ok
