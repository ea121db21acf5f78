use Rattle.std.proofs.Common.{rules, arith, ◌∙◌, ◌-◌, length}
use Rattle.surf_manifest_lines.specs.Answers.{Refuses}
use Rattle.surf_manifest.specs.Grammar.{manifest_of}
use Rattle.surf_manifest.specs.Readings.{reached_by}
use Rattle.surf_manifest.proofs.Counts.{room_by}
use Rattle.surf_manifest.proofs.Runs.{begins, after_begins, goes_on, after_goes_on, refused, counted_start, counted_on}
use Rattle.surf_manifest.proofs.reader.read_lines.Goals as goal

pub loop-line-init : goal.loop-line-init
loop-line-init c =
    let s = reached_by c.new-reading.result in
    rw c.new-lines.ensures (record {
      draft = c.new-reading.ensures.draft;
      within = omega arith;
      counted = counted_start s (length c.args.text.now - length c.args.text.now) c.new-reading.ensures.start;
      read = begins s c.args.text.now c.new-reading.ensures.start;
      after = after_begins s c.args.text.now c.new-reading.ensures.start;
    })

pub returns-in_err-read_line-clause-refused : goal.returns-in_err-read_line-clause-refused
returns-in_err-read_line-clause-refused c =
    let told : Refuses (manifest_of c.args.text.now) c.in_err-read_line.field-0.0 =
    refused (reached_by c.loop-line.reading) c.in_err-read_line.field-0.0 c.args.text.now c.loop-line.lines.left c.in-Some.line.now c.next.new.self.left c.loop-line.invariant.read c.in-Some.ensures.line c.in_err-read_line.ensures.step in
    search rules

pub loop-line-preserved : goal.loop-line-preserved
loop-line-preserved c =
    let i = c.loop-line.invariant in
    let s = reached_by c.loop-line.reading in
    let d = reached_by c.read_line.new.self in
    let bytes = c.loop-line.lines.left in
    let line = c.in-Some.line.now in
    let rest = c.next.new.self.left in
    let e = c.in-Some.ensures in
    let step = c.in_ok-read_line.ensures.step in
    record {
      draft = c.in_ok-read_line.ensures.draft;
      within = omega (arith, i.within, e.shorter);
      counted = counted_on (length c.args.text.now) bytes line rest s d i.within e.shorter e.part i.counted step;
      read = i.read ∙ goes_on s d bytes line rest e.line step;
      after = i.after ∙ after_goes_on s d bytes line rest e.line step;
    }

pub read_line-requires-clause-room : goal.read_line-requires-clause-room
read_line-requires-clause-room c =
    let i = c.loop-line.invariant in
    let all = length c.args.text.now in
    room_by (all - length c.loop-line.lines.left) (length c.in-Some.line.now) (reached_by c.loop-line.reading) (omega (arith, i.within, c.in-Some.ensures.part, c.requires)) i.counted
