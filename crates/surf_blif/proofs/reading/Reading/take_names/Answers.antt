use Rattle.std.proofs.Common.{rules, arith, ◌≡◌, ◌-◌, length, refl}
use Rattle.surf_text.specs.Bytes.{tokens_of}
use Rattle.surf_blif.specs.Logical.{front_of}
use Rattle.surf_blif.specs.Drafts.{held_by}
use Rattle.surf_blif.specs.Steps.{keeping, with_equation}
use Rattle.surf_blif.proofs.Lists.{front_length}
use Rattle.surf_blif.proofs.reading.Reading.take_names.Goals as goal

pub returns-clause-step : goal.returns-clause-step
returns-clause-step c =
    let h = held_by c.args.self.now.draft in
    let ts = tokens_of c.args.line.now in
    let count : c.count_tokens-count.result - 1 ≡ length (front_of ts) = omega (arith, c.count_tokens-count.ensures.is, front_length ts) in
    let held : held_by c.add_equation.new.self ≡ keeping h 1 (with_equation h.parts ts) = search rules in
    rw (count, held) refl
