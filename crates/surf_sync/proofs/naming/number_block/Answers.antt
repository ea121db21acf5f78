use Rattle.std.proofs.Common.{◌<◌, ◌+◌, length, take, get_or, arith, rules, ◌∙◌}
use Rattle.std.proofs.lemmas.List.{length-take}
use Rattle.surf_sync.specs.declared.code.Code.{Code}
use Rattle.surf_sync.specs.Codes.Mark.{Cell}
use Rattle.surf_sync.specs.Moved.{block_texts, moved}
use Rattle.surf_sync.specs.Spelling.{spell}
use Rattle.surf_sync.proofs.Growing.{numbers_few, numbers_push, keeps_then}
use Rattle.surf_sync.proofs.Moved.{block_length, block_more}
use Rattle.surf_sync.proofs.naming.number_block.Goals as goal

pub push_number-requires : goal.push_number-requires
push_number-requires c =
    let i = c.loop-code.code-index in
    let codes = c.args.codes.now in
    let few = numbers_few _ _ (block_texts (take i codes) c.args.generation c.args.colour) _ _ c.loop-code.invariant.numbers in
    let below : i < length codes = search rules in
    omega (arith, few, block_length (take i codes) c.args.generation c.args.colour, length-take i codes, below)

pub loop-code-preserved : goal.loop-code-preserved
loop-code-preserved c =
    let inv = c.loop-code.invariant in
    let p = c.in_ok-push_number.ensures in
    let i = c.loop-code.code-index in
    let codes = c.args.codes.now in
    let g = c.args.generation in
    let k = c.args.colour in
    let below : i < length codes = search rules in
    let none : Code = record { current = 0; generation = 0; colour = 0; previous = 0; reads = 0; acc = 0 } in
    record {
      numbers = numbers_push c.args.names.now c.args.numbers.now.items (block_texts (take i codes) g k) (block_texts (take (i + 1) codes) g k) c.loop-code.names c.loop-code.numbers.items c.deref.result.now (spell (Cell (moved g k (get_or codes i none)))) c.push_number.new.names c.push_number.new.numbers.items
          inv.numbers p.numbers (c.deref.ensures.value ∙ c.in_ok-name.ensures) (block_more codes g k i none below);
      count = omega (arith, inv.count, p.count);
      keeps = keeps_then c.args.names.now c.loop-code.names c.push_number.new.names inv.keeps p.keeps;
    }
