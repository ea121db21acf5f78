use Rattle.std.proofs.Common.{◌≤◌, ◌+◌, ◌*◌, length, arith}
use Rattle.std.proofs.Math.Nat.{mul-le-mul_right}
use Rattle.surf_sync.specs.Moved.{block_texts, generation_texts}
use Rattle.surf_sync.proofs.Growing.{numbers_few, numbers_more, keeps_then}
use Rattle.surf_sync.proofs.Loops.{flat_one_more}
use Rattle.surf_sync.proofs.Moved.{generation_length}
use Rattle.surf_sync.proofs.naming.number_generation.Goals as goal

pub number_block-requires : goal.number_block-requires
number_block-requires c =
    let k = c.loop-colour.colour in
    let n = length c.args.codes.now in
    let few = numbers_few _ _ (generation_texts c.args.codes.now c.args.generation k) _ _ c.loop-colour.invariant.numbers in
    let t = c.loop-colour-test.true in
    let m : (k + 1) * n ≤ (c.args.degree + 1) * n = mul-le-mul_right n (let le : k + 1 ≤ c.args.degree + 1 = omega arith in le) in
    omega (arith, few, generation_length c.args.codes.now c.args.generation k, m)

pub loop-colour-preserved : goal.loop-colour-preserved
loop-colour-preserved c =
    let i = c.loop-colour.invariant in
    let p = c.in_ok-number_block.ensures in
    let k = c.loop-colour.colour in
    let codes = c.args.codes.now in
    let g = c.args.generation in
    record {
      numbers = numbers_more c.args.names.now c.args.numbers.now.items (generation_texts codes g k) (block_texts codes g k) (generation_texts codes g (k + 1)) c.loop-colour.names c.loop-colour.numbers.items c.number_block.new.names c.number_block.new.numbers.items
          i.numbers p.numbers (flat_one_more (block_texts codes g) k);
      count = omega (arith, i.count, p.count);
      keeps = keeps_then c.args.names.now c.loop-colour.names c.number_block.new.names i.keeps p.keeps;
    }
