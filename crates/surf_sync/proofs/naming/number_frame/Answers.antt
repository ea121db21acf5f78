use Rattle.std.proofs.Common.{◌+◌, ◌∙◌, arith}
use Rattle.surf_sync.specs.Codes.Mark.{Frame}
use Rattle.surf_sync.specs.Moved.{frame_texts}
use Rattle.surf_sync.specs.Spelling.{spell}
use Rattle.surf_sync.proofs.Growing.{numbers_few, numbers_push, keeps_then}
use Rattle.surf_sync.proofs.Loops.{map_one_more}
use Rattle.surf_sync.proofs.Moved.{frame_length}
use Rattle.surf_sync.proofs.naming.number_frame.Goals as goal

pub push_number-requires : goal.push_number-requires
push_number-requires c =
    let few = numbers_few _ _ (frame_texts c.loop-colour.colour) _ _ c.loop-colour.invariant.numbers in
    omega (arith, few, frame_length c.loop-colour.colour)

pub loop-colour-preserved : goal.loop-colour-preserved
loop-colour-preserved c =
    let i = c.loop-colour.invariant in
    let p = c.in_ok-push_number.ensures in
    let k = c.loop-colour.colour in
    record {
      numbers = numbers_push c.args.names.now c.args.numbers.now.items (frame_texts k) (frame_texts (k + 1)) c.loop-colour.names c.loop-colour.numbers.items c.deref.result.now (spell (Frame k)) c.push_number.new.names c.push_number.new.numbers.items
          i.numbers p.numbers (c.deref.ensures.value ∙ c.in_ok-name.ensures) (map_one_more (λ j. spell (Frame j)) k);
      count = omega (arith, i.count, p.count);
      keeps = keeps_then c.args.names.now c.loop-colour.names c.push_number.new.names i.keeps p.keeps;
    }
