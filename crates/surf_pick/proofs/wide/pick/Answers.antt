use Rattle.surf_pick.proofs.WideParts.{part_among}
use Rattle.surf_pick.proofs.wide.pick.Goals as goal

pub pick_pair-pair-requires : goal.pick_pair-pair-requires
pick_pair-pair-requires c = part_among c.args.sums.now 8 4 c.args.group c.args.r _ _ c.requires c.pick_half-half.ensures

pub pick_one-requires : goal.pick_one-requires
pick_one-requires c = part_among c.args.sums.now 4 2 _ _ _ _ (part_among c.args.sums.now 8 4 c.args.group c.args.r _ _ c.requires c.pick_half-half.ensures) c.pick_pair-pair.ensures
