use Rattle.surf_sync.specs.Shapes.{by_reads}
use Rattle.surf_sync.proofs.Loops.{flat_more}
use Rattle.surf_sync.proofs.shapes.push_previous.Goals as goal

pub loop-previous-preserved : goal.loop-previous-preserved
loop-previous-preserved g c = cc (flat_more (by_reads (g.L.Local.rule c.args.local.now) c.args.phase c.args.current) c.args.out.now.items c.loop-previous.previous, c.in_ok-push_reads.ensures)
