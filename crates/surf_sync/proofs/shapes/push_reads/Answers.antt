use Rattle.surf_sync.specs.Shapes.{by_acc}
use Rattle.surf_sync.proofs.Loops.{flat_more}
use Rattle.surf_sync.proofs.shapes.push_reads.Goals as goal

pub loop-reads-preserved : goal.loop-reads-preserved
loop-reads-preserved g c = cc (flat_more (by_acc (g.L.Local.rule c.args.local.now) c.args.phase c.args.current c.args.previous) c.args.out.now.items c.loop-reads.reads, c.in_ok-push_accs.ensures)
