use Rattle.surf_sync.specs.Rules.{code_of}
use Rattle.surf_sync.proofs.Loops.{map_more}
use Rattle.surf_sync.proofs.shapes.push_accs.Goals as goal

pub loop-acc-preserved : goal.loop-acc-preserved
loop-acc-preserved g c = cc (map_more (λ acc. code_of c.args.current 0 0 c.args.previous (record { reads = c.args.reads; acc = acc })) c.args.out.now.items c.loop-acc.acc, c.in_ok-push.ensures)
