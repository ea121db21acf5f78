use Rattle.surf_manifest.proofs.Growth.{grown_by, grown_then}
use Rattle.surf_manifest.proofs.numbering.intern_two.Goals as goal

pub returns-clause-grown : goal.returns-clause-grown
returns-clause-grown c =
    let old = c.args.names.now in
    let mid = c.intern.new.self in
    let new = c.intern-2.new.self in
    grown_then 1 1 old mid new (grown_by old mid c.args.a.now c.in_ok-first.ensures.grown) (grown_by mid new c.args.b.now c.in_ok-second.ensures.grown)
