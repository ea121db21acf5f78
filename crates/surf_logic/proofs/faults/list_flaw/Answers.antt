use Rattle.std.proofs.Common.{rules, ◌≡◌, ◌∙◌, sym, subst, false, length, []}
use Rattle.std.proofs.Math.ListN.{replicate}
use Rattle.surf_logic.specs.Marks.{Marks}
use Rattle.surf_logic.proofs.Marking.{flags_is, no_marks}
use Rattle.surf_logic.proofs.faults.list_flaw.Goals as goal

pub returns-clause-is : goal.returns-clause-is
returns-clause-is c =
    let count = length c.args.parts.now.names in
    let one : c.deref_mut.result.now ≡ replicate count false = search rules in
    let two : c.deref_mut-2.result.now ≡ replicate count false = search rules in
    let m : Marks c.deref_mut.result.now [] = subst (λ v. Marks v []) (sym one) (no_marks count) in
    let s : Marks c.deref_mut-2.result.now [] = subst (λ v. Marks v []) (sym two) (no_marks count) in
    c.flaw_by.ensures.is ∙ flags_is c.deref_mut.result.now c.deref_mut-2.result.now c.args.parts.now c.requires.range (search rules) (search rules) m s
