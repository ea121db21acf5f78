use Rattle.std.proofs.Common.{◌+◌, ◌∷◌, [], ℕ, Some, length, length-append, map, ap, sym, subst, ◌∙◌}
use Rattle.surf_sync.specs.Codes.{protocol, read}
use Rattle.surf_sync.specs.Codes.Mark.{Cell}
use Rattle.surf_sync.specs.Listing.{Name}
use Rattle.surf_sync.specs.Rules.{below}
use Rattle.surf_sync.specs.Spelling.{spell}
use Rattle.surf_sync.proofs.Said.{name_push}
use Rattle.surf_sync.proofs.phase.number_afters.Goals as goal

pub loop-state-preserved : goal.loop-state-preserved
loop-state-preserved g c =
    let R = g.L.Local.rule c.args.stage.now.local.now in
    let P = protocol R c.args.stage.now.edge c.args.stage.now.last in
    let i = c.loop-state.invariant in
    let s : ℕ = c.loop-state.state in
    record {
      count = ap length c.in_ok-push.ensures ∙ length-append c.loop-state.afters.items (c.number_at.result ∷ []) ∙ ap (λ n. n + 1) i.count;
      named = λ texts names.
          name_push texts c.loop-state.afters.items (λ v. spell (Cell (read P c.args.reader.now v))) s c.number_at.result c.push.new.out.items
          (i.named texts names) (c.number_at.ensures texts names ∙ ap (λ x. Some (spell (Cell x))) c.read-after.ensures.read) c.in_ok-push.ensures;
    }

pub returns-clause-named : goal.returns-clause-named
returns-clause-named g c = λ texts names.
    let R = g.L.Local.rule c.args.stage.now.local.now in
    let P = protocol R c.args.stage.now.edge c.args.stage.now.last in
    subst (λ n. Name texts c.loop-state.afters.items (map (λ s. spell (Cell (read P c.args.reader.now s))) (below n))) (sym c.loop-state.invariant.count) (c.loop-state.invariant.named texts names)
