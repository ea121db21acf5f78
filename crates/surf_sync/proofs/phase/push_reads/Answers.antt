use Rattle.std.proofs.Common.{◌≡◌, ◌<◌, ◌+◌, ◌∷◌, [], ℕ, length, get_or, take, rules, ap, ◌∙◌}
use Rattle.std.proofs.lemmas.Option.{slice_get-get_or}
use Rattle.surf_sync.specs.declared.code.Code.{Code}
use Rattle.surf_sync.specs.Codes.{read_rule}
use Rattle.surf_sync.specs.Codes.Mark.{Cell}
use Rattle.surf_sync.specs.Moved.{moved}
use Rattle.surf_sync.specs.Phases.{read_by, reads_of, state_of}
use Rattle.surf_world.specs.Worlds.{rule_of}
use Rattle.surf_sync.proofs.Said.{adds_more, adds_none, one_read, reads_more}
use Rattle.surf_sync.proofs.phase.push_reads.Goals as goal

pub loop-i-init : goal.loop-i-init
loop-i-init c = λ texts P reader g k knows stand. adds_none texts c.args.out.now.items

pub loop-i-preserved : goal.loop-i-preserved
loop-i-preserved c = λ texts P reader g k knows stand.
    let codes = c.args.codes.now in
    let i = c.loop-i.i in
    let none : Code = record { current = 0; generation = 0; colour = 0; previous = 0; reads = 0; acc = 0 } in
    let below : i < length codes = search rules in
    let shown = c.args.shown in
    let v : ℕ = state_of shown (get_or codes i none) in
    let small : v < length c.args.afters.now = c.requires.states i (get_or codes i none) (slice_get-get_or codes i none below) in
    let state : c.state_of.result ≡ v = search rules in
    let is : rule_of c.read_rule.result ≡ read_by c.args.left (get_or c.args.numbers.now (c.args.start + i) 0) (get_or c.args.afters.now v 0) =
    c.read_rule.ensures ∙ ap (λ s. read_by c.args.left (get_or c.args.numbers.now (c.args.start + i) 0) (get_or c.args.afters.now s 0)) state in
    adds_more texts c.args.out.now.items (reads_of P reader shown g k (take i codes)) (read_rule P reader (Cell (moved g k (get_or codes i none))) v ∷ []) (reads_of P reader shown g k (take (i + 1) codes)) c.loop-i.out.items c.push.new.out.items
    (c.loop-i.invariant texts P reader g k knows stand)
    (one_read texts P reader g k shown c.args.left c.args.afters.now c.args.numbers.now c.args.start codes i none c.loop-i.out.items c.read_rule.result c.push.new.out.items knows stand below small is c.in_ok-push.ensures)
    (reads_more P reader shown g k codes i none below)
