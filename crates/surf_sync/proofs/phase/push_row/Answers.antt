use Rattle.std.proofs.Common.{◌<◌, ◌+◌, length, get_or, take, rules}
use Rattle.std.proofs.lemmas.Option.{slice_get-get_or}
use Rattle.surf_sync.specs.declared.code.Code.{Code}
use Rattle.surf_sync.specs.Codes.{protocol}
use Rattle.surf_sync.specs.Moved.{moved}
use Rattle.surf_sync.specs.Phases.{row_rules}
use Rattle.surf_sync.specs.Rules.{rules_of}
use Rattle.surf_sync.proofs.Rows.{flat_take_more}
use Rattle.surf_sync.proofs.Said.{adds_more, adds_none}
use Rattle.surf_sync.proofs.phase.push_row.Goals as goal

pub push_reader-requires-clause-reader : goal.push_reader-requires-clause-reader
push_reader-requires-clause-reader g c =
    let i = c.loop-code.code-index in
    let row = c.args.row.now in
    let none : Code = record { current = 0; generation = 0; colour = 0; previous = 0; reads = 0; acc = 0 } in
    let below : i < length row = search rules in
    c.requires.row c.args.generation c.args.colour i (get_or row i none) c.requires.listed c.requires.number c.requires.colour (slice_get-get_or row i none below)

pub loop-code-init : goal.loop-code-init
loop-code-init g c = λ texts names. adds_none texts c.args.out.now.items

pub loop-code-preserved : goal.loop-code-preserved
loop-code-preserved g c = λ texts names.
    let P = protocol (g.L.Local.rule c.args.stage.now.local.now) c.args.stage.now.edge c.args.stage.now.last in
    let f = c.args.stage.now.number in
    let i = c.loop-code.code-index in
    let row = c.args.row.now in
    let none : Code = record { current = 0; generation = 0; colour = 0; previous = 0; reads = 0; acc = 0 } in
    let below : i < length row = search rules in
    adds_more texts c.args.out.now.items (row_rules P f (take i row) c.args.generation c.args.colour) (rules_of P f (moved c.args.generation c.args.colour (get_or row i none))) (row_rules P f (take (i + 1) row) c.args.generation c.args.colour) c.loop-code.out.items c.push_reader.new.out.items
    (c.loop-code.invariant texts names) (c.in_ok-push_reader.ensures texts names) (flat_take_more (λ d. rules_of P f (moved c.args.generation c.args.colour d)) row i none below)
