use Rattle.std.proofs.Common.{rules, codes, ◌≡◌, ◌++◌, ℕ, List, map, refl, subst, IsErr}
use Rattle.surf_base.specs.declared.outside.WriteFault.{WriteFault}
use Rattle.surf_base.specs.Emits.{Sent, Emits, outlet}
use Rattle.surf_base.proofs.EmitLemmas.{after_whole, cut_part}
use Rattle.surf_rules.specs.Names.{text_of}
use Rattle.surf_text.specs.Bytes.{ended, spaced, rows_of}
use Rattle.surf_command_runs.specs.Prints.{number_word}
use Rattle.surf_cells.specs.Rows.{rows_text}
use Rattle.surf_command_runs.specs.Runs.{state_foot}
use Rattle.surf_status.proofs.Emitting.{cut_before}
use Rattle.surf_command_runs.proofs.print.print_end.Goals as goal

pub returns-in_err-put : goal.returns-in_err-put
returns-in_err-put g c =
    let w = c.args.world.now in
    let rest = rows_text w.surface.grid (map (text_of c.args.names.now) w.names) ++ (state_foot ++ number_word w.surface w.names) in
    let failed : IsErr c.put.result = search rules in
    cut_before _ _ _ _ _ _ (codes "!START_INIT_STATE\n") rest c.put.result _ failed c.from_residual.ensures.0 c.put.ensures

pub returns-in_err-print_rows : goal.returns-in_err-print_rows
returns-in_err-print_rows g c =
    let w = c.args.world.now in
    let texts = map (text_of c.args.names.now) w.names in
    let rows = rows_text w.surface.grid texts in
    let last = state_foot ++ number_word w.surface w.names in
    let wide : c.width-width.result ≡ w.surface.grid.width = search rules in
    let tall : c.height-height.result ≡ w.surface.grid.height = search rules in
    let printed = λ (a b : ℕ). Emits {T = Unit {0}} {E = WriteFault} (outlet (g.K.Sink.written c.put.new.sink) c.put.new.self (g.K.Sink.faults c.put.new.sink)) (outlet (g.K.Sink.written c.print_rows.new.out) c.print_rows.new.outbox (g.K.Sink.faults c.print_rows.new.out)) (ended (map spaced (rows_of a b texts))) c.print_rows.result in
    let emits : Emits {T = Unit {0}} {E = WriteFault} (outlet (g.K.Sink.written c.put.new.sink) c.put.new.self (g.K.Sink.faults c.put.new.sink)) (outlet (g.K.Sink.written c.print_rows.new.out) c.print_rows.new.outbox (g.K.Sink.faults c.print_rows.new.out)) rows c.print_rows.result =
    subst (λ (a : ℕ). printed a w.surface.grid.height) wide (subst (λ (b : ℕ). printed c.width-width.result b) tall c.print_rows.ensures) in
    let failed : IsErr c.print_rows.result = search rules in
    cut_part _ _ _ _ _ _ _ _ _ (codes "!START_INIT_STATE\n") rows last _ c.print_rows.result _ refl c.in_ok-put.ensures.whole c.put.ensures.later failed c.from_residual-in_err-print_rows.ensures.0 emits

pub returns : goal.returns
returns g c =
    let w = c.args.world.now in
    let texts = map (text_of c.args.names.now) w.names in
    let rows = rows_text w.surface.grid texts in
    let last = state_foot ++ number_word w.surface w.names in
    let wide : c.width-width.result ≡ w.surface.grid.width = search rules in
    let tall : c.height-height.result ≡ w.surface.grid.height = search rules in
    let before = g.K.Sink.written c.put.new.sink in
    let between = g.K.Sink.written c.print_rows.new.out in
    let sent : Sent before between c.put.new.self c.print_rows.new.outbox rows =
    subst (λ (a : ℕ). Sent before between c.put.new.self c.print_rows.new.outbox (ended (map spaced (rows_of a w.surface.grid.height texts)))) wide
    (subst (λ (b : ℕ). Sent before between c.put.new.self c.print_rows.new.outbox (ended (map spaced (rows_of c.width-width.result b texts)))) tall c.in_ok-print_rows.ensures.whole) in
    let foot : Emits {T = Unit {0}} {E = WriteFault} (outlet between c.print_rows.new.outbox (g.K.Sink.faults c.print_rows.new.out)) (outlet (g.K.Sink.written c.put_pieces.new.sink) c.put_pieces.new.self (g.K.Sink.faults c.put_pieces.new.sink)) last c.put_pieces.result =
    subst (λ (t : List ℕ). Emits {T = Unit {0}} {E = WriteFault} (outlet between c.print_rows.new.outbox (g.K.Sink.faults c.print_rows.new.out)) (outlet (g.K.Sink.written c.put_pieces.new.sink) c.put_pieces.new.self (g.K.Sink.faults c.put_pieces.new.sink)) (state_foot ++ t) c.put_pieces.result)
    c.last_word-word.ensures c.put_pieces.ensures in
    after_whole _ _ _ _ _ _ _ _ _ (codes "!START_INIT_STATE\n") (rows ++ last) _ c.in_ok-put.ensures.whole c.put.ensures.later
    (after_whole _ _ _ _ _ _ _ _ _ rows last _ sent c.print_rows.ensures.later foot)
