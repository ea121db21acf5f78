use Rattle.std.proofs.Common.{rules, arith, ◌≡◌, ◌++◌, ◌∷◌, [], ℕ, List, Some, suc, length, map, take, drop, slice_get, refl, ◌∙◌, subst, IsErr}
use Rattle.std.proofs.lemmas.Option.{slice_get_read}
use Rattle.surf_base.specs.declared.outside.WriteFault.{WriteFault}
use Rattle.surf_base.specs.Emits.{Sent, Emits, outlet}
use Rattle.surf_base.proofs.EmitLemmas.{cut_part}
use Rattle.surf_lattice.specs.Grids.{place}
use Rattle.surf_rules.specs.Names.{text_of}
use Rattle.surf_command_traces.specs.Finals.{final_byte, final_line, finals_text}
use Rattle.surf_cells.proofs.RowTexts.{sent_part}
use Rattle.surf_command_traces.proofs.Finals.{lines_next, lines_split, output_inside, number_within, value_there}
use Rattle.surf_command_traces.proofs.outputs.print_finals.Goals as goal

pub at-requires : goal.at-requires
at-requires g c =
    let ps = c.args.places.now in
    let p = c.output-item.result in
    let at : slice_get ps c.loop-output.output-index ≡ Some p = slice_get_read ps (length ps) c.loop-output.output-index p refl c.loop-output-test.true c.output-item.is in
    output_inside c.args.world.now.surface.grid ps c.loop-output.output-index p c.requires.inside at

pub text-requires : goal.text-requires
text-requires g c = number_within (length c.args.names.now) c.args.world.now.names _ c.at.result c.requires.names c.at.ensures

pub returns-in_err-put_pieces : goal.returns-in_err-put_pieces
returns-in_err-put_pieces g c =
    let ps = c.args.places.now in
    let p = c.output-item.result in
    let i = c.loop-output.output-index in
    let w = c.args.world.now in
    let names = map (text_of c.args.names.now) w.names in
    let at : slice_get ps i ≡ Some p = slice_get_read ps (length ps) i p refl c.loop-output-test.true c.output-item.is in
    let name : c.bytes.result.now ≡ p.name = c.bytes.ensures in
    let value : c.final_byte-value.result ≡ final_byte (slice_get names (place w.surface.grid p.site)) =
    c.final_byte-value.ensures ∙ value_there c.args.names.now w.names (place w.surface.grid p.site) c.at.result c.text.result.now c.at.ensures c.text.ensures in
    let failed : IsErr c.put_pieces.result = search rules in
    let put = λ (t : List ℕ) (b : ℕ). Emits {T = Unit {0}} {E = WriteFault} (outlet (g.K.Sink.written c.loop-output.out) c.loop-output.outbox (g.K.Sink.faults c.loop-output.out)) (outlet (g.K.Sink.written c.put_pieces.new.sink) c.put_pieces.new.self (g.K.Sink.faults c.put_pieces.new.sink)) (t ++ 32 ∷ b ∷ 10 ∷ []) c.put_pieces.result in
    cut_part _ _ _ _ _ _ _ _ _ (finals_text w.surface.grid names (take i ps)) (final_line w.surface.grid names p) (finals_text w.surface.grid names (drop (suc i) ps)) (finals_text w.surface.grid names ps) c.put_pieces.result _
    (lines_split (final_line w.surface.grid names) ps i p at) c.loop-output.invariant.sent c.loop-output.invariant.later failed c.from_residual.ensures.0
    (subst (λ (b : ℕ). put p.name b) value (subst (λ (t : List ℕ). put t c.final_byte-value.result) name c.put_pieces.ensures))

pub loop-output-preserved : goal.loop-output-preserved
loop-output-preserved g c =
    let ps = c.args.places.now in
    let p = c.output-item.result in
    let i = c.loop-output.output-index in
    let w = c.args.world.now in
    let names = map (text_of c.args.names.now) w.names in
    let at : slice_get ps i ≡ Some p = slice_get_read ps (length ps) i p refl c.loop-output-test.true c.output-item.is in
    let name : c.bytes.result.now ≡ p.name = c.bytes.ensures in
    let value : c.final_byte-value.result ≡ final_byte (slice_get names (place w.surface.grid p.site)) =
    c.final_byte-value.ensures ∙ value_there c.args.names.now w.names (place w.surface.grid p.site) c.at.result c.text.result.now c.at.ensures c.text.ensures in
    let put = λ (t : List ℕ) (b : ℕ). Sent (g.K.Sink.written c.loop-output.out) (g.K.Sink.written c.put_pieces.new.sink) c.loop-output.outbox c.put_pieces.new.self (t ++ 32 ∷ b ∷ 10 ∷ []) in
    record {
      sent =
          sent_part _ _ _ _ _ _ (finals_text w.surface.grid names (take i ps)) (final_line w.surface.grid names p) _ (lines_next (final_line w.surface.grid names) ps i p at) c.loop-output.invariant.sent
          (subst (λ (b : ℕ). put p.name b) value (subst (λ (t : List ℕ). put t c.final_byte-value.result) name c.in_ok-put_pieces.ensures.whole));
      later = omega (arith, c.loop-output.invariant.later, c.put_pieces.ensures.later);
    }
