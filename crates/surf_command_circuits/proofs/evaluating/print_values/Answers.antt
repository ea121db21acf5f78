use Rattle.std.proofs.Common.{rules, arith, ◌≡◌, ◌<◌, ◌≤◌, ◌++◌, ◌∷◌, [], ℕ, List, suc, false, get_or, length, map, take, drop, ap, sym, ◌∙◌, subst, IsErr}
use Rattle.std.proofs.lemmas.List.{take_all}
use Rattle.surf_base.specs.declared.outside.WriteFault.{WriteFault}
use Rattle.surf_base.specs.Emits.{Sent, Emits, outlet}
use Rattle.surf_base.proofs.EmitLemmas.{all_parts, cut_part}
use Rattle.surf_rules.specs.Names.{text_of}
use Rattle.surf_command_circuits.specs.Values.{bit_byte, value_line, values_text}
use Rattle.surf_cells.proofs.RowTexts.{sent_part}
use Rattle.surf_command_circuits.proofs.Valued.{values_next, values_split}
use Rattle.surf_command_circuits.proofs.evaluating.print_values.Goals as goal

pub returns-in_err-put_pieces : goal.returns-in_err-put_pieces
returns-in_err-put_pieces g c =
    let f = text_of c.args.names.now in
    let ns = c.args.outputs.now in
    let vs = c.args.values.now in
    let i = c.loop-i.i in
    let lt : i < length ns = search rules in
    let name : c.text.result.now ≡ f (get_or ns i 0) = search rules in
    let bit : c.bit_byte.result ≡ bit_byte (get_or vs i false) = search rules in
    let line = value_line (f (get_or ns i 0)) (get_or vs i false) in
    let failed : IsErr c.put_pieces.result = search rules in
    let put = λ (t : List ℕ) (b : ℕ). Emits {T = Unit {0}} {E = WriteFault} (outlet (g.K.Sink.written c.loop-i.out) c.loop-i.outbox (g.K.Sink.faults c.loop-i.out)) (outlet (g.K.Sink.written c.put_pieces.new.sink) c.put_pieces.new.self (g.K.Sink.faults c.put_pieces.new.sink)) (t ++ 32 ∷ b ∷ 10 ∷ []) c.put_pieces.result in
    cut_part _ _ _ _ _ _ _ _ _ (values_text (map f (take i ns)) (take i vs)) line (values_text (map f (drop (suc i) ns)) (drop (suc i) vs)) (values_text (map f ns) vs) c.put_pieces.result _
    (values_split f ns vs i lt c.requires.same) c.loop-i.invariant.sent c.loop-i.invariant.later failed c.from_residual.ensures.0
    (subst (λ (b : ℕ). put (f (get_or ns i 0)) b) bit (subst (λ (t : List ℕ). put t c.bit_byte.result) name c.put_pieces.ensures))

pub loop-i-preserved : goal.loop-i-preserved
loop-i-preserved g c =
    let f = text_of c.args.names.now in
    let ns = c.args.outputs.now in
    let vs = c.args.values.now in
    let i = c.loop-i.i in
    let lt : i < length ns = search rules in
    let name : c.text.result.now ≡ f (get_or ns i 0) = search rules in
    let bit : c.bit_byte.result ≡ bit_byte (get_or vs i false) = search rules in
    let line = value_line (f (get_or ns i 0)) (get_or vs i false) in
    let put = λ (t : List ℕ) (b : ℕ). Sent (g.K.Sink.written c.loop-i.out) (g.K.Sink.written c.put_pieces.new.sink) c.loop-i.outbox c.put_pieces.new.self (t ++ 32 ∷ b ∷ 10 ∷ []) in
    record {
      sent =
          sent_part _ _ _ _ _ _ (values_text (map f (take i ns)) (take i vs)) line _ (values_next f ns vs i lt c.requires.same) c.loop-i.invariant.sent
          (subst (λ (b : ℕ). put (f (get_or ns i 0)) b) bit (subst (λ (t : List ℕ). put t c.bit_byte.result) name c.in_ok-put_pieces.ensures.whole));
      later = omega (arith, c.loop-i.invariant.later, c.put_pieces.ensures.later);
    }

pub returns : goal.returns
returns g c =
    let f = text_of c.args.names.now in
    let ns = c.args.outputs.now in
    let vs = c.args.values.now in
    let i = c.loop-i.i in
    let le : length ns ≤ i = c.loop-i-test.false in
    all_parts _ _ _ _ _ _ (values_text (map f (take i ns)) (take i vs)) (values_text (map f ns) vs)
    (ap (λ xs. values_text (map f xs) vs) (sym (take_all i ns le)) ∙ ap (λ ys. values_text (map f (take i ns)) ys) (sym (take_all i vs (omega (arith, le, c.requires.same)))))
    c.loop-i.invariant.sent c.loop-i.invariant.later
