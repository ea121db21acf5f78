use Rattle.std.proofs.Common.{rules, ℕ, ◌≡◌, ◌≤◌, ◌∙◌, ◌++◌, Bool, List, length, map, refl, sym, subst, arith}
use Rattle.surf_demo.specs.Adders.{adder_bits, adder_text}
use Rattle.surf_demo.proofs.Lengths.{adder_short}
use Rattle.surf_demo.specs.Summaries.{adder_lines}
use Rattle.surf_rules.specs.Names.{text_of}
use Rattle.surf_logic.specs.Answers.{HasEvalFault, IsEval}
use Rattle.surf_blif.specs.Blifs.{IsRead, Refuses, parts_of}
use Rattle.surf_status.specs.declared.status.Status.{Status}
use Rattle.surf_status.specs.Calls.{EndsAs}
use Rattle.surf_status.specs.Writes.{Wrote, writes}
use Rattle.surf_status.proofs.Endings.{text_ends, loud}
use Rattle.surf_command_circuits.specs.Calls.{adder_call}
use Rattle.surf_command_circuits.specs.Values.{values_text}
use Rattle.surf_command_circuits.proofs.Adders.{adder_read, adder_fits, adder_shown}
use Rattle.surf_command_circuits.proofs.Surfaces.{spelled}
use Rattle.surf_command_circuits.proofs.adding.show_adder.Goals as goal

pub read_blif-requires : goal.read_blif-requires
read_blif-requires g c =
    let is : c.deref.result.now ≡ adder_text c.args.n = c.deref.ensures.value ∙ c.in-Ok.ensures in
    let short : length c.deref.result.now ≤ 5000 = subst (λ (b : List ℕ). length b ≤ 5000) (sym is) (adder_short c.args.n c.requires.1) in
    omega (arith, short)

pub returns-in-Err-clause-ends : goal.returns-in-Err-clause-ends
returns-in-Err-clause-ends g c =
    let n = c.args.n in
    let refuses : Refuses (adder_text n) c.in-Err.error = subst (λ (b : List ℕ). Refuses b c.in-Err.error) (c.deref.ensures.value ∙ c.in-Ok.ensures) c.in-Err.ensures.refused in
    subst (λ (s : Status). EndsAs (adder_call n) (writes g.K.Sink.written g.K.Sink.faults c.args.out.now c.args.out.now) s) (sym c.refused_blif.ensures)
    (adder_read n c.requires.0 c.requires.1 c.in-Err.error _ refl refuses)

pub returns-in-Err-eval-clause-ends : goal.returns-in-Err-eval-clause-ends
returns-in-Err-eval-clause-ends g c =
    let n = c.args.n in
    let circuit = c.in-Ok-read_blif.circuit in
    let read : IsRead (adder_text n) circuit = subst (λ (b : List ℕ). IsRead b circuit) (c.deref.ensures.value ∙ c.in-Ok.ensures) c.in-Ok-read_blif.ensures.ok in
    let fault : HasEvalFault circuit (adder_bits n) c.in-Err-eval.error = subst (λ (b : List Bool). HasEvalFault circuit b c.in-Err-eval.error) (c.deref-2.ensures.value ∙ c.in-Ok-adder_bits.ensures) c.in-Err-eval.ensures in
    subst (λ (s : Status). EndsAs (adder_call n) (writes g.K.Sink.written g.K.Sink.faults c.args.out.now c.args.out.now) s) (sym c.refused_bits.ensures)
    (adder_fits n c.requires.0 c.requires.1 circuit c.in-Err-eval.error _ refl read fault)

pub returns-clause-ends : goal.returns-clause-ends
returns-clause-ends g c =
    let n = c.args.n in
    let circuit = c.in-Ok-read_blif.circuit in
    let legend = c.in-Ok-compile.legend in
    let answer = c.in-Ok-eval.values.items in
    let read : IsRead (adder_text n) circuit = subst (λ (b : List ℕ). IsRead b circuit) (c.deref.ensures.value ∙ c.in-Ok.ensures) c.in-Ok-read_blif.ensures.ok in
    let ev : IsEval circuit (adder_bits n) answer = subst (λ (b : List Bool). IsEval circuit b answer) (c.deref-2.ensures.value ∙ c.in-Ok-adder_bits.ensures) c.in-Ok-eval.ensures in
    let o = writes g.K.Sink.written g.K.Sink.faults c.args.out.now c.write_summary.new.out in
    let told : ℕ → List Bool → List ℕ = λ events vs. adder_lines n events ++ values_text (map (text_of circuit.names) circuit.parts.outputs) vs in
    let events : c.legend.inside.events ≡ legend.events = search rules in
    text_ends (adder_call n) o (told legend.events answer) c.write_summary.result _ c.ended.ensures
    (adder_shown n c.requires.0 c.requires.1 circuit read c.in-Ok-compile._manifest.text legend c.in-Ok-compile.ensures.surface
    (c.in-Ok-compile.ensures.holds (parts_of (adder_text n)) (spelled (adder_text n) circuit read)) answer ev) tt
    (subst (λ (vs : List Bool). Wrote o (told legend.events vs) c.write_summary.result) c.deref-3.ensures.value
    (subst (λ (events : ℕ). Wrote o (told events c.deref-3.result.now) c.write_summary.result) events c.write_summary.ensures))

pub returns-clause-quiet : goal.returns-clause-quiet
returns-clause-quiet g c = λ quiet. absurd (loud c.write_summary.result _ c.ended.ensures quiet)
