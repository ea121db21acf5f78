-- What the adder comes to.
use Rattle.std.proofs.Common.{ℕ, zero, suc, ◌≡◌, ◌+◌, ◌*◌, ◌≤◌, Bool, true, false, List, [], ◌∷◌, ◌++◌, length, map, replicate, refl, sym, ◌∙◌, ap, arith, length-append}
use Rattle.std.proofs.lemmas.List.{length-map}
use Rattle.surf_rules.specs.Names.{text_of}
use Rattle.surf_demo.specs.Adders.{adder_bits, adder_text, one_bits}
use Rattle.surf_demo.specs.Summaries.{adder_lines}
use Rattle.surf_logic.specs.Answers.{HasEvalFault, IsEval}
use Rattle.surf_logic.specs.Equations.{Numbered}
use Rattle.surf_logic.specs.declared.values.EvalError.{EvalError}
use Rattle.surf_logic.specs.declared.values.EvalError.TheVariants as evals
use Rattle.surf_blif.specs.Blifs.{IsRead, Refuses, InText, InCircuit, TooLarge, parts_of}
use Rattle.surf_blif.specs.Grammar.{Unsupported, BadLine, BadCover, MixedCover}
use Rattle.surf_blif.specs.declared.error.BlifError.{BlifError}
use Rattle.surf_blif.specs.declared.error.BlifError.TheVariants as blifs
use Rattle.surf_manifest.specs.Grammar.{ManifestText}
use Rattle.surf_manifest_print.specs.Legends.{LegendText}
use Rattle.surf_circuit.specs.Circuits.{CircuitHolds}
use Rattle.surf_circuit.specs.Compiled.{IsSurfaceOf}
use Rattle.surf_status.specs.Calls.{EndsAs}
use Rattle.surf_status.specs.Endings.{answer_to_blif, answer_to_bits}
use Rattle.surf_status.specs.Writes.{Writes}
use Rattle.surf_command_circuits.specs.Calls.{adder_call}
use Rattle.surf_command_circuits.specs.Values.{values_text}
use Rattle.surf_command_circuits.proofs.AdderText.{adder_accepted, adder_cost, adder_inputs}
use Rattle.surf_command_circuits.proofs.Valued.{tells}

one_long : (n : ℕ) → length (one_bits n) ≡ n
one_long zero = refl
one_long (suc n) = length-append (one_bits n) _ ∙ (let e : length (one_bits n) + 1 ≡ suc n = omega (arith, one_long n) in e)

replicate_long : (n : ℕ) → length (replicate n true) ≡ n
replicate_long zero = refl
replicate_long (suc n) = ap suc (replicate_long n)

bits_long : (n : ℕ) → length (adder_bits n) ≡ 2 * n + 1
bits_long n =
    length-append (replicate n true) (one_bits n ++ false ∷ [])
    ∙ (let e : length (one_bits n ++ false ∷ []) ≡ length (one_bits n) + 1 = length-append (one_bits n) (false ∷ []) in
    let r : length (replicate n true) + length (one_bits n ++ false ∷ []) ≡ 2 * n + 1 = omega (arith, e, one_long n, replicate_long n) in r)

module _ (n : ℕ) (some : 1 ≤ n) (most : n ≤ 32) where
  -- the text is not refused
  pub adder_read : (e : BlifError) (w : Writes) → w.now ≡ w.before → Refuses (adder_text n) e → EndsAs (adder_call n) w (answer_to_blif e)
  adder_read (blifs.Unsupported k t) w kept r = adder_accepted n some most (InText (Unsupported k t)) r
  adder_read (blifs.BadLine k) w kept r = adder_accepted n some most (InText (BadLine k)) r
  adder_read (blifs.BadCover k) w kept r = adder_accepted n some most (InText (BadCover k)) r
  adder_read (blifs.MixedCover k) w kept r = adder_accepted n some most (InText (MixedCover k)) r
  adder_read (blifs.Circuit e) w kept r = adder_accepted n some most (InCircuit r.0) r.2
  adder_read (blifs.TooLarge k) w kept r = adder_accepted n some most (TooLarge k) r
  adder_read blifs.NoMemory w kept r = kept

  -- and neither are the bits
  pub adder_fits : (c : Numbered) (e : EvalError) (w : Writes) → w.now ≡ w.before → IsRead (adder_text n) c → HasEvalFault c (adder_bits n) e → EndsAs (adder_call n) w (answer_to_bits e)
  adder_fits c (evals.Length found wanted) w kept read h = h.2 (h.0 ∙ bits_long n ∙ sym (adder_inputs n some most) ∙ ap length (sym read.inputs) ∙ length-map c.parts.inputs (text_of c.names) ∙ sym h.1)
  adder_fits c evals.NoMemory w kept read h = kept

  module _ (c : Numbered) (read : IsRead (adder_text n) c) (m : ManifestText) (l : LegendText) (surface : IsSurfaceOf c m l) (holds : CircuitHolds (parts_of (adder_text n)) m.system l) where
    pub adder_shown : (values : List Bool) → IsEval c (adder_bits n) values → (adder_call n).Is (adder_lines n l.events ++ values_text (map (text_of c.names) c.parts.outputs) values)
    adder_shown values ev =
        let t = tells (adder_text n) c (adder_bits n) values read ev in
        record {
          circuit = c;
          read = read;
          cost = adder_cost n some most;
          manifest = m;
          legend = l;
          surface = surface;
          computes = holds;
          values = t.values;
          solved = t.solved;
          is = ap (λ lines. adder_lines n l.events ++ lines) t.is;
        }
