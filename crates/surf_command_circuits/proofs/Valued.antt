-- The lines of a circuit's outputs, and what they tell of the text that was read.
use Rattle.std.proofs.Common.{ℕ, zero, suc, ◌≡◌, ◌+◌, ◌<◌, Bool, false, List, [], ◌∷◌, ◌++◌, length, map, take, drop, get_or, refl, sym, ◌∙◌, ap, subst, arith, append_assoc, append-nil}
use Rattle.std.proofs.lemmas.List.{length-map}
use Rattle.std.specs.Str.{bytes_eq}
use Rattle.surf_rules.specs.Names.{text_of}
use Rattle.surf_logic.specs.Equations.{Numbered}
use Rattle.surf_logic.specs.Answers.{EvalOf, IsEval, HasEvalFault}
use Rattle.surf_logic.proofs.NamedTexts.{values}
use Rattle.surf_blif.specs.Blifs.{IsRead, Refuses}
use Rattle.surf_blif.specs.declared.error.BlifError.{BlifError}
use Rattle.surf_blif.specs.declared.error.BlifError.TheVariants as blifs
use Rattle.surf_logic.specs.declared.values.EvalError.{EvalError}
use Rattle.surf_logic.specs.declared.values.EvalError.TheVariants as evals
use Rattle.surf_status.specs.Calls.{EndsAs}
use Rattle.surf_status.specs.Endings.{answer_to_blif, answer_to_bits}
use Rattle.surf_command_circuits.specs.Values.{value_line, values_text, TellsValues}
use Rattle.surf_status.specs.Writes.{Writes}
use Rattle.surf_command_circuits.specs.Calls.{circuit_call, eval_call}

-- one more line
pub values_more : (f : ℕ → List ℕ) (ns : List ℕ) (vs : List Bool) (i : ℕ) → i < length ns → length vs ≡ length ns
    → values_text (map f (take (suc i) ns)) (take (suc i) vs) ≡ values_text (map f (take i ns)) (take i vs) ++ value_line (f (get_or ns i 0)) (get_or vs i false)
values_more f [] vs i lt len = absurd (omega (arith, lt))
values_more f (n ∷ ns) [] i lt len = absurd (omega (arith, len))
values_more f (n ∷ ns) (v ∷ vs) zero lt len = append-nil (value_line (f n) v)
values_more f (n ∷ ns) (v ∷ vs) (suc i) lt len =
    ap (λ s. value_line (f n) v ++ s) (values_more f ns vs i (omega (arith, lt)) (omega (arith, len)))
    ∙ sym (append_assoc (value_line (f n) v) (values_text (map f (take i ns)) (take i vs)) (value_line (f (get_or ns i 0)) (get_or vs i false)))

pub values_next : (f : ℕ → List ℕ) (ns : List ℕ) (vs : List Bool) (i : ℕ) → i < length ns → length vs ≡ length ns
    → values_text (map f (take (i + 1) ns)) (take (i + 1) vs) ≡ values_text (map f (take i ns)) (take i vs) ++ value_line (f (get_or ns i 0)) (get_or vs i false)
values_next f ns vs i lt len = ap (λ k. values_text (map f (take k ns)) (take k vs)) (let e : i + 1 ≡ suc i = omega arith in e) ∙ values_more f ns vs i lt len

-- the lines around one
pub values_split : (f : ℕ → List ℕ) (ns : List ℕ) (vs : List Bool) (i : ℕ) → i < length ns → length vs ≡ length ns
    → values_text (map f ns) vs ≡ values_text (map f (take i ns)) (take i vs) ++ (value_line (f (get_or ns i 0)) (get_or vs i false) ++ values_text (map f (drop (suc i) ns)) (drop (suc i) vs))
values_split f [] vs i lt len = absurd (omega (arith, lt))
values_split f (n ∷ ns) [] i lt len = absurd (omega (arith, len))
values_split f (n ∷ ns) (v ∷ vs) zero lt len = refl
values_split f (n ∷ ns) (v ∷ vs) (suc i) lt len =
    ap (λ s. value_line (f n) v ++ s) (values_split f ns vs i (omega (arith, lt)) (omega (arith, len)))
    ∙ sym (append_assoc (value_line (f n) v) (values_text (map f (take i ns)) (take i vs)) (value_line (f (get_or ns i 0)) (get_or vs i false) ++ values_text (map f (drop (suc i) ns)) (drop (suc i) vs)))

-- as many values as outputs
pub values_long : (c : Numbered) (bits answer : List Bool) → IsEval c bits answer → length answer ≡ length c.parts.outputs
values_long c bits answer ev = ap length (sym (ev.outputs ev.assignment ev.inputs ev.solves)) ∙ length-map c.parts.outputs ev.assignment

-- the values of a circuit that was read are those of its text
module _ (input : List ℕ) (c : Numbered) (bits answer : List Bool) (read : IsRead input c) (ev : IsEval c bits answer) where
  abbrev text : List ℕ
  text = values_text (map (text_of c.names) c.parts.outputs) answer

  pub tells : TellsValues bits input text
  tells = record {
    accepted = read.blif.no_fault;
    values = answer;
    solved = subst (λ p. EvalOf bytes_eq p bits answer) read.names (values read.unordered read.named c bits answer read.order ev);
    is = ap (λ ns. values_text ns answer) read.outputs;
  }

-- a text that is no circuit
pub blif_ends : (bits : List Bool) (input : List ℕ) (e : BlifError) (w : Writes) → w.now ≡ w.before → Refuses input e → EndsAs (eval_call bits input) w (answer_to_blif e)
blif_ends bits input (blifs.Unsupported n t) w kept r = (r, λ e. cc)
blif_ends bits input (blifs.BadLine n) w kept r = (r, λ e. cc)
blif_ends bits input (blifs.BadCover n) w kept r = (r, λ e. cc)
blif_ends bits input (blifs.MixedCover n) w kept r = (r, λ e. cc)
blif_ends bits input (blifs.Circuit c) w kept r = (r, λ e. cc)
blif_ends bits input (blifs.TooLarge n) w kept r = (r, λ e. cc)
blif_ends bits input blifs.NoMemory w kept r = kept

pub no_circuit_ends : (input : List ℕ) (e : BlifError) (w : Writes) → w.now ≡ w.before → Refuses input e → EndsAs (circuit_call input) w (answer_to_blif e)
no_circuit_ends input (blifs.Unsupported n t) w kept r = (r, λ e. cc)
no_circuit_ends input (blifs.BadLine n) w kept r = (r, λ e. cc)
no_circuit_ends input (blifs.BadCover n) w kept r = (r, λ e. cc)
no_circuit_ends input (blifs.MixedCover n) w kept r = (r, λ e. cc)
no_circuit_ends input (blifs.Circuit c) w kept r = (r, λ e. cc)
no_circuit_ends input (blifs.TooLarge n) w kept r = (r, λ e. cc)
no_circuit_ends input blifs.NoMemory w kept r = kept

-- a circuit with another number of inputs
pub bits_ends : (bits : List Bool) (input : List ℕ) (c : Numbered) (e : EvalError) (w : Writes) → w.now ≡ w.before → IsRead input c → HasEvalFault c bits e → EndsAs (eval_call bits input) w (answer_to_bits e)
bits_ends bits input c (evals.Length found wanted) w kept read h = record {
  accepted = read.blif.no_fault;
  bits_are = h.0;
  inputs_are = h.1 ∙ sym (length-map c.parts.inputs (text_of c.names)) ∙ ap length read.inputs;
  differ = h.2;
}
bits_ends bits input c evals.NoMemory w kept read h = kept
