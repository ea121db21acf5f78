-- An input that is refused has no text.
use Rattle.std.proofs.Common.{ℕ, ◌≡◌, Bool, List, Option, Some, None, is_ok, refl, sym, ◌∙◌, ap}
use Rattle.std.proofs.lemmas.Bool.{false≢true}
use Rattle.surf_blif.specs.declared.error.BlifError.{BlifError}
use Rattle.surf_blif.specs.declared.error.BlifError.TheVariants as blifs
use Rattle.surf_blif.specs.Grammar.{Unsupported, BadLine, BadCover, MixedCover}
use Rattle.surf_blif.specs.Blifs.{InText, TooLarge, InCircuit}
use Rattle.surf_inputs.specs.declared.inputs.SetError.{SetError}
use Rattle.surf_inputs.specs.declared.inputs.SetError.TheVariants as sets
use Rattle.surf_inputs.specs.Inputs.{set_fault}
use Rattle.surf_status.specs.declared.status.Refusal.{Refusal}
use Rattle.surf_status.specs.declared.status.Refusal.TheVariants.{Manifest, Legend, LegendSite, Trace, NotCells, Blif, Bits, NotInput, Source}
use Rattle.surf_status.specs.Calls.{IsExclusive}
use Rattle.surf_command_circuits.specs.Calls.{eval_call, circuit_call, set_call, adder_call, IsBlifRefused, IsCircuitRefused, IsEvalRefused, IsSetRefused}
use Rattle.surf_command_circuits.specs.Sets.{SetsWith}
use Rattle.surf_command_circuits.specs.Values.{IsAccepted, HasValues}

-- a text that is refused has a fault
no_fault : (input : List ℕ) (e : BlifError) → IsBlifRefused input e → IsAccepted input → ⊥
no_fault input (blifs.Unsupported n t) is ok = ok (InText (Unsupported n t)) is.0
no_fault input (blifs.BadLine n) is ok = ok (InText (BadLine n)) is.0
no_fault input (blifs.BadCover n) is ok = ok (InText (BadCover n)) is.0
no_fault input (blifs.MixedCover n) is ok = ok (InText (MixedCover n)) is.0
no_fault input (blifs.Circuit e) is ok = ok (InCircuit (is.0).0) (is.0).2
no_fault input (blifs.TooLarge n) is ok = ok (TooLarge n) is.0
no_fault input blifs.NoMemory is ok = is.1 refl

no_values : (bits : List Bool) (input : List ℕ) (r : Refusal) → IsEvalRefused bits input r → HasValues bits input → ⊥
no_values bits input (Blif e) is ok = no_fault input e is ok.accepted
no_values bits input (Bits found wanted) is ok = is.differ (is.bits_are ∙ ok.enough ∙ sym is.inputs_are)
no_values bits input (Manifest e) is ok = is
no_values bits input (Legend e) is ok = is
no_values bits input (LegendSite s) is ok = is
no_values bits input NotCells is ok = is
no_values bits input (Trace e) is ok = is
no_values bits input (NotInput s) is ok = is
no_values bits input (Source e) is ok = is

no_surface : (input : List ℕ) (r : Refusal) → IsCircuitRefused input r → IsAccepted input → ⊥
no_surface input (Blif e) is ok = no_fault input e is ok
no_surface input (Manifest e) is ok = is
no_surface input (Legend e) is ok = is
no_surface input (LegendSite s) is ok = is
no_surface input NotCells is ok = is
no_surface input (Trace e) is ok = is
no_surface input (Bits found wanted) is ok = is
no_surface input (NotInput s) is ok = is
no_surface input (Source e) is ok = is

-- an input spells one manifest and one legend
one_fault : (bits : List Bool) (input : List ℕ) (a b : Option SetError) → SetsWith bits input a → SetsWith bits input b → a ≡ b
one_fault bits input a b x y =
    let m : x.manifest ≡ y.manifest = cc (sym x.has.read ∙ y.has.read) in
    let l : x.legend ≡ y.legend = cc (sym x.has.told ∙ y.has.told) in
    sym x.fits ∙ ap (λ n. set_fault n.system x.legend bits) m ∙ ap (λ k. set_fault y.manifest.system k bits) l ∙ y.fits

not_set : (bits : List Bool) (input : List ℕ) (r : Refusal) → IsSetRefused bits input r → SetsWith bits input None → ⊥
not_set bits input (Manifest e) is ok = false≢true (sym (ap is_ok is) ∙ ap is_ok ok.has.read)
not_set bits input (Legend e) is ok = false≢true (sym (ap is_ok is.1) ∙ ap is_ok ok.has.told)
not_set bits input (Bits found wanted) is ok =
    let e : Some (sets.Length found wanted) ≡ None = one_fault bits input (Some (sets.Length found wanted)) None is ok in cc
not_set bits input (NotInput s) is ok =
    let e : Some (sets.NotInput s) ≡ None = one_fault bits input (Some (sets.NotInput s)) None is ok in cc
not_set bits input (Trace e) is ok = is
not_set bits input (LegendSite s) is ok = is
not_set bits input NotCells is ok = is
not_set bits input (Blif e) is ok = is
not_set bits input (Source e) is ok = is

pub eval_exclusive : (bits : List Bool) (input : List ℕ) → IsExclusive (eval_call bits input)
eval_exclusive bits input = record { refused = no_values bits input; bad = λ k is ok. is }

pub circuit_exclusive : (input : List ℕ) → IsExclusive (circuit_call input)
circuit_exclusive input = record { refused = no_surface input; bad = λ k is ok. is }

pub set_exclusive : (bits : List Bool) (input : List ℕ) → IsExclusive (set_call bits input)
set_exclusive bits input = record { refused = not_set bits input; bad = λ k is ok. is }

pub adder_exclusive : (n : ℕ) → IsExclusive (adder_call n)
adder_exclusive n = record { refused = λ r is ok. is; bad = λ k is ok. is }
