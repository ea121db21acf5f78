-- A circuit's surface, set and run to its end, is read as the circuit's values.
use Rattle.std.proofs.Common.{ℕ, suc, ◌≡◌, ◌^◌, ◌<◌, ◌≤◌, Bool, true, false, nat_lt, List, [], ◌∷◌, ◌++◌, length, map, Some, None, Result, Ok, refl, sym, ◌∙◌, ap, subst, arith, length-append}
use Rattle.std.specs.Str.{bytes_eq}
use Rattle.std.proofs.lemmas.Bool.{ltb-true, ltb-false}
use Rattle.std.proofs.lemmas.List.{length-map}
use Rattle.surf_world.specs.declared.event.Event.{Event}
use Rattle.surf_world.specs.Systems.{Surface, System, Enabled, IsRun, Stuck, after, left_by}
use Rattle.surf_world.proofs.Decisions.{inside_from}
use Rattle.surf_logic.specs.Equations.{PartsOf}
use Rattle.surf_logic.specs.Answers.{EvalOf}
use Rattle.surf_blif.specs.Blifs.{parts_of}
use Rattle.surf_manifest.specs.Grammar.{ManifestText}
use Rattle.surf_manifest.proofs.Good.{gives_well_formed}
use Rattle.surf_manifest_print.specs.declared.legend.Place.{Place}
use Rattle.surf_manifest_print.specs.Legends.{LegendText}
use Rattle.surf_manifest_print.specs.Prints.{print_of}
use Rattle.surf_circuit.specs.Circuits.{ShowsAt, SettlesTo}
use Rattle.surf_inputs.specs.Inputs.{bit_name, with_inputs, with_system}
use Rattle.surf_trace.specs.Traces.{trace_text}
use Rattle.surf_laws.specs.CircuitLaws.{SetsAndSettles}
use Rattle.surf_laws.specs.CircuitsRound.{TellsEnds, TellsRuns, RunsTell, CircuitsAreCarried}
use Rattle.surf_command_circuits.specs.Compiled.{HoldsCircuit}
use Rattle.surf_command_traces.specs.Finals.{final_byte, finals_text, first_outside, recorded, recorded_events, IsEndedText}
use Rattle.surf_top.specs.Jobs.{Outputs}
use Rattle.surf_top.specs.Outputs.{IsText}
use Rattle.surf_laws.specs.ReadBack.{EndsLine}
use Rattle.surf_command_runs.specs.Runs.{ShowsRun, state_text}
use Rattle.surf_command_circuits.specs.Sets.{IsSet}
use Rattle.surf_command_circuits.specs.Values.{bit_byte, value_line, values_text, TellsValues}
use Rattle.surf_laws.proofs.Carried.{surfaces_are_set}
use Rattle.surf_command_traces.proofs.Finals.{all_read}
use Rattle.surf_laws.proofs.LegendsRead.{legend_fits}
use Rattle.surf_laws.proofs.ReadBack.{are_read_back, prints_end_lines}
use Rattle.surf_laws.proofs.ShortEvents.{events_short}

one_answer : {A E : Type 0} (r : Result A E) (x y : A) → r ≡ Ok x → r ≡ Ok y → x ≡ y
one_answer r x y a b = let e : Ok x ≡ Ok y = sym a ∙ b in cc

-- ---- one text and one list of values

set_once : (bits : List Bool) (text s t : List ℕ) → IsSet bits text s → IsSet bits text t → s ≡ t
set_once bits text s t a b =
    let m : a.manifest ≡ b.manifest = one_answer _ a.manifest b.manifest a.has.read b.has.read in
    let l : a.legend ≡ b.legend = one_answer _ a.legend b.legend a.has.told b.has.told in
    a.is
    ∙ ap (λ (n : ManifestText). print_of (with_system n (with_inputs n.system a.legend bits)) (Some a.legend)) m
    ∙ ap (λ (k : LegendText). print_of (with_system b.manifest (with_inputs b.manifest.system k bits)) (Some k)) l
    ∙ sym b.is

module _ (B : PartsOf (List ℕ)) (bits : List Bool) where
  values_once : (v w : List Bool) → EvalOf bytes_eq B bits v → EvalOf bytes_eq B bits w → v ≡ w
  values_once v w a b = sym (a.outputs a.assignment a.inputs a.solves) ∙ b.outputs a.assignment a.inputs a.solves

  bits_long : (v : List Bool) → EvalOf bytes_eq B bits v → length bits ≡ length B.inputs
  bits_long v a = ap length (sym a.inputs) ∙ length-map B.inputs a.assignment

  answer_long : (v : List Bool) → EvalOf bytes_eq B bits v → length v ≡ length B.outputs
  answer_long v a = ap length (sym (a.outputs a.assignment a.inputs a.solves)) ∙ length-map B.outputs a.assignment

-- ---- the lines of places that show their values

bit_told : (v : Bool) → final_byte (Some (bit_name v)) ≡ bit_byte v
bit_told true = refl
bit_told false = refl

module _ (S : System (List ℕ)) (c : List (List ℕ)) where
  shown_inside : (ps : List Place) (vs : List Bool) → length vs ≡ length ps → ((i : ℕ) → ShowsAt S c ps vs i) → first_outside S.surface.grid ps ≡ None
  shown_inside [] vs long shows = refl
  shown_inside (p ∷ ps) [] long shows = absurd (omega (arith, long))
  shown_inside (p ∷ ps) (v ∷ vs) long shows =
      rw (inside_from S.surface.grid p.site (shows 0 p v refl refl).0) (shown_inside ps vs (omega (arith, long)) (λ i. shows (suc i)))

  shown_lines : (ps : List Place) (vs : List Bool) → length vs ≡ length ps → ((i : ℕ) → ShowsAt S c ps vs i) → values_text (map (λ p. p.name) ps) vs ≡ finals_text S.surface.grid c ps
  shown_lines [] vs long shows = refl
  shown_lines (p ∷ ps) [] long shows = absurd (omega (arith, long))
  shown_lines (p ∷ ps) (v ∷ vs) long shows =
      ap (λ t. value_line p.name v ++ t) (shown_lines ps vs (omega (arith, long)) (λ i. shows (suc i)))
      ∙ ap (λ b. (p.name ++ 32 ∷ b ∷ 10 ∷ []) ++ finals_text S.surface.grid c ps) (sym (bit_told v) ∙ ap final_byte (sym (shows 0 p v refl refl).1))

-- ---- runs as long as they can be

run_more : (S : Surface (List ℕ)) (c : List (List ℕ)) (es : List Event) (e : Event) → IsRun S c es → Enabled S (left_by S c es) e → IsRun S c (es ++ e ∷ [])
run_more S c [] e run en = (en, tt)
run_more S c (f ∷ es) e run en = (run.0, run_more S (after S c f) es e run.1 en)

module _ (S : System (List ℕ)) (ps : List Place) (events : ℕ) (vs : List Bool) (settles : SettlesTo S ps events vs) where
  full_stuck : (es : List Event) → IsRun S.surface S.start es → events ≤ length es → Stuck S.surface (left_by S.surface S.start es)
  full_stuck es run full e en =
      let more = settles.at_most (es ++ e ∷ []) (run_more S.surface S.start es e run en) in
      let long = length-append es (e ∷ []) in
      omega (arith, more, long, full)

  shown_stuck : (count : ℕ) (out : List ℕ) (r : ShowsRun S count out) → events ≤ count → Stuck S.surface (left_by S.surface S.start r.events)
  shown_stuck count out r enough = when (nat_lt (length r.events) count) refl
    where
      when : (b : Bool) → nat_lt (length r.events) count ≡ b → Stuck S.surface (left_by S.surface S.start r.events)
      when true is = r.fewer (ltb-true (length r.events) count is)
      when false is = full_stuck r.events r.enabled (let all = ltb-false (length r.events) count is in omega (arith, all, enough))

-- ---- the law

module _ (input surface set : List ℕ) (bits : List Bool) (h : HoldsCircuit (parts_of input) surface) (is_set : IsSet bits surface set) (lines : List ℕ) (t : TellsValues bits input lines) where
  abbrev B : PartsOf (List ℕ)
  B = parts_of input

  abbrev law : SetsAndSettles B surface bits
  law = surfaces_are_set B surface bits h (bits_long B bits t.values t.solved)

  set_is : law.set ≡ set
  set_is = set_once bits surface law.set set law.is_set is_set

  legend_is : h.legend ≡ law.legend
  legend_is = one_answer _ h.legend law.legend h.told law.same

  names : map (λ p. p.name) law.legend.outputs ≡ B.outputs
  names = subst (λ (l : LegendText). map (λ p. p.name) l.outputs ≡ B.outputs) legend_is h.computes.outputs

  values_are : t.values ≡ law.values
  values_are = values_once B bits t.values law.values t.solved law.solved

  long : length law.values ≡ length law.legend.outputs
  long = answer_long B bits law.values law.solved ∙ (ap length (sym names) ∙ length-map law.legend.outputs (λ p. p.name))

  lines_are : lines ≡ values_text (map (λ p. p.name) law.legend.outputs) law.values
  lines_are = t.is ∙ ap (values_text B.outputs) values_are ∙ ap (λ ns. values_text ns law.values) (sym names)

  line_end : EndsLine law.set
  line_end = subst EndsLine (sym law.is_set.is) (prints_end_lines (with_system law.is_set.manifest (with_inputs law.is_set.manifest.system law.is_set.legend bits)) (Some law.is_set.legend))

  few : law.legend.events < 2 ^ 64
  few = (legend_fits law.set law.legend law.has.told).2

  module _ (es : List Event) (rest : List ℕ) (run : IsRun law.manifest.system.surface law.manifest.system.start es) (stuck : Stuck law.manifest.system.surface (left_by law.manifest.system.surface law.manifest.system.start es)) where
    abbrev left : List (List ℕ)
    left = left_by law.manifest.system.surface law.manifest.system.start es

    abbrev whole : List ℕ
    whole = law.set ++ (trace_text es ++ rest)

    shown : (i : ℕ) → ShowsAt law.manifest.system left law.legend.outputs law.values i
    shown = law.settles.settled es run stuck

    short : length es < 2 ^ 64
    short = let same = law.settles.exactly es run stuck in let most = few in omega (arith, same, most)

    recorded_is : recorded whole ≡ Ok (record { manifest = law.manifest; legend = law.legend; events = es })
    recorded_is =
        let back = are_read_back law.set rest law.manifest es line_end law.has.read short (events_short law.manifest es (gives_well_formed law.set law.manifest law.has.read) run) in
        all_read whole law.manifest back.manifest law.legend (back.legend ∙ law.has.told) (shown_inside law.manifest.system left law.legend.outputs law.values long shown)
        ∙ ap (recorded_events law.manifest law.legend) back.events

    ended : IsText Outputs whole lines
    ended = subst (λ r. IsEndedText r lines) (sym recorded_is) (run, lines_are ∙ shown_lines law.manifest.system left law.legend.outputs law.values long shown)

  ends : TellsEnds law.set law.manifest lines
  ends es rest run stuck = ended es rest run stuck

  runs : TellsRuns law.set law.manifest law.legend lines
  runs count out enough r =
      let s = law.manifest.system in
      subst (λ v. IsText Outputs (law.set ++ v) lines) (sym r.is)
      (ended r.events (state_text s.surface.grid (left_by s.surface s.start r.events) r.word) r.enabled
      (shown_stuck s law.legend.outputs law.legend.events law.values law.settles count out r enough))

  told : RunsTell set lines
  told = subst (λ s. RunsTell s lines) set_is (record { manifest = law.manifest; legend = law.legend; has = law.has; ends = ends; runs = runs })

pub circuits_are_carried_round : CircuitsAreCarried
circuits_are_carried_round input surface set lines bits h is_set t = told input surface set bits h is_set lines t
