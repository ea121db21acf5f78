-- The lines of a legend's outputs, and what they tell of the input that was read.
use Rattle.std.specs.Prelude.{All, flat_map}
use Rattle.std.specs.Option.{option_map}
use Rattle.std.proofs.Common.{ℕ, zero, suc, ◌≡◌, ◌+◌, ◌<◌, Bool, true, false, List, [], ◌∷◌, ◌++◌, map, take, drop, Some, None, Result, Ok, slice_get, refl, sym, ◌∙◌, ap, subst, arith, append_assoc, append-nil}
use Rattle.std.proofs.lemmas.List.Elements.{All-get_or}
use Rattle.std.proofs.lemmas.Option.{slice_get-map, slice_get_within, get_or_from_slice_get, same_Some}
use Rattle.surf_lattice.specs.declared.site.Site.{Site}
use Rattle.surf_lattice.specs.Grids.{Grid, IsInside}
use Rattle.surf_rules.specs.Names.{text_of}
use Rattle.surf_world.specs.declared.event.Event.{Event}
use Rattle.surf_world.specs.Choices.{inside_test}
use Rattle.surf_world.specs.Systems.{System, IsRun, left_by}
use Rattle.surf_world.specs.Worlds.{Placed}
use Rattle.surf_world.proofs.Decisions.{inside_to}
use Rattle.surf_world.proofs.Renamed.{left_renamed}
use Rattle.surf_text.specs.Bytes.{lines_of}
use Rattle.surf_manifest_lines.specs.Answers as manifests
use Rattle.surf_manifest_lines.specs.declared.error.ManifestError.{ManifestError}
use Rattle.surf_manifest.specs.Grammar.{ManifestText}
use Rattle.surf_manifest.specs.Numbered.{IsNumbered}
use Rattle.surf_manifest_print.specs.declared.legend.Place.{Place}
use Rattle.surf_manifest_print.specs.declared.legend_error.LegendError.{LegendError}
use Rattle.surf_manifest_print.specs.declared.legend_error.LegendError.TheVariants as legends
use Rattle.surf_manifest_print.specs.Legends.{LegendText}
use Rattle.surf_manifest_print.specs.LegendTexts.{legend_in, legend_of, LegendRefuses}
use Rattle.surf_trace.specs.Replays.{FirstBad}
use Rattle.surf_trace.specs.Splits.{before_trace}
use Rattle.surf_trace.specs.TraceTexts.{trace_of, Refuses}
use Rattle.surf_trace.specs.declared.error.TraceError.{TraceError}
use Rattle.surf_status.specs.declared.status.Refusal.{Refusal}
use Rattle.surf_status.specs.declared.status.Refusal.TheVariants.{LegendSite}
use Rattle.surf_status.specs.declared.status.Status.TheVariants.{Refused, NotEnabled}
use Rattle.surf_status.specs.Calls.{EndsAs}
use Rattle.surf_status.specs.Endings.{answer_to, answer_to_legend, answer_to_trace}
use Rattle.surf_command_traces.specs.Traced.{manifest_before}
use Rattle.surf_command_traces.specs.Finals.{final_byte, finals_text, first_outside, legend_before, Recorded, recorded_of, recorded_inside, recorded_events, recorded, ended_text, IsEndedText, EndsBad}
use Rattle.surf_status.specs.Writes.{Writes}
use Rattle.surf_status.proofs.Faults.{manifest_ends, trace_ends}
use Rattle.surf_command_traces.proofs.Replayed.{numbered_run, numbered_bad}
use Rattle.surf_command_traces.specs.Calls.{outputs_call}

-- ---- lines one after another

module _ {X : Type 0} (f : X → List ℕ) where
  lines_more : (xs : List X) (i : ℕ) (x : X) → slice_get xs i ≡ Some x → flat_map f (take (suc i) xs) ≡ flat_map f (take i xs) ++ f x
  lines_more [] i x at = absurd (let no : None ≡ Some x = at in cc)
  lines_more (y ∷ xs) zero x at = append-nil (f y) ∙ ap f (same_Some y x at)
  lines_more (y ∷ xs) (suc i) x at = ap (λ s. f y ++ s) (lines_more xs i x at) ∙ sym (append_assoc (f y) (flat_map f (take i xs)) (f x))

  pub lines_next : (xs : List X) (i : ℕ) (x : X) → slice_get xs i ≡ Some x → flat_map f (take (i + 1) xs) ≡ flat_map f (take i xs) ++ f x
  lines_next xs i x at = ap (λ k. flat_map f (take k xs)) (let e : i + 1 ≡ suc i = omega arith in e) ∙ lines_more xs i x at

  pub lines_split : (xs : List X) (i : ℕ) (x : X) → slice_get xs i ≡ Some x → flat_map f xs ≡ flat_map f (take i xs) ++ (f x ++ flat_map f (drop (suc i) xs))
  lines_split [] i x at = absurd (let no : None ≡ Some x = at in cc)
  lines_split (y ∷ xs) zero x at = ap (λ z. f z ++ flat_map f xs) (same_Some y x at)
  lines_split (y ∷ xs) (suc i) x at = ap (λ s. f y ++ s) (lines_split xs i x at) ∙ sym (append_assoc (f y) (flat_map f (take i xs)) (f x ++ flat_map f (drop (suc i) xs)))

-- ---- outputs inside

within : (g : Grid) (p : Place) (ps : List Place) (b : Bool) → inside_test g p.site ≡ b → first_outside g (p ∷ ps) ≡ None → (b ≡ true) × (first_outside g ps ≡ None)
within g p ps true is none = (refl, sym (rw is refl) ∙ none)
within g p ps false is none = absurd (let no : Some p.site ≡ None = sym (rw is refl) ∙ none in cc)

pub output_inside : (g : Grid) (ps : List Place) (i : ℕ) (p : Place) → first_outside g ps ≡ None → slice_get ps i ≡ Some p → IsInside g p.site
output_inside g [] i p none at = absurd (let no : None ≡ Some p = at in cc)
output_inside g (q ∷ ps) zero p none at =
    let h = within g q ps (inside_test g q.site) refl none in
    subst (λ (r : Place). IsInside g r.site) (same_Some q p at) (inside_to g q.site h.0)
output_inside g (q ∷ ps) (suc i) p none at = output_inside g ps i p (within g q ps (inside_test g q.site) refl none).1 at

pub number_within : (n : ℕ) (c : List ℕ) (i m : ℕ) → All (λ k. k < n) c → slice_get c i ≡ Some m → m < n
number_within n c i m all at = subst (λ k. k < n) (get_or_from_slice_get c i m m at) (All-get_or (λ k. k < n) c i m (slice_get_within c i m at) all)

-- the value at a site, by the number of the name there
pub value_there : (texts : List (List ℕ)) (c : List ℕ) (i n : ℕ) (name : List ℕ) → slice_get c i ≡ Some n → slice_get texts n ≡ Some name → final_byte (Some name) ≡ final_byte (slice_get (map (text_of texts) c) i)
value_there texts c i n name at is =
    sym (ap final_byte (slice_get-map (text_of texts) c i ∙ ap (option_map (text_of texts)) at ∙ ap Some (let e : text_of texts n ≡ name = rw is refl in e)))

-- ---- what was read

pub legend_is : (input part : List ℕ) (r : Result LegendText LegendError) → lines_of part ≡ before_trace (lines_of input) → legend_of part ≡ r → legend_before input ≡ r
legend_is input part r lines is = ap (λ ls. legend_in 0 (record { inputs = []; outputs = []; events = None }) ls) (sym lines) ∙ is

pub no_manifest : (input : List ℕ) (w : Writes) → w.now ≡ w.before → (e : ManifestError) → manifests.Refuses (manifest_before input) e → EndsAs (outputs_call input) w (answer_to e)
no_manifest input w kept e r = manifest_ends (outputs_call input) w kept (manifest_before input) (λ f is. ap (λ a. recorded_of a (legend_before input) (trace_of input)) is) e r

module _ (input : List ℕ) (m : ManifestText) (read : manifest_before input ≡ Ok m) where
  pub no_legend : (e : LegendError) (w : Writes) → w.now ≡ w.before → LegendRefuses (legend_before input) e → EndsAs (outputs_call input) w (answer_to_legend e)
  no_legend (legends.BadLegend n) w kept r = ap (λ a. recorded_of a (legend_before input) (trace_of input)) read ∙ ap (λ l. recorded_of (Ok m) l (trace_of input)) r
  no_legend legends.NoLegend w kept r = ap (λ a. recorded_of a (legend_before input) (trace_of input)) read ∙ ap (λ l. recorded_of (Ok m) l (trace_of input)) r
  no_legend legends.NoMemory w kept r = kept

  module _ (l : LegendText) (told : legend_before input ≡ Ok l) where
    both_read : recorded input ≡ recorded_inside m l (first_outside m.system.surface.grid l.outputs) (trace_of input)
    both_read = ap (λ a. recorded_of a (legend_before input) (trace_of input)) read ∙ ap (λ b. recorded_of (Ok m) b (trace_of input)) told

    pub outside_ends : (s : Site) (w : Writes) → first_outside m.system.surface.grid l.outputs ≡ Some s → EndsAs (outputs_call input) w (Refused (LegendSite s))
    outside_ends s w out = both_read ∙ ap (λ o. recorded_inside m l o (trace_of input)) out

    module _ (inside : first_outside m.system.surface.grid l.outputs ≡ None) where
      pub all_read : recorded input ≡ recorded_events m l (trace_of input)
      all_read = both_read ∙ ap (λ o. recorded_inside m l o (trace_of input)) inside

      pub no_trace : (w : Writes) → w.now ≡ w.before → (e : TraceError) → Refuses (trace_of input) e → EndsAs (outputs_call input) w (answer_to_trace e)
      no_trace w kept e r = trace_ends (outputs_call input) w kept (trace_of input) (λ f is. all_read ∙ ap (recorded_events m l) is) e r

      module _ (es : List Event) (traced : trace_of input ≡ Ok es) (w : Placed) (texts : List (List ℕ)) (numbered : IsNumbered m.system w texts) where
        is : recorded input ≡ Ok (record { manifest = m; legend = l; events = es })
        is = all_read ∙ ap (recorded_events m l) traced

        pub bad_record : (o : Writes) (k : ℕ) → FirstBad w.surface w.names es k → EndsAs (outputs_call input) o (NotEnabled k)
        bad_record o k bad = subst (λ (r : Result Recorded Refusal). EndsBad r k) (sym is) (numbered_bad m.system w texts es k numbered bad)

        -- the names that the events leave, as texts
        abbrev pub text_left : List ℕ
        text_left = finals_text w.surface.grid (map (text_of texts) (left_by w.surface w.names es)) l.outputs

        left_texts : text_left ≡ ended_text (record { manifest = m; legend = l; events = es })
        left_texts =
            ap (λ c. finals_text w.surface.grid c l.outputs) (sym (left_renamed (text_of texts) w.surface w.names es))
            ∙ ap (λ (S : System (List ℕ)). finals_text S.surface.grid (left_by S.surface S.start es) l.outputs) numbered.named

        pub is_ended : IsRun w.surface w.names es → (outputs_call input).Is text_left
        is_ended run = subst (λ (r : Result Recorded Refusal). IsEndedText r text_left) (sym is) (numbered_run m.system w texts es numbered run, left_texts)
