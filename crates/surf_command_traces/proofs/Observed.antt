-- What is observed of numbers, and what it says of the input that was read.
use Rattle.std.proofs.Common.{ℕ, ◌≡◌, true, List, map, Result, Ok, refl, sym, ◌∙◌, ap, subst}
use Rattle.surf_rules.specs.Names.{text_of}
use Rattle.surf_world.specs.declared.event.Event.{Event}
use Rattle.surf_world.specs.Systems.{System, IsRun}
use Rattle.surf_world.specs.Worlds.{Placed}
use Rattle.surf_manifest_lines.specs.Answers as manifests
use Rattle.surf_manifest.specs.Grammar.{ManifestText}
use Rattle.surf_manifest.specs.Numbered.{IsNumbered}
use Rattle.surf_manifest_lines.specs.declared.error.ManifestError.{ManifestError}
use Rattle.surf_sync.specs.Spelling.{shown_by}
use Rattle.surf_trace.proofs.Renamed.{readings_renamed}
use Rattle.surf_trace.specs.Observations.{shown_in, readings, is_cell, AreCells, Hinders}
use Rattle.surf_trace.specs.TraceTexts.{trace_of, Refuses}
use Rattle.surf_trace.specs.declared.error.ObserveError.{ObserveError}
use Rattle.surf_trace.specs.declared.error.ObserveError.TheVariants as observes
use Rattle.surf_trace.specs.declared.error.TraceError.{TraceError}
use Rattle.surf_status.specs.declared.status.Refusal.{Refusal}
use Rattle.surf_status.specs.declared.status.Refusal.TheVariants.{Manifest, Trace, NotCells}
use Rattle.surf_status.specs.Calls.{EndsAs}
use Rattle.surf_status.specs.Endings.{answer_to, answer_to_observe, answer_to_trace}
use Rattle.surf_cells.specs.Rows.{state_word}
use Rattle.surf_command_traces.specs.Observed.{observed_text, IsObservedText, IsObserveRefused, ObservesBad}
use Rattle.surf_cells.specs.CellNames.{OfCells}
use Rattle.surf_cells.proofs.Renamed.{named_to, named_from}
use Rattle.surf_cells.specs.Rows.{rows_text}
use Rattle.surf_command_traces.specs.Traced.{manifest_before, replay_of, replay_input}
use Rattle.surf_status.specs.Writes.{Writes}
use Rattle.surf_status.proofs.Faults.{manifest_ends, trace_ends}
use Rattle.surf_command_traces.proofs.Replayed.{numbered_run, numbered_bad}
use Rattle.surf_command_traces.specs.Calls.{observe_call}

pub no_manifest : (k : ℕ) (input : List ℕ) (w : Writes) → w.now ≡ w.before → (e : ManifestError) → manifests.Refuses (manifest_before input) e → EndsAs (observe_call k input) w (answer_to e)
no_manifest k input w kept e r =
    manifest_ends (observe_call k input) w kept (manifest_before input)
    (λ f is. subst (λ (p : Result (ManifestText × List Event) Refusal). IsObserveRefused p (Manifest f)) (sym (ap (λ a. replay_of a (trace_of input)) is)) refl) e r

pub no_trace : (k : ℕ) (input : List ℕ) (m : ManifestText) → manifest_before input ≡ Ok m → (w : Writes) → w.now ≡ w.before → (e : TraceError) → Refuses (trace_of input) e → EndsAs (observe_call k input) w (answer_to_trace e)
no_trace k input m read w kept e r =
    trace_ends (observe_call k input) w kept (trace_of input)
    (λ f is. subst (λ (p : Result (ManifestText × List Event) Refusal). IsObserveRefused p (Trace f)) (sym (ap (λ a. replay_of a (trace_of input)) read ∙ ap (replay_of (Ok m)) is)) refl) e r

module _ (k : ℕ) (input : List ℕ) (m : ManifestText) (es : List Event) (w : Placed) (texts : List (List ℕ)) (is : replay_input input ≡ Ok (m, es)) (numbered : IsNumbered m.system w texts) where
  of_cells : AreCells texts w.surface w.names → OfCells m.system
  of_cells all = subst OfCells numbered.named (named_to (text_of texts) (λ name. is_cell name ≡ true) w.surface w.names all)

  are_cells : OfCells m.system → AreCells texts w.surface w.names
  are_cells all = named_from (text_of texts) (λ name. is_cell name ≡ true) w.surface w.names (subst OfCells (sym numbered.named) all)

  states_read : readings (shown_in texts) w.surface w.names es k ≡ readings shown_by m.system.surface m.system.start es k
  states_read =
      sym (readings_renamed (text_of texts) w.surface shown_by w.names es k)
      ∙ ap (λ (S : System (List ℕ)). readings shown_by S.surface S.start es k) numbered.named

  -- the rows of the states
  abbrev pub text_read : List ℕ
  text_read = rows_text w.surface.grid (map state_word (readings (shown_in texts) w.surface w.names es k))

  same_text : text_read ≡ observed_text k m.system es
  same_text =
      ap (λ states. rows_text w.surface.grid (map state_word states)) states_read
      ∙ ap (λ (S : System (List ℕ)). rows_text S.surface.grid (map state_word (readings shown_by m.system.surface m.system.start es k))) numbered.named

  pub is_observed : AreCells texts w.surface w.names → IsRun w.surface w.names es → (observe_call k input).Is text_read
  is_observed cells run =
      subst (λ (r : Result (ManifestText × List Event) Refusal). IsObservedText k r text_read) (sym is) (of_cells cells, numbered_run m.system w texts es numbered run, same_text)

  pub not_observed_ends : (o : Writes) → o.now ≡ o.before → (e : ObserveError) → Hinders texts w.surface w.names es e → EndsAs (observe_call k input) o (answer_to_observe e)
  not_observed_ends o kept observes.NotCells h =
      subst (λ (r : Result (ManifestText × List Event) Refusal). IsObserveRefused r NotCells) (sym is) (λ all. h (are_cells all), refl)
  not_observed_ends o kept (observes.NotEnabled n) h =
      subst (λ (r : Result (ManifestText × List Event) Refusal). ObservesBad r n) (sym is) (of_cells h.0, numbered_bad m.system w texts es n numbered h.1)
  not_observed_ends o kept observes.NoMemory h = kept
