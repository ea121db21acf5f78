-- An automaton carried round: the words that `observe` writes are those of its generations, and
-- without a margin those of `step`.
use Rattle.std.specs.Option.{option_map}
use Rattle.std.specs.Fmt.{decimal}
use Rattle.std.proofs.Common.{ℕ, ◌≡◌, ◌<◌, ◌≤◌, ◌*◌, Bool, true, false, nat_lt, List, [], ◌++◌, length, map, codes, Option, Some, None, Result, Ok, Err, slice_get, refl, sym, subst, ◌∙◌, ap, if◌then◌else◌}
use Rattle.std.proofs.lemmas.List.{length-map}
use Rattle.std.proofs.lemmas.List.FromFn.{length-map-range_with_len}
use Rattle.std.proofs.lemmas.Option.{slice_get-map, slice_get_within}
use Rattle.std.proofs.lemmas.Result.{IfOk-at_ok}
use Rattle.surf_lattice.specs.declared.site.Site.{Site}
use Rattle.surf_lattice.specs.Grids.{Grid, IsInside, place, sites}
use Rattle.surf_world.specs.declared.event.Event.{Event}
use Rattle.surf_world.specs.Systems.{IsRun}
use Rattle.surf_world.proofs.Places.{listed, made_at, place_in, sites_length}
use Rattle.surf_auto.specs.Sync.{phase_sync}
use Rattle.surf_auto.specs.Locals.{rule_count_in}
use Rattle.surf_manifest.specs.Grammar.{ManifestText}
use Rattle.surf_manifest.proofs.Good.{gives_well_formed}
use Rattle.surf_sync.specs.Spelling.{Showing, shown_at, shown_by}
use Rattle.surf_trace.specs.Observations.{readings}
use Rattle.surf_trace.specs.Traces.{trace_text}
use Rattle.surf_colony.specs.Colonies.{framed, in_box}
use Rattle.surf_colony.specs.InStep.{place_of}
use Rattle.surf_rle.specs.Sources.{Source, shown, universe_of}
use Rattle.surf_status.specs.declared.status.Refusal.{Refusal}
use Rattle.surf_command_automata.specs.Automata.{HoldsColony, colony_manifest, colony_text, in_phases, printed_colony}
use Rattle.surf_laws.specs.AutomataRound.{GenerationsAreTold, HasNoMargin, IsCarriedRound, RunGenerationsAreTold, RunsAreCarried, TellsGeneration, TellsGenerations, TellsSteps, TracesAreCarried, come_to, phases_of}
use Rattle.surf_command_automata.specs.Generations.{generation_text, printed_generation, source_grid}
use Rattle.surf_top.specs.Jobs.{Automaton}
use Rattle.surf_command_traces.specs.Observed.{IsObservedText, observed_text}
use Rattle.surf_cells.specs.Rows.{state_word}
use Rattle.surf_top.specs.Outputs.{IsText}
use Rattle.surf_laws.specs.ReadBack.{EndsLine, IsReadBack}
use Rattle.surf_cells.specs.Rows.{rows_text}
use Rattle.surf_laws.specs.Watched.{ReadsInStep, read_at}
use Rattle.surf_laws.proofs.Margins.{spelled_so}
use Rattle.surf_laws.proofs.ReadBack.{prints_end_lines, runs_are_read_back, traces_are_read_back}
use Rattle.surf_laws.proofs.ReadInStep.{are_read_in_step}

-- ---- what is printed ends with a line feed

colony_ends : (S : Source) (last : Option ℕ) (text : List ℕ) → colony_text (universe_of S) last ≡ text → EndsLine text
colony_ends S last text is = subst EndsLine is (prints_end_lines (colony_manifest (universe_of S) last) None)

many_ends : (S : Source) (last : ℕ) (text : List ℕ) (many : Bool) (e : Refusal) → (if many then Err e else Ok (colony_text (universe_of S) (Some last))) ≡ Ok text → EndsLine text
many_ends S last text true e is = absurd cc
many_ends S last text false e is = colony_ends S (Some last) text (IfOk-at_ok (λ v. colony_text (universe_of S) (Some last) ≡ v) is refl)

print_ends : (S : Source) (last : Option ℕ) (text : List ℕ) → printed_colony last (Ok S) ≡ Ok text → EndsLine text
print_ends S None text is = colony_ends S None text (IfOk-at_ok (λ v. colony_text (universe_of S) None ≡ v) is refl)
print_ends S (Some last) text is = many_ends S last text (nat_lt 1048576 (rule_count_in last (universe_of S).rule)) _ is

-- ---- the words of both texts

shown_within : (c : List (List ℕ)) (p : ℕ) (x : Showing) (o : Option (List ℕ)) → slice_get c p ≡ o → shown_at shown_by o ≡ Some x → p < length c
shown_within c p x (Some name) is h = slice_get_within c p name is
shown_within c p x None is h = absurd cc

module _ (margin : ℕ) (last : Option ℕ) (input text : List ℕ) (h : HoldsColony margin last input text) (es : List Event) (run : IsRun h.manifest.system.surface h.manifest.system.start es) where
  sites_are : length h.manifest.system.start ≡ (framed (source_grid h.source)).width * (framed (source_grid h.source)).height
  sites_are = (gives_well_formed text h.manifest h.read).sites ∙ ap (λ (g : Grid). g.width * g.height) h.grid

  cell_within : (s : Site) → IsInside (source_grid h.source) s → place_of (universe_of h.source) s < length h.manifest.system.start
  cell_within s inside = shown_within h.manifest.system.start (place_of (universe_of h.source) s) _ _ refl ((h.in_step [] tt).shows s inside)

  module _ (g : ℕ) where
    abbrev reads : List (Option ℕ)
    reads = readings shown_by h.manifest.system.surface h.manifest.system.start es g

    in_step : ReadsInStep (universe_of h.source) h.manifest.system es g
    in_step = are_read_in_step (universe_of h.source) (in_phases (universe_of h.source) last) h.manifest.system h.in_step es run g

    word_read : (p : ℕ) → p < length h.manifest.system.start → slice_get (map state_word reads) p ≡ Some (state_word (read_at h.manifest.system es g p))
    word_read p below =
        slice_get-map state_word reads p
        ∙ ap (option_map state_word) (made_at (λ q. read_at h.manifest.system es g q) (length h.manifest.system.start) p below)

    reached : (s : Site) → IsInside (source_grid h.source) s → g ≤ come_to h.source h.manifest es s
        → slice_get (map state_word reads) (place_of (universe_of h.source) s) ≡ Some (decimal (phase_sync (universe_of h.source) g s))
    reached s inside come = let step = in_step in
        word_read (place_of (universe_of h.source) s) (cell_within s inside)
        ∙ ap (λ (o : Option ℕ). Some (state_word o)) (step.reached s inside come)

    not_yet : (s : Site) → IsInside (source_grid h.source) s → come_to h.source h.manifest es s < g
        → slice_get (map state_word reads) (place_of (universe_of h.source) s) ≡ Some (codes "-")
    not_yet s inside less = let step = in_step in
        word_read (place_of (universe_of h.source) s) (cell_within s inside)
        ∙ ap (λ (o : Option ℕ). Some (state_word o)) (step.not_yet s inside less)

    nothing : (t : Site) → IsInside (framed (source_grid h.source)) t → in_box (source_grid h.source) t ≡ false
        → slice_get (map state_word reads) (place (framed (source_grid h.source)) t) ≡ Some (codes "-")
    nothing t inside out = let step = in_step in
        word_read (place (framed (source_grid h.source)) t) (subst (λ n. place (framed (source_grid h.source)) t < n) (sym sites_are) (place_in (framed (source_grid h.source)) t inside))
        ∙ ap (λ (o : Option ℕ). Some (state_word o)) (step.nothing t inside out)

    everywhere : length (map state_word reads) ≡ (framed (source_grid h.source)).width * (framed (source_grid h.source)).height
    everywhere =
        length-map reads state_word
        ∙ (length-map-range_with_len (λ q. read_at h.manifest.system es g q) 0 (length h.manifest.system.start)
        ∙ sites_are)

    tells : (observed : List ℕ) → observed ≡ observed_text g h.manifest.system es → TellsGeneration h.source h.manifest es g observed
    tells observed is = record {
      read = map state_word reads;
      observed_is = is ∙ ap (λ (d : Grid). rows_text d (map state_word reads)) h.grid;
      everywhere = everywhere;
      reached = reached;
      not_yet = not_yet;
      nothing = nothing;
    }

  generations : (tail : List ℕ) → IsReadBack text tail h.manifest es → TellsGenerations h.source h.manifest (text ++ tail) es
  generations tail back = record {
    replayed = back.replayed;
    answered = λ g.
        subst (λ (r : Result (ManifestText × List Event) Refusal). IsObservedText g r (observed_text g h.manifest.system es)) (sym back.replayed) (h.names, run, refl);
    told = λ g observed is.
        let seen : IsObservedText g (Ok (h.manifest, es)) observed = subst (λ (r : Result (ManifestText × List Event) Refusal). IsObservedText g r observed) back.replayed is in
        tells g observed seen.2;
  }

  -- ---- whole steps

  module _ (k : ℕ) where
    abbrev steps : List ℕ
    steps = map (shown h.source k) (sites (source_grid h.source))

    word_shown : (s : Site) → IsInside (source_grid h.source) s → slice_get (map decimal steps) (place (source_grid h.source) s) ≡ Some (decimal (shown h.source k s))
    word_shown s inside =
        slice_get-map decimal steps (place (source_grid h.source) s)
        ∙ ap (option_map decimal) (slice_get-map (shown h.source k) (sites (source_grid h.source)) (place (source_grid h.source) s)
        ∙ ap (option_map (shown h.source k)) (listed (source_grid h.source) s inside))

    tells_steps : (observed stepped : List ℕ) → TellsGeneration h.source h.manifest es (phases_of h.source k) observed → stepped ≡ generation_text k h.source → TellsSteps h.source h.manifest es k observed stepped
    tells_steps observed stepped told so = record {
      told = told;
      shown = map decimal steps;
      stepped_is = so;
      everywhere = length-map steps decimal ∙ (length-map (sites (source_grid h.source)) (shown h.source k) ∙ sites_length (source_grid h.source));
      same = λ s inside come.
          told.reached s inside come
          ∙ (ap (λ (n : ℕ). Some (decimal n)) (h.steps k s inside) ∙ sym (word_shown s inside));
    }

  carried : HasNoMargin margin h.source → (all : List ℕ) → TellsGenerations h.source h.manifest all es → IsCarriedRound h.source h.manifest input all es
  carried none all told =
      let spelled = spelled_so margin input h.source none h.spelled in
      record {
        generations = told;
        spelled = spelled;
        told = λ k observed stepped is so.
            let step : printed_generation k (Ok h.source) ≡ Ok stepped = ap (printed_generation k) (sym spelled) ∙ so in
            tells_steps k observed stepped (told.told (phases_of h.source k) observed is)
            (sym (IfOk-at_ok (λ v. generation_text k h.source ≡ v) step refl));
      }

-- ---- carried round

text_ends : (margin : ℕ) (last : Option ℕ) (input text : List ℕ) → IsText (Automaton margin last) input text → HoldsColony margin last input text → EndsLine text
text_ends margin last input text is h = print_ends h.source last text (ap (printed_colony last) (sym h.spelled) ∙ is)

pub generations_are_told : GenerationsAreTold
generations_are_told margin last input text rest es is h run few =
    generations margin last input text h es run (trace_text es ++ rest)
    (traces_are_read_back text rest h.manifest es (text_ends margin last input text is h) h.read run few)

pub run_generations_are_told : RunGenerationsAreTold
run_generations_are_told margin last input text out count is h few r =
    generations margin last input text h r.events r.enabled out
    (runs_are_read_back text out h.manifest count (text_ends margin last input text is h) h.read few r)

pub traces_are_carried : TracesAreCarried
traces_are_carried margin last input text rest es is h none run few =
    carried margin last input text h es run none (text ++ (trace_text es ++ rest))
    (generations_are_told margin last input text rest es is h run few)

pub runs_are_carried : RunsAreCarried
runs_are_carried margin last input text out count is h none few r =
    carried margin last input text h r.events r.enabled none (text ++ out)
    (run_generations_are_told margin last input text out count is h few r)
