-- A simulation of numbers is the run of the system that they name.
use Rattle.std.proofs.Common.{ℕ, ◌≡◌, nat_eq, List, [], ◌∷◌, ◌++◌, length, map, Result, Ok, refl, sym, ◌∙◌, ap, subst, inl, inr}
use Rattle.std.specs.Str.{bytes_eq}
use Rattle.rand_core.specs.Stream.{Stream}
use Rattle.surf_rules.specs.Names.{text_of, AreDistinct}
use Rattle.surf_world.specs.declared.event.Event.{Event}
use Rattle.surf_world.specs.Systems.{System, left_by, Stuck}
use Rattle.surf_world.specs.Choices.{choices}
use Rattle.surf_world.specs.Worlds.{Placed}
use Rattle.surf_world.specs.Renamings.{renamed_system, AreBelow, IsOneToOne}
use Rattle.surf_world.proofs.Renamed.{left_renamed, run_both, stuck_both, choices_renamed, texts_apart, bytes_to, bytes_from}
use Rattle.surf_world.proofs.Chosen.{stuck_from_none, none_from_stuck}
use Rattle.surf_sim.specs.Simulations.{sim_events}
use Rattle.surf_sim.proofs.Events.{are_run, are_few, ends_stuck, events_renamed}
use Rattle.surf_trace.specs.Traces.{trace_text}
use Rattle.surf_manifest.specs.Grammar.{ManifestText, manifest_of}
use Rattle.surf_manifest.specs.Numbered.{IsNumbered}
use Rattle.surf_manifest_lines.specs.declared.error.ManifestError.{ManifestError}
use Rattle.surf_cells.proofs.Below.{left_below}
use Rattle.surf_command_runs.specs.Runs.{state_text, last_word, word_for, text_of_events, LastWord, ShowsRun}
use Rattle.surf_pick.specs.Draws.{seeded, words_of}
use Rattle.surf_command_runs.specs.Calls.{printed_run, run_call, ShowsOf}
use Rattle.surf_command_runs.specs.Prints.{number_word, placed_events, placed_text}

module _ (texts : List (List ℕ)) (w : Placed) (distinct : AreDistinct texts) (below : AreBelow (length texts) w.surface w.names) (s : Stream) (count : ℕ) where
  abbrev named : System (List ℕ)
  named = renamed_system (text_of texts) (record { surface = w.surface; start = w.names })

  abbrev taken : List Event
  taken = placed_events w s count

  abbrev final : List ℕ
  final = left_by w.surface w.names taken

  one : IsOneToOne (length texts) (text_of texts)
  one = texts_apart texts distinct

  still : AreBelow (length texts) w.surface final
  still = left_below (length texts) w.surface w.names taken below

  same_events : sim_events bytes_eq (named).surface (named).start s count ≡ taken
  same_events = events_renamed (text_of texts) (length texts) one w.surface w.names s count below

  same_left : left_by (named).surface (named).start taken ≡ map (text_of texts) final
  same_left = left_renamed (text_of texts) w.surface w.names taken

  same_word : last_word (named).surface (map (text_of texts) final) ≡ number_word w.surface final
  same_word = ap word_for (choices_renamed (length texts) (text_of texts) one w.surface bytes_eq bytes_to bytes_from final still)

  -- the text of the events of the named system
  pub whole_text : text_of_events named (sim_events bytes_eq (named).surface (named).start s count) ≡ placed_text (text_of texts) w s count
  whole_text =
      ap (text_of_events named) same_events
      ∙ ap (λ c. trace_text taken ++ state_text w.surface.grid c (last_word (named).surface c)) same_left
      ∙ ap (λ word. trace_text taken ++ state_text w.surface.grid (map (text_of texts) final) word) same_word

  word_is : (es : List Event) → choices nat_eq w.surface final ≡ es → LastWord (named).surface (map (text_of texts) final) (word_for es)
  word_is [] is = inl ((stuck_both (length texts) (text_of texts) one w.surface final still).0 (stuck_from_none w.surface final is), refl)
  word_is (e ∷ es) is =
      inr ((λ stuck. let none : choices nat_eq w.surface final ≡ [] = none_from_stuck w.surface final ((stuck_both (length texts) (text_of texts) one w.surface final still).1 stuck) in absurd cc), refl)

  pub shows : ShowsRun named count (placed_text (text_of texts) w s count)
  shows = record {
    events = taken;
    word = number_word w.surface final;
    enabled = (run_both (length texts) (text_of texts) one w.surface w.names taken below).0 (are_run w.surface w.names s count);
    at_most = are_few w.surface w.names s count;
    fewer = λ less. subst (λ (c : List (List ℕ)). Stuck (named).surface c) (sym same_left) ((stuck_both (length texts) (text_of texts) one w.surface final still).0 (ends_stuck w.surface w.names s count less));
    last = subst (λ (c : List (List ℕ)). LastWord (named).surface c (number_word w.surface final)) (sym same_left) (word_is (choices nat_eq w.surface final) refl);
    is = ap (λ c. trace_text taken ++ state_text w.surface.grid c (number_word w.surface final)) (sym same_left);
  }

pub numbered_text : (S : System (List ℕ)) (w : Placed) (texts : List (List ℕ)) (s : Stream) (count : ℕ) → IsNumbered S w texts → text_of_events S (sim_events bytes_eq S.surface S.start s count) ≡ placed_text (text_of texts) w s count
numbered_text S w texts s count n =
    subst (λ (T : System (List ℕ)). text_of_events T (sim_events bytes_eq T.surface T.start s count) ≡ placed_text (text_of texts) w s count) n.named
    (whole_text texts w n.distinct n.below s count)

pub numbered_shows : (S : System (List ℕ)) (w : Placed) (texts : List (List ℕ)) (s : Stream) (count : ℕ) → IsNumbered S w texts → ShowsRun S count (placed_text (text_of texts) w s count)
numbered_shows S w texts s count n =
    subst (λ (T : System (List ℕ)). ShowsRun T count (placed_text (text_of texts) w s count)) n.named (shows texts w n.distinct n.below s count)

-- the text of a world of the manifest is what `run` writes
module _ (input : List ℕ) (m : ManifestText) (seed count : ℕ) (w : Placed) (texts : List (List ℕ)) (read : manifest_of input ≡ Ok m) (numbered : IsNumbered m.system w texts) where
  abbrev text : List ℕ
  text = placed_text (text_of texts) w (words_of (seeded seed)) count

  pub output_is : (run_call seed count input).Is text
  output_is = ap (printed_run seed count) read ∙ ap Ok (numbered_text m.system w texts (words_of (seeded seed)) count numbered)

  pub shown : (run_call seed count input).Shows text
  shown = subst (λ (r : Result ManifestText ManifestError). ShowsOf count r text) (sym read) (numbered_shows m.system w texts (words_of (seeded seed)) count numbered)
