-- A tally of numbers is that of the texts that they name.
use Rattle.std.proofs.Common.{ℕ, ◌≡◌, ◌+◌, nat_eq, List, [], ◌∷◌, length, map, Option, slice_get, refl, sym, ◌∙◌, ap, subst}
use Rattle.std.proofs.Math.Path.{fun_ext}
use Rattle.std.specs.Prelude.{filter}
use Rattle.std.proofs.lemmas.List.{length-map}
use Rattle.std.specs.Str.{bytes_eq}
use Rattle.rand_core.specs.Stream.{Stream}
use Rattle.surf_rules.specs.Names.{text_of, AreDistinct}
use Rattle.surf_world.specs.declared.event.Event.{Event}
use Rattle.surf_world.specs.Systems.{Surface, System, after}
use Rattle.surf_world.specs.Worlds.{Placed}
use Rattle.surf_world.specs.Renamings.{renamed, renamed_system, AreBelow}
use Rattle.surf_world.proofs.Renamed.{after_renamed, texts_apart}
use Rattle.surf_pick.specs.Draws.{seeded, words_of}
use Rattle.surf_sim.specs.Simulations.{sim_events}
use Rattle.surf_sim.proofs.Events.{events_renamed}
use Rattle.surf_sync.specs.Spelling.{Showing, shown_at, shown_by}
use Rattle.surf_trace.specs.Generations.{changed, generation, observed}
use Rattle.surf_trace.specs.Observations.{shown_in}
use Rattle.surf_trace.proofs.Renamed.{observed_renamed, shown_renamed}
use Rattle.surf_manifest.specs.Numbered.{IsNumbered}
use Rattle.surf_tally.specs.declared.summary.Tally.{Tally}
use Rattle.surf_tally.specs.Tallies.{tally_of, least, greatest, is_live}
use Rattle.surf_command_vote.specs.Shown.{seed_tally}

-- a site comes to as many generations under other names
module _ {N M : Type 0} (f : N → M) (S : Surface N) (show : M → Option Showing) where
  reached_renamed : (c : List N) (es : List Event) (p : ℕ) → generation show (renamed f S) (map f c) es p ≡ generation (λ m. show (f m)) S c es p
  reached_renamed c [] p = refl
  reached_renamed c (e ∷ es) p =
      ap (λ d. changed (shown_at show (slice_get (map f c) p)) (shown_at show (slice_get d p)) + generation show (renamed f S) d es p) (after_renamed f S c e)
      ∙ ap (λ n. changed (shown_at show (slice_get (map f c) p)) (shown_at show (slice_get (map f (after S c e)) p)) + n) (reached_renamed (after S c e) es p)
      ∙ ap (λ a. changed a (shown_at show (slice_get (map f (after S c e)) p)) + generation (λ m. show (f m)) S (after S c e) es p) (shown_renamed f S show c p)
      ∙ ap (λ b. changed (shown_at (λ m. show (f m)) (slice_get c p)) b + generation (λ m. show (f m)) S (after S c e) es p) (shown_renamed f S show (after S c e) p)

-- a tally by the generations and the states at places
abbrev counted : ℕ → List ℕ → (ℕ → ℕ) → (ℕ → Option ℕ) → Tally
counted events places reached state = record {
  cells = length places;
  events = events;
  least = least (map reached places);
  greatest = greatest (map reached places);
  live = length (filter is_live (map state places));
}

module _ (texts : List (List ℕ)) (w : Placed) (distinct : AreDistinct texts) (below : AreBelow (length texts) w.surface w.names) (s : Stream) (count k : ℕ) (places : List ℕ) where
  abbrev named : System (List ℕ)
  named = renamed_system (text_of texts) (record { surface = w.surface; start = w.names })

  abbrev taken : List Event
  taken = sim_events nat_eq w.surface w.names s count

  same_tally : tally_of shown_by (named).surface (named).start taken k places ≡ tally_of (shown_in texts) w.surface w.names taken k places
  same_tally =
      ap (λ (reached : ℕ → ℕ). counted (length taken) places reached (λ p. observed shown_by (named).surface (named).start taken p k)) (fun_ext (reached_renamed (text_of texts) w.surface shown_by w.names taken))
      ∙ ap (λ (state : ℕ → Option ℕ). counted (length taken) places (generation (shown_in texts) w.surface w.names taken) state) (fun_ext (λ p. observed_renamed (text_of texts) w.surface shown_by w.names taken p k))

  pub named_tally : tally_of shown_by (named).surface (named).start (sim_events bytes_eq (named).surface (named).start s count) k places ≡ tally_of (shown_in texts) w.surface w.names taken k places
  named_tally =
      ap (λ es. tally_of shown_by (named).surface (named).start es k places) (events_renamed (text_of texts) (length texts) (texts_apart texts distinct) w.surface w.names s count below)
      ∙ same_tally

-- the system that a world's numbers name comes to what the world does
pub numbered_tally : (S : System (List ℕ)) (w : Placed) (texts : List (List ℕ)) (count : ℕ) (places : List ℕ) → IsNumbered S w texts → tally_of (shown_in texts) w.surface w.names (sim_events nat_eq w.surface w.names (words_of (seeded 1)) count) 2 places ≡ seed_tally S places count
numbered_tally S w texts count places n =
    subst (λ (T : System (List ℕ)). tally_of (shown_in texts) w.surface w.names (sim_events nat_eq w.surface w.names (words_of (seeded 1)) count) 2 places ≡ seed_tally T places count) n.named
    (sym (named_tally texts w n.distinct n.below (words_of (seeded 1)) count 2 places))

-- as many sites as numbers
pub numbered_sites : (S : System (List ℕ)) (w : Placed) (texts : List (List ℕ)) → IsNumbered S w texts → length S.start ≡ length w.names
numbered_sites S w texts n = ap (λ (T : System (List ℕ)). length T.start) (sym n.named) ∙ length-map w.names (text_of texts)
