-- What is read off a run under other names is the same.
use Rattle.std.specs.Prelude.{if◌then◌else◌, ◌==◌}
use Rattle.std.specs.List.{range_with_len}
use Rattle.std.specs.Option.{option_map}
use Rattle.std.proofs.Common.{◌≡◌, ℕ, zero, suc, List, [], ◌∷◌, length, map, Option, Some, None, slice_get, refl, ap, ◌∙◌}
use Rattle.std.proofs.Math.Path.{fun_ext}
use Rattle.std.proofs.lemmas.List.{length-map}
use Rattle.std.proofs.lemmas.Option.{slice_get-map}
use Rattle.surf_world.specs.declared.event.Event.{Event}
use Rattle.surf_world.specs.Systems.{Surface, after}
use Rattle.surf_world.specs.Renamings.{renamed}
use Rattle.surf_world.proofs.Renamed.{after_renamed}
use Rattle.surf_sync.specs.Spelling.{Showing, shown_at}
use Rattle.surf_trace.specs.Generations.{changed, observed, state_of, if_shown, read_off}
use Rattle.surf_trace.specs.Observations.{readings}

module _ {N M : Type 0} (f : N → M) (S : Surface N) where
  shown_option : (show : M → Option Showing) (o : Option N) → shown_at show (option_map f o) ≡ shown_at (λ m. show (f m)) o
  shown_option show None = refl
  shown_option show (Some m) = refl

  pub shown_renamed : (show : M → Option Showing) (c : List N) (p : ℕ) → shown_at show (slice_get (map f c) p) ≡ shown_at (λ m. show (f m)) (slice_get c p)
  shown_renamed show c p = ap (shown_at show) (slice_get-map f c p) ∙ shown_option show (slice_get c p)

  pub observed_renamed : (show : M → Option Showing) (c : List N) (es : List Event) (p k : ℕ) → observed show (renamed f S) (map f c) es p k ≡ observed (λ m. show (f m)) S c es p k
  observed_renamed show c [] p zero = ap state_of (shown_renamed show c p)
  observed_renamed show c [] p (suc k) = refl
  observed_renamed show c (e ∷ es) p zero = ap state_of (shown_renamed show c p)
  observed_renamed show c (e ∷ es) p (suc k) =
      ap (λ d. if changed (shown_at show (slice_get (map f c) p)) (shown_at show (slice_get d p)) == 0 then observed show (renamed f S) d es p (suc k) else observed show (renamed f S) d es p k) (after_renamed f S c e)
      ∙ ap (λ a. if changed a (shown_at show (slice_get (map f (after S c e)) p)) == 0 then observed show (renamed f S) (map f (after S c e)) es p (suc k) else observed show (renamed f S) (map f (after S c e)) es p k) (shown_renamed show c p)
      ∙ ap (λ b. if changed (shown_at (λ m. show (f m)) (slice_get c p)) b == 0 then observed show (renamed f S) (map f (after S c e)) es p (suc k) else observed show (renamed f S) (map f (after S c e)) es p k) (shown_renamed show (after S c e) p)
      ∙ ap (λ u. if changed (shown_at (λ m. show (f m)) (slice_get c p)) (shown_at (λ m. show (f m)) (slice_get (after S c e) p)) == 0 then u else observed show (renamed f S) (map f (after S c e)) es p k) (observed_renamed show (after S c e) es p (suc k))
      ∙ ap (λ u. if changed (shown_at (λ m. show (f m)) (slice_get c p)) (shown_at (λ m. show (f m)) (slice_get (after S c e) p)) == 0 then observed (λ m. show (f m)) S (after S c e) es p (suc k) else u) (observed_renamed show (after S c e) es p k)

  read_renamed : (show : M → Option Showing) (c : List N) (es : List Event) (k p : ℕ) → read_off show (renamed f S) (map f c) es p k ≡ read_off (λ m. show (f m)) S c es p k
  read_renamed show c es k p =
      ap (λ a. if_shown a (observed show (renamed f S) (map f c) es p k)) (shown_renamed show c p)
      ∙ ap (if_shown (shown_at (λ m. show (f m)) (slice_get c p))) (observed_renamed show c es p k)

  pub readings_renamed : (show : M → Option Showing) (c : List N) (es : List Event) (k : ℕ) → readings show (renamed f S) (map f c) es k ≡ readings (λ m. show (f m)) S c es k
  readings_renamed show c es k =
      ap (λ n. map (λ p. read_off show (renamed f S) (map f c) es p k) (range_with_len 0 n)) (length-map c f)
      ∙ ap (λ (g : ℕ → Option ℕ). map g (range_with_len 0 (length c))) (fun_ext (read_renamed show c es k))
