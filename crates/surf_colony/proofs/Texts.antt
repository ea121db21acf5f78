-- A run under other names shows the same, and is a run where the names that meet are told apart.
use Rattle.std.specs.Prelude.{slice_get}
use Rattle.std.specs.Option.{option_map}
use Rattle.std.proofs.Common.{◌≡◌, ℕ, ◌+◌, List, [], ◌∷◌, map, Option, Some, None, sym, refl, ap, ◌∙◌, subst}
use Rattle.std.proofs.lemmas.Option.{slice_get-map}
use Rattle.surf_lattice.specs.declared.site.Site.{Site}
use Rattle.surf_lattice.specs.Grids.{place}
use Rattle.surf_world.specs.declared.event.Event.{Event}
use Rattle.surf_world.specs.Systems.{Rule, Surface, Fits, FitsSecond, Enabled, after}
use Rattle.surf_world.specs.Renamings.{renamed_rule, renamed}
use Rattle.surf_world.proofs.Renamed.{after_renamed}
use Rattle.surf_sync.specs.Spelling.{Showing, shown_at}
use Rattle.surf_trace.specs.Generations.{changed, generation}
use Rattle.surf_trace.proofs.Renamed.{shown_renamed}

module _ {N M : Type 0} (f : N → M) (S : Surface N) where
  pub generation_renamed : (show : M → Option Showing) (c : List N) (es : List Event) (p : ℕ) → generation show (renamed f S) (map f c) es p ≡ generation (λ m. show (f m)) S c es p
  generation_renamed show c [] p = refl
  generation_renamed show c (e ∷ es) p =
      ap (λ d. changed (shown_at show (slice_get (map f c) p)) (shown_at show (slice_get d p)) + generation show (renamed f S) d es p) (after_renamed f S c e)
      ∙ ap (λ n. changed (shown_at show (slice_get (map f c) p)) (shown_at show (slice_get (map f (after S c e)) p)) + n) (generation_renamed show (after S c e) es p)
      ∙ ap (λ a. changed a (shown_at show (slice_get (map f (after S c e)) p)) + generation (λ m. show (f m)) S (after S c e) es p) (shown_renamed f S show c p)
      ∙ ap (λ b. changed (shown_at (λ m. show (f m)) (slice_get c p)) b + generation (λ m. show (f m)) S (after S c e) es p) (shown_renamed f S show (after S c e) p)

  -- back, where the names that meet are told apart
  pub record Apart (Good : N → Type 0) : Type 0 where
    pub names : (a b : N) → Good a → Good b → f a ≡ f b → a ≡ b
    pub lefts : (k : ℕ) (r : Rule N) → slice_get S.rules k ≡ Some r → Good r.left × ((b : N) → r.right ≡ Some b → Good b)

module _ {N M : Type 0} (f : N → M) (S : Surface N) (Good : N → Type 0) (apart : Apart f S Good) where
  option_back : (o : Option N) → ((m : N) → o ≡ Some m → Good m) → (a : N) → Good a → option_map f o ≡ Some (f a) → o ≡ Some a
  option_back None ok a g e = absurd cc
  option_back (Some m) ok a g e = ap Some (apart.names m a (ok m refl) g (let x : f m ≡ f a = cc in x))

  get_back : (c : List N) → ((p : ℕ) (m : N) → slice_get c p ≡ Some m → Good m) → (p : ℕ) (a : N) → Good a → slice_get (map f c) p ≡ Some (f a) → slice_get c p ≡ Some a
  get_back c ok p a g e = option_back (slice_get c p) (ok p) a g (sym (slice_get-map f c p) ∙ e)

  second_back : (c : List N) → ((p : ℕ) (m : N) → slice_get c p ≡ Some m → Good m) → (p : Site) (b : Option N) (q : Option Site) → ((m : N) → b ≡ Some m → Good m) → FitsSecond S.grid (map f c) p (option_map f b) q → FitsSecond S.grid c p b q
  second_back c ok p None None g h = h
  second_back c ok p None (Some q) g h = h
  second_back c ok p (Some b) None g h = h
  second_back c ok p (Some b) (Some q) g h = (h.0, (h.1.0, get_back c ok (place S.grid q) b (g b refl) h.1.1))

  fits_back : (c : List N) → ((p : ℕ) (m : N) → slice_get c p ≡ Some m → Good m) → (e : Event) (o : Option (Rule N)) → ((r : Rule N) → o ≡ Some r → Good r.left × ((b : N) → r.right ≡ Some b → Good b)) → Fits S.grid (map f c) e (option_map (renamed_rule f) o) → Fits S.grid c e o
  fits_back c ok e None g h = h
  fits_back c ok e (Some r) g h =
      let l = g r refl in
      (h.0, (h.1.0, get_back c ok (place S.grid e.first) r.left l.0 h.1.1), second_back c ok e.first r.right e.second l.1 h.2)

  pub enabled_back : (c : List N) → ((p : ℕ) (m : N) → slice_get c p ≡ Some m → Good m) → (e : Event) → Enabled (renamed f S) (map f c) e → Enabled S c e
  enabled_back c ok e h = fits_back c ok e (slice_get S.rules e.rule) (apart.lefts e.rule) (subst (Fits S.grid (map f c) e) (slice_get-map (renamed_rule f) S.rules e.rule) h)
