-- What is noted at the sites of an event is all that it changes.
use Rattle.std.specs.Option.{option_map}
use Rattle.std.proofs.Common.{ℕ, zero, suc, ◌≡◌, ◌+◌, ◌*◌, ◌<◌, ◌≤◌, List, [], ◌∷◌, length, drop, Option, Some, None, slice_get, inl, inr, refl, sym, ◌∙◌, ap, subst, arith, add-one}
use Rattle.std.proofs.lemmas.Bool.{cases_eq}
use Rattle.std.proofs.lemmas.List.{drop_all}
use Rattle.std.proofs.lemmas.Option.{same_Some}
use Rattle.surf_lattice.specs.declared.site.Site.{Site}
use Rattle.surf_lattice.specs.Grids.{IsGrid, place}
use Rattle.surf_lattice.proofs.Neighbours.{adjacent_apart}
use Rattle.surf_world.specs.declared.event.Event.{Event}
use Rattle.surf_world.specs.Systems.{Surface, FitsSecond, Enabled, after}
use Rattle.surf_world.specs.Renamings.{AreBelow}
use Rattle.surf_world.specs.Worlds.{Placed}
use Rattle.surf_world.proofs.Places.{one_place, place_in}
use Rattle.surf_world.proofs.Listed.{fitting, second_adjacent}
use Rattle.surf_world.proofs.Around.{IsAt, after_other, event_inside}
use Rattle.surf_world.proofs.Renamed.{after_below}
use Rattle.surf_sync.specs.Spelling.{Showing, shown_at}
use Rattle.surf_trace.specs.declared.watch.Kept.{Kept}
use Rattle.surf_trace.specs.declared.sight.Sight.{Sight}
use Rattle.surf_trace.specs.Sights.{showing, showing_in, seen}
use Rattle.surf_trace.specs.Watching.{noted, IsOpen, told}
use Rattle.surf_trace.proofs.Watched.{noted_same, open_noted, told_on, told_end}

-- a list where a change from a to b is noted at one place
pub record NotedAt (old new : List Kept) (place : ℕ) (a b : Option Showing) : Type 0 where
  pub here : slice_get new place ≡ option_map (λ x. noted x a b) (slice_get old place)
  pub others : (p : ℕ) → (place ≡ p → ⊥) → slice_get new p ≡ slice_get old p

kept_same : (o : Option Kept) (a b : Option Showing) → a ≡ b → option_map (λ x. noted x a b) o ≡ o
kept_same None a b is = refl
kept_same (Some x) a b is = ap Some (noted_same x a b is)

module _ (show : ℕ → Option Showing) (S : Surface ℕ) (c : List ℕ) (e : Event) (enabled : Enabled S c e) where
  -- so every place is noted
  abbrev IsNoted : List Kept → List Kept → ℕ → Type 0
  IsNoted old new p = slice_get new p ≡ option_map (λ x. noted x (shown_at show (slice_get c p)) (shown_at show (slice_get (after S c e) p))) (slice_get old p)

  untouched : (old new : List Kept) (p : ℕ) → ((q : Site) → IsAt e q → place S.grid q ≡ p → ⊥) → slice_get new p ≡ slice_get old p → IsNoted old new p
  untouched old new p off same =
      same ∙ sym (kept_same (slice_get old p) (shown_at show (slice_get c p)) (shown_at show (slice_get (after S c e) p)) (sym (ap (shown_at show) (after_other S c e p off))))

  pub noted_alone : (old new : List Kept) → e.second ≡ None → NotedAt old new (place S.grid e.first) (shown_at show (slice_get c (place S.grid e.first))) (shown_at show (slice_get (after S c e) (place S.grid e.first))) → (p : ℕ) → IsNoted old new p
  noted_alone old new none n p = elim (cases_eq (place S.grid e.first) p) [
    | inl is ↦ subst (IsNoted old new) is n.here
    | inr ne ↦ untouched old new p (λ q at same. elim at [ inl f ↦ ne (ap (place S.grid) f ∙ same) | inr s ↦ let no : None ≡ Some q = sym none ∙ s in cc ]) (n.others p ne)
  ]

  module _ (grid : IsGrid S.grid) (t : Site) (second : e.second ≡ Some t) where
    apart : place S.grid e.first ≡ place S.grid t → ⊥
    apart same =
        let f = fitting S c e enabled in
        let a = second_adjacent S.grid c e.first f.rule.right t (subst (λ o. FitsSecond S.grid c e.first f.rule.right o) second f.second) in
        adjacent_apart S.grid grid e.first t a (one_place S.grid e.first t a.first a.second same)

    pub noted_pair : (old mid new : List Kept)
        → NotedAt old mid (place S.grid e.first) (shown_at show (slice_get c (place S.grid e.first))) (shown_at show (slice_get (after S c e) (place S.grid e.first)))
        → NotedAt mid new (place S.grid t) (shown_at show (slice_get c (place S.grid t))) (shown_at show (slice_get (after S c e) (place S.grid t)))
        → (p : ℕ) → IsNoted old new p
    noted_pair old mid new n m p = elim (cases_eq (place S.grid e.first) p) [
      | inl is ↦ subst (IsNoted old new) is (m.others (place S.grid e.first) (λ s. apart (sym s)) ∙ n.here)
      | inr ne ↦ elim (cases_eq (place S.grid t) p) [
        | inl is ↦
            subst (IsNoted old new) is
            (m.here ∙ ap (option_map (λ x. noted x (shown_at show (slice_get c (place S.grid t))) (shown_at show (slice_get (after S c e) (place S.grid t))))) (n.others (place S.grid t) apart))
        | inr nt ↦ untouched old new p (λ q at same. elim at [
          | inl f ↦ ne (ap (place S.grid) f ∙ same)
          | inr s ↦ nt (ap (place S.grid) (let st : Some t ≡ Some q = sym second ∙ s in let tq : t ≡ q = cc in tq) ∙ same)
        ]) (m.others p nt ∙ n.others p ne)
      ]
    ]

noted_as : (old new : List Kept) (i j : ℕ) (a b x y : Option Showing) → i ≡ j → a ≡ x → b ≡ y → NotedAt old new i a b → NotedAt old new j x y
noted_as old new i j a b x y place before after n =
    subst (λ s. NotedAt old new j x s) after (subst (λ s. NotedAt old new j s b) before (subst (λ k. NotedAt old new k a b) place n))

-- the same of a world w and an event that leaves v of it
module _ (sights : List Sight) (w : Placed) (e : Event) (enabled : Enabled w.surface w.names e) where
  abbrev next : Placed
  next = record w { names = after w.surface w.names e }

  pub within : (v : Placed) → v ≡ next → (q : Site) → IsAt e q → (i n : ℕ) → i ≡ place v.surface.grid q → n ≡ w.surface.grid.width * w.surface.grid.height → i < n
  within v is q at i n here long =
      let lt : place w.surface.grid q < w.surface.grid.width * w.surface.grid.height = place_in w.surface.grid q (event_inside w.surface w.names e enabled q at) in
      let same : i ≡ place w.surface.grid q = here ∙ ap (λ (u : Placed). place u.surface.grid q) is in
      omega (arith, lt, same, long)

  pub below_next : (v : Placed) → v ≡ next → (n : ℕ) → AreBelow n w.surface w.names → AreBelow n v.surface v.names
  below_next v is n below = subst (λ (u : Placed). AreBelow n u.surface u.names) (sym is) (after_below n w.surface w.names e below)

  abbrev IsSeen : Placed → List Kept → List Kept → ℕ → Type 0
  IsSeen v old new p = slice_get new p ≡ option_map (λ x. noted x (seen sights w p) (seen sights v p)) (slice_get old p)

  abbrev Notes : Placed → List Kept → List Kept → Site → ℕ → Sight → Sight → Type 0
  Notes v old new q i a b = (i ≡ place v.surface.grid q) × (showing a ≡ seen sights w (place w.surface.grid q)) × (showing b ≡ seen sights v (place v.surface.grid q)) × NotedAt old new i (showing a) (showing b)

  noted_next : (old new : List Kept) (q : Site) (i : ℕ) (a b : Sight) → Notes next old new q i a b → NotedAt old new (place w.surface.grid q) (seen sights w (place w.surface.grid q)) (seen sights next (place w.surface.grid q))
  noted_next old new q i a b n = noted_as old new i (place w.surface.grid q) (showing a) (showing b) _ _ n.0 n.1 n.2 n.3

  pub seen_alone : (v : Placed) → v ≡ next → e.second ≡ None → (old new : List Kept) (i : ℕ) (a b : Sight) → Notes v old new e.first i a b → (p : ℕ) → IsSeen v old new p
  seen_alone v is none old new i a b =
      let P : Placed → Type 0 = λ (u : Placed). Notes u old new e.first i a b → (p : ℕ) → IsSeen u old new p in
      subst P (sym is) (λ n p. noted_alone (showing_in sights) w.surface w.names e enabled old new none (noted_next old new e.first i a b n) p)

  pub seen_pair : (v : Placed) → v ≡ next → IsGrid w.surface.grid → (t : Site) → e.second ≡ Some t → (old mid new : List Kept) (i j : ℕ) (a b x y : Sight)
      → Notes v old mid e.first i a b → Notes v mid new t j x y → (p : ℕ) → IsSeen v old new p
  seen_pair v is grid t second old mid new i j a b x y =
      let P : Placed → Type 0 = λ (u : Placed). Notes u old mid e.first i a b → Notes u mid new t j x y → (p : ℕ) → IsSeen u old new p in
      subst P (sym is) (λ n m p. noted_pair (showing_in sights) w.surface w.names e enabled grid t second old mid new (noted_next old mid e.first i a b n) (noted_next mid new t j x y m) p)

  -- what is foretold of the events from this one on
  drop_next : (es : List Event) (i : ℕ) → slice_get es i ≡ Some e → drop i es ≡ e ∷ drop (suc i) es
  drop_next [] zero at = absurd (let no : None ≡ Some e = at in cc)
  drop_next [] (suc i) at = absurd (let no : None ≡ Some e = at in cc)
  drop_next (x ∷ es) zero at = ap (λ (y : Event). y ∷ es) (same_Some x e at)
  drop_next (x ∷ es) (suc i) at = drop_next es i at

  pub told_next : (v : Placed) → v ≡ next → (es : List Event) (i : ℕ) → slice_get es i ≡ Some e → (old new : List Kept) → ((p : ℕ) → IsSeen v old new p) → (p : ℕ)
      → option_map (told (showing_in sights) v.surface v.names (drop (i + 1) es) p) (slice_get new p) ≡ option_map (told (showing_in sights) w.surface w.names (drop i es) p) (slice_get old p)
  told_next v is es i at old new =
      let P : Placed → Type 0 = λ (u : Placed). ((p : ℕ) → IsSeen u old new p) → (p : ℕ)
      → option_map (told (showing_in sights) u.surface u.names (drop (i + 1) es) p) (slice_get new p) ≡ option_map (told (showing_in sights) w.surface w.names (drop i es) p) (slice_get old p) in
      subst P (sym is) (λ notes p.
      ap (λ k. option_map (told (showing_in sights) w.surface (after w.surface w.names e) (drop k es) p) (slice_get new p)) (add-one i)
      ∙ ap (option_map (told (showing_in sights) w.surface (after w.surface w.names e) (drop (suc i) es) p)) (notes p)
      ∙ sym (told_on (showing_in sights) w.surface w.names e (drop (suc i) es) p (slice_get old p))
      ∙ ap (λ fs. option_map (told (showing_in sights) w.surface w.names fs p) (slice_get old p)) (sym (drop_next es i at)))

-- a place stays empty until its last change
open_one : (o : Option Kept) (a b : Option Showing) (x : Kept) → ((y : Kept) → o ≡ Some y → IsOpen y) → option_map (λ y. noted y a b) o ≡ Some x → IsOpen x
open_one None a b x empty at = absurd (let no : None ≡ Some x = at in cc)
open_one (Some y) a b x empty at = subst IsOpen (same_Some (noted y a b) x at) (open_noted y a b (empty y refl))

pub open_next : (old new : List Kept) (a b : ℕ → Option Showing) → ((p : ℕ) → slice_get new p ≡ option_map (λ y. noted y (a p) (b p)) (slice_get old p)) → ((p : ℕ) (y : Kept) → slice_get old p ≡ Some y → IsOpen y) → (p : ℕ) (x : Kept) → slice_get new p ≡ Some x → IsOpen x
open_next old new a b notes empty p x at = open_one (slice_get old p) (a p) (b p) x (empty p) (sym (notes p) ∙ at)

-- and where no event is left the state is the one that is kept
pub told_last : (sights : List Sight) (w : Placed) (es : List Event) (i : ℕ) (kept : List Kept) → length es ≤ i → ((p : ℕ) (x : Kept) → slice_get kept p ≡ Some x → IsOpen x) → (p : ℕ)
    → option_map (λ x. x.state) (slice_get kept p) ≡ option_map (told (showing_in sights) w.surface w.names (drop i es) p) (slice_get kept p)
told_last sights w es i kept le empty p =
    sym (told_end (showing_in sights) w.surface w.names p (slice_get kept p) (empty p))
    ∙ ap (λ fs. option_map (told (showing_in sights) w.surface w.names fs p) (slice_get kept p)) (sym (drop_all i es le))
