-- What is noted at the sites of an event is all that it changes.
use Rattle.std.specs.Option.{option_map}
use Rattle.std.proofs.Common.{ℕ, ◌≡◌, ◌+◌, ◌<◌, ◌≤◌, List, Option, Some, None, length, slice_get, length-set, inl, inr, refl, sym, ◌∙◌, ap, subst, arith}
use Rattle.std.proofs.lemmas.Bool.{cases_eq}
use Rattle.std.proofs.lemmas.Option.{same_Some}
use Rattle.surf_lattice.specs.declared.site.Site.{Site}
use Rattle.std.specs.Prelude.{slice_set}
use Rattle.surf_lattice.specs.Grids.{Grid, place}
use Rattle.surf_world.specs.declared.event.Event.{Event}
use Rattle.surf_world.specs.Systems.{Rule, after, with_rule, with_second}
use Rattle.surf_world.specs.Worlds.{Placed}
use Rattle.surf_world.specs.Renamings.{AreBelow}
use Rattle.surf_world.proofs.Around.{IsAt, after_other}
use Rattle.surf_world.proofs.Renamed.{after_below}
use Rattle.surf_tally.specs.declared.counts.Count.{Count}
use Rattle.surf_tally.specs.declared.shown.Shown.{Shown}
use Rattle.surf_tally.specs.Counting.{noted}
use Rattle.surf_tally.specs.Showings.{look_at, look_some}
use Rattle.surf_tally.proofs.Noted.{noted_same, noted_twice, reached_noted}

-- the world after an event
abbrev pub next : Placed → Event → Placed
next w e = record w { names = after w.surface w.names e }

pub below_next : (n : ℕ) (w v : Placed) (e : Event) → v ≡ next w e → AreBelow n w.surface w.names → AreBelow n v.surface v.names
below_next n w v e is below = subst (λ (u : Placed). AreBelow n u.surface u.names) (sym is) (after_below n w.surface w.names e below)

second_long : (g : Grid) (c : List ℕ) (b : Option ℕ) (q : Option Site) → length (with_second g c b q) ≡ length c
second_long g c None q = refl
second_long g c (Some b) None = refl
second_long g c (Some b) (Some q) = length-set c (place g q) b

rule_long : (g : Grid) (c : List ℕ) (e : Event) (r : Option (Rule ℕ)) → length (with_rule g c e r) ≡ length c
rule_long g c e None = refl
rule_long g c e (Some r) = second_long g (slice_set c (place g e.first) r.left_after) r.right_after e.second ∙ length-set c (place g e.first) r.left_after

-- an event takes no site away
pub sites_next : (w v : Placed) (e : Event) → v ≡ next w e → length v.names ≡ length w.names
sites_next w v e is = ap (λ (u : Placed). length u.names) is ∙ rule_long w.surface.grid w.names e (slice_get w.surface.rules e.rule)

module _ (watched : ℕ) (table : List (Option Shown)) where
  -- a place is noted by what it shows in the world v
  abbrev pub IsNoted : Placed → List Count → List Count → ℕ → Type 0
  IsNoted v old new p = slice_get new p ≡ option_map (noted watched (look_at table v p)) (slice_get old p)

  -- only the place of a site is noted
  pub record NotedAt (v : Placed) (old new : List Count) (q : Site) : Type 0 where
    pub here : IsNoted v old new (place v.surface.grid q)
    pub others : (p : ℕ) → (place v.surface.grid q ≡ p → ⊥) → slice_get new p ≡ slice_get old p

  same_some : (now : Option Shown) (o : Option Count) → ((x : Count) → o ≡ Some x → x.shown ≡ now) → o ≡ option_map (noted watched now) o
  same_some now None right = refl
  same_some now (Some x) right = ap (λ (y : Count). Some y) (sym (noted_same watched now x (right x refl)))

  -- the counts show what the world w shows
  abbrev pub AreRight : Placed → List Count → Type 0
  AreRight w counts = (p : ℕ) (x : Count) → slice_get counts p ≡ Some x → x.shown ≡ look_at table w p

  module _ (w : Placed) (e : Event) (old : List Count) (right : AreRight w old) where
    untouched : (new : List Count) (p : ℕ) → ((q : Site) → IsAt e q → place w.surface.grid q ≡ p → ⊥) → slice_get new p ≡ slice_get old p → IsNoted (next w e) old new p
    untouched new p off same =
        let still : look_at table (next w e) p ≡ look_at table w p = ap (look_some table) (after_other w.surface w.names e p off) in
        same ∙ same_some (look_at table (next w e) p) (slice_get old p) (λ x at. right p x at ∙ sym still)

    alone : (new : List Count) → e.second ≡ None → NotedAt (next w e) old new e.first → (p : ℕ) → IsNoted (next w e) old new p
    alone new none n p = elim (cases_eq (place w.surface.grid e.first) p) [
      | inl is ↦ subst (IsNoted (next w e) old new) is n.here
      | inr ne ↦ untouched new p (λ q at same. elim at [ inl f ↦ ne (ap (place w.surface.grid) f ∙ same) | inr s ↦ let no : None ≡ Some q = sym none ∙ s in cc ]) (n.others p ne)
    ]

    module _ (t : Site) (second : e.second ≡ Some t) where
      both : (mid new : List Count) → NotedAt (next w e) old mid e.first → NotedAt (next w e) mid new t → IsNoted (next w e) old new (place w.surface.grid t)
      both mid new n m = elim (cases_eq (place w.surface.grid e.first) (place w.surface.grid t)) [
        | inl is ↦
            let at : IsNoted (next w e) old mid (place w.surface.grid t) = subst (IsNoted (next w e) old mid) is n.here in
            m.here ∙ ap (option_map (noted watched (look_at table (next w e) (place w.surface.grid t)))) at ∙ noted_twice watched (look_at table (next w e) (place w.surface.grid t)) (slice_get old (place w.surface.grid t))
        | inr ne ↦ m.here ∙ ap (option_map (noted watched (look_at table (next w e) (place w.surface.grid t)))) (n.others (place w.surface.grid t) ne)
      ]

      pair : (mid new : List Count) → NotedAt (next w e) old mid e.first → NotedAt (next w e) mid new t → (p : ℕ) → IsNoted (next w e) old new p
      pair mid new n m p = elim (cases_eq (place w.surface.grid t) p) [
        | inl is ↦ subst (IsNoted (next w e) old new) is (both mid new n m)
        | inr nt ↦ elim (cases_eq (place w.surface.grid e.first) p) [
          | inl is ↦ m.others p nt ∙ subst (IsNoted (next w e) old mid) is n.here
          | inr ne ↦ untouched new p (λ q at same. elim at [
            | inl f ↦ ne (ap (place w.surface.grid) f ∙ same)
            | inr s ↦ nt (ap (place w.surface.grid) (same_Some t q (sym second ∙ s)) ∙ same)
          ]) (m.others p nt ∙ n.others p ne)
        ]
      ]

    -- the same of a world that is what the event leaves, as two calls tell it
    pub noted_alone : (v a : Placed) → v ≡ next w e → a ≡ v → (new : List Count) → e.second ≡ None → NotedAt a old new e.first → (p : ℕ) → IsNoted v old new p
    noted_alone v a is one new none n =
        subst (λ (u : Placed). (p : ℕ) → IsNoted u old new p) (sym is) (alone new none (subst (λ (u : Placed). NotedAt u old new e.first) (one ∙ is) n))

    pub noted_pair : (v a b : Placed) → v ≡ next w e → a ≡ v → b ≡ v → (t : Site) → e.second ≡ Some t → (mid new : List Count) → NotedAt a old mid e.first → NotedAt b mid new t → (p : ℕ) → IsNoted v old new p
    noted_pair v a b is one two t second mid new n m =
        subst (λ (u : Placed). (p : ℕ) → IsNoted u old new p) (sym is)
        (pair t second mid new (subst (λ (u : Placed). NotedAt u old mid e.first) (one ∙ is) n) (subst (λ (u : Placed). NotedAt u mid new t) (two ∙ is) m))

few_some : (watched n : ℕ) (now : Option Shown) (o : Option Count) (y : Count) → ((x : Count) → o ≡ Some x → x.reached ≤ n) → option_map (noted watched now) o ≡ Some y → y.reached ≤ n + 1
few_some watched n now None y few at = absurd (let no : None ≡ Some y = at in cc)
few_some watched n now (Some x) y few at =
    let le = reached_noted watched now x in
    let small = few x refl in
    let is : noted watched now x ≡ y = same_Some (noted watched now x) y at in
    let same : (noted watched now x).reached ≡ y.reached = ap (λ (z : Count). z.reached) is in
    omega (arith, le, small, same)

-- a place that is noted has come to one more generation at most
pub few_next : (watched n : ℕ) (now : Option Shown) (old new : List Count) (p : ℕ) (y : Count) → slice_get new p ≡ option_map (noted watched now) (slice_get old p) → ((x : Count) → slice_get old p ≡ Some x → x.reached ≤ n) → slice_get new p ≡ Some y → y.reached ≤ n + 1
few_next watched n now old new p y is few at = few_some watched n now (slice_get old p) y few (sym is ∙ at)

-- where only one place is noted, none has come further than so
pub few_other : (watched q : ℕ) (now : Option Shown) (old new : List Count) → slice_get new q ≡ option_map (noted watched now) (slice_get old q) → ((p : ℕ) → (q ≡ p → ⊥) → slice_get new p ≡ slice_get old p) → ((p : ℕ) (x : Count) → slice_get old p ≡ Some x → x.reached < 4294967296)
    → (p : ℕ) (y : Count) → slice_get new p ≡ Some y → y.reached < 9223372036854775808
few_other watched q now old new here others few p y at = elim (cases_eq q p) [
  | inl is ↦
      let le = few_next watched 4294967296 now old new q y here (λ x was. let lt = few q x was in omega (arith, lt)) (ap (slice_get new) is ∙ at) in
      omega (arith, le)
  | inr ne ↦ let lt = few p y (sym (others p ne) ∙ at) in omega (arith, lt)
]
