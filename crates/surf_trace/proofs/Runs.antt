-- Runs grow at their end, and a list has one first event that is not enabled, if any.
use Rattle.std.proofs.Common.{ℕ, zero, suc, ◌≡◌, ◌+◌, ◌-◌, ◌<◌, List, [], ◌∷◌, Some, slice_get, get_or, length, take, inl, inr, refl, ap, add-one, arith, subst, sym, ◌∙◌}
use Rattle.std.proofs.lemmas.Bool.{cases_lt}
use Rattle.surf_world.specs.declared.event.Event.{Event}
use Rattle.surf_world.specs.Systems.{Surface, Enabled, after, IsRun, left_by}
use Rattle.surf_world.specs.Worlds.{Placed}
use Rattle.surf_trace.specs.Replays.{FirstBad, left_world}

-- a read of a list with another element in its place
pub read_at : (es : List Event) (n : ℕ) (d : Event) → n < length es → slice_get es n ≡ Some (get_or es n d)
read_at [] n d less = absurd (omega arith)
read_at (e ∷ es) zero d less = refl
read_at (e ∷ es) (suc n) d less = read_at es n d (omega arith)

module _ {N : Type 0} (S : Surface N) where
  -- the first n events are a run, and so are those with the next one, which is enabled
  pub run_more : (c : List N) (es : List Event) (n : ℕ) (e : Event) → slice_get es n ≡ Some e → IsRun S c (take n es) → Enabled S (left_by S c (take n es)) e → IsRun S c (take (suc n) es)
  run_more c [] n e at run enabled = tt
  run_more c (x ∷ es) zero e at run enabled = let same : x ≡ e = cc in (subst (Enabled S c) (sym same) enabled, tt)
  run_more c (x ∷ es) (suc n) e at run enabled = (run.0, run_more (after S c x) es n e at run.1 enabled)

  pub left_more : (c : List N) (es : List Event) (n : ℕ) (e : Event) → slice_get es n ≡ Some e → left_by S c (take (suc n) es) ≡ after S (left_by S c (take n es)) e
  left_more c [] n e at = cc
  left_more c (x ∷ es) zero e at = let same : x ≡ e = cc in ap (after S c) same
  left_more c (x ∷ es) (suc n) e at = left_more (after S c x) es n e at

  -- a longer run has that event enabled
  pub enabled_within : (c : List N) (es : List Event) (n m : ℕ) (e : Event) → n < m → slice_get es n ≡ Some e → IsRun S c (take m es) → Enabled S (left_by S c (take n es)) e
  enabled_within c [] n m e less at run = cc
  enabled_within c (x ∷ es) n zero e less at run = absurd (omega arith)
  enabled_within c (x ∷ es) zero (suc m) e less at run = let same : x ≡ e = cc in subst (Enabled S c) same run.0
  enabled_within c (x ∷ es) (suc n) (suc m) e less at run = enabled_within (after S c x) es n m e (omega arith) at run.1

  pub enabled_in : (c : List N) (es : List Event) (n : ℕ) (e : Event) → slice_get es n ≡ Some e → IsRun S c es → Enabled S (left_by S c (take n es)) e
  enabled_in c [] n e at run = cc
  enabled_in c (x ∷ es) zero e at run = let same : x ≡ e = cc in subst (Enabled S c) same run.0
  enabled_in c (x ∷ es) (suc n) e at run = enabled_in (after S c x) es n e at run.1

  -- a run has no such event
  pub run_not_bad : (c : List N) (es : List Event) (k : ℕ) → IsRun S c es → FirstBad S c es k → ⊥
  run_not_bad c es k run bad = bad.fails (enabled_in c es (k - 1) bad.event bad.listed run)

  -- and there are no two of them
  pub bad_not_later : (c : List N) (es : List Event) (k j : ℕ) → FirstBad S c es k → FirstBad S c es j → k < j → ⊥
  bad_not_later c es k j one other less =
      let counted = one.counted in
      one.fails (enabled_within c es (k - 1) (j - 1) one.event (omega arith) one.listed other.run)

  pub one_bad : (c : List N) (es : List Event) (k j : ℕ) → FirstBad S c es k → FirstBad S c es j → k ≡ j
  one_bad c es k j one other = elim (cases_lt k j) [
    | inl less ↦ absurd (bad_not_later c es k j one other less)
    | inr le ↦ elim (cases_lt j k) [
      | inl less ↦ absurd (bad_not_later c es j k other one less)
      | inr ge ↦ omega (arith, le, ge)
    ]
  ]

-- what a replay knows after the first events, which left v of the world w
module _ (w v : Placed) (es : List Event) (n : ℕ) (e : Event) (at : slice_get es n ≡ Some e) (run : IsRun w.surface w.names (take n es)) (left : v ≡ left_world w (take n es)) where
  enabled_there : Enabled v.surface v.names e → Enabled w.surface (left_by w.surface w.names (take n es)) e
  enabled_there enabled = let P : Placed → Type 0 = λ (u : Placed). Enabled u.surface u.names e in subst P left enabled

  enabled_here : Enabled w.surface (left_by w.surface w.names (take n es)) e → Enabled v.surface v.names e
  enabled_here enabled = let P : Placed → Type 0 = λ (u : Placed). Enabled u.surface u.names e in subst P (sym left) enabled

  pub run_on : Enabled v.surface v.names e → IsRun w.surface w.names (take (n + 1) es)
  run_on enabled = rw add-one (run_more w.surface w.names es n e at run (enabled_there enabled))

  pub left_on : (u : Placed) → u ≡ record v { names = after v.surface v.names e } → u ≡ left_world w (take (n + 1) es)
  left_on u is =
      is
      ∙ ap (λ (x : Placed). record x { names = after x.surface x.names e }) left
      ∙ ap (λ (c : List ℕ). record w { names = c }) (sym (left_more w.surface w.names es n e at))
      ∙ ap (λ k. left_world w (take k es)) (sym (add-one n))

  pub bad_here : (Enabled v.surface v.names e → ⊥) → FirstBad w.surface w.names es (n + 1)
  bad_here fails =
      let same : n ≡ n + 1 - 1 = omega arith in
      let Bad : ℕ → Type 0 = λ m. IsRun w.surface w.names (take m es) × (slice_get es m ≡ Some e) × (Enabled w.surface (left_by w.surface w.names (take m es)) e → ⊥) in
      let there : Bad (n + 1 - 1) = subst Bad same (run, at, λ enabled. fails (enabled_here enabled)) in
      record { counted = omega arith; run = there.0; event = e; listed = there.1; fails = there.2 }
