-- An observer reads the synchronous states, one after another.
use Rattle.std.specs.Prelude.{if◌then◌else◌, ◌==◌, slice_get}
use Rattle.std.proofs.Common.{◌≡◌, ℕ, zero, suc, ◌+◌, ◌<◌, ◌≤◌, true, false, List, [], ◌∷◌, Option, Some, None, refl, ap, ◌∙◌, inl, inr, arith}
use Rattle.std.proofs.lemmas.Bool.{cases_eq, eq-eqb, ne_eqb}
use Rattle.surf_lattice.specs.Grids.{place}
use Rattle.surf_world.specs.declared.event.Event.{Event}
use Rattle.surf_world.specs.Systems.{Surface, System, after, IsRun}
use Rattle.surf_sync.specs.Codes.{Mark}
use Rattle.surf_sync.specs.Codes.Mark.{Frame}
use Rattle.surf_sync.specs.Spelling.{Showing, shown_at}
use Rattle.surf_trace.specs.Generations.{changed, generation, observed, state_of}
use Rattle.surf_colony.proofs.Plans.{Plan, IsPlan, IsColony, Tells, shown_after}
use Rattle.surf_colony.proofs.Codes.{Clock}
use Rattle.surf_colony.proofs.Synchrony.{Synchrony, reads_of, kept, ticked}
use Rattle.surf_colony.proofs.Runs.{shown_here, changes, changed_small}

observed_now : {N : Type 0} (show : N → Option Showing) (S : Surface N) (c : List N) (es : List Event) (p : ℕ) → observed show S c es p zero ≡ state_of (shown_at show (slice_get c p))
observed_now show S c [] p = refl
observed_now show S c (e ∷ es) p = refl

-- a cell that makes j more changes or more shows the state of its generation and j
pub observes : (A : Plan) (S : System Mark) (show : Mark → Option Showing) → IsPlan A → IsColony A S → Tells A show → (c : List Mark) (k : ℕ → Clock) (es : List Event) → Synchrony A c k → IsRun S.surface c es → (p j : ℕ) → A.board.cell p ≡ true →
    (j ≤ generation show S.surface c es p → observed show S.surface c es p j ≡ Some (shown_after A ((k p).gen + j) p)) × (generation show S.surface c es p < j → observed show S.surface c es p j ≡ None)
observes A S show is colony tells c k es s run p zero cell =
    let e : (k p).gen ≡ (k p).gen + 0 = omega arith in
    (λ h. observed_now show S.surface c es p ∙ ap state_of (shown_here is show tells s p cell) ∙ ap (λ g. Some (shown_after A g p)) e, λ h. absurd (omega arith))
observes A S show is colony tells c k [] s run p (suc j) cell = (λ h. absurd (omega arith), λ h. refl)
observes A S show is colony tells c k (e ∷ es) s run p (suc j) cell =
    let r = reads_of is colony s e run.0 in
    let p' : ℕ = place S.surface.grid e.first in
    let s' = kept is s e p' r in
    let m : changed (shown_at show (slice_get c p)) (shown_at show (slice_get (after S.surface c e) p)) + (k p).gen ≡ (ticked A.rule.degree k p' p).gen = changes is show tells p' s s' p cell in
    let one : changed (shown_at show (slice_get c p)) (shown_at show (slice_get (after S.surface c e) p)) ≤ 1 = changed_small (shown_at show (slice_get c p)) (shown_at show (slice_get (after S.surface c e) p)) in
    elim (cases_eq (changed (shown_at show (slice_get c p)) (shown_at show (slice_get (after S.surface c e) p))) 0) [
      | inl z ↦
          let w = observes A S show is colony tells (after S.surface c e) (ticked A.rule.degree k p') es s' run.1 p (suc j) cell in
          let o : observed show S.surface c (e ∷ es) p (suc j) ≡ observed show S.surface (after S.surface c e) es p (suc j) = ap (λ b. if b then observed show S.surface (after S.surface c e) es p (suc j) else observed show S.surface (after S.surface c e) es p j) (eq-eqb _ 0 z) in
          let g : (ticked A.rule.degree k p' p).gen + suc j ≡ (k p).gen + suc j = omega arith in
          (λ h. o ∙ w.0 (omega arith) ∙ ap (λ x. Some (shown_after A x p)) g, λ h. o ∙ w.1 (omega arith))
      | inr d ↦
          let w = observes A S show is colony tells (after S.surface c e) (ticked A.rule.degree k p') es s' run.1 p j cell in
          let o : observed show S.surface c (e ∷ es) p (suc j) ≡ observed show S.surface (after S.surface c e) es p j = ap (λ b. if b then observed show S.surface (after S.surface c e) es p (suc j) else observed show S.surface (after S.surface c e) es p j) (ne_eqb _ 0 d) in
          let g : (ticked A.rule.degree k p' p).gen + j ≡ (k p).gen + suc j = omega arith in
          (λ h. o ∙ w.0 (omega arith) ∙ ap (λ x. Some (shown_after A x p)) g, λ h. o ∙ w.1 (omega arith))
    ]

never_changed : (b : Option Showing) → changed None b ≡ 0
never_changed None = refl
never_changed (Some b) = refl

-- at a frame nothing is observed
pub frame_observed : (A : Plan) (S : System Mark) (show : Mark → Option Showing) → IsPlan A → IsColony A S → ((c : ℕ) → c < suc A.rule.degree → show (Frame c) ≡ None) → (c : List Mark) (k : ℕ → Clock) (es : List Event) → Synchrony A c k → IsRun S.surface c es → (p j : ℕ) → A.board.cell p ≡ false → p < A.board.places → observed show S.surface c es p j ≡ None
frame_observed A S show is colony mute c k es s run p zero out below =
    observed_now show S.surface c es p ∙ ap (λ o. state_of (shown_at show o)) (s.frames p out below) ∙ ap state_of (mute (A.board.colour p) (is.is_board.in_colours p))
frame_observed A S show is colony mute c k [] s run p (suc j) out below = refl
frame_observed A S show is colony mute c k (e ∷ es) s run p (suc j) out below =
    let r = reads_of is colony s e run.0 in
    let s' = kept is s e (place S.surface.grid e.first) r in
    let n : shown_at show (slice_get c p) ≡ None = ap (shown_at show) (s.frames p out below) ∙ mute (A.board.colour p) (is.is_board.in_colours p) in
    ap (λ a. if changed a (shown_at show (slice_get (after S.surface c e) p)) == 0 then observed show S.surface (after S.surface c e) es p (suc j) else observed show S.surface (after S.surface c e) es p j) n
    ∙ ap (λ t. if t == 0 then observed show S.surface (after S.surface c e) es p (suc j) else observed show S.surface (after S.surface c e) es p j) (never_changed (shown_at show (slice_get (after S.surface c e) p)))
    ∙ frame_observed A S show is colony mute (after S.surface c e) (ticked A.rule.degree k (place S.surface.grid e.first)) es s' run.1 p (suc j) out below
