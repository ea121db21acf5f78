-- What a reader sees in a neighbour.
use Rattle.std.specs.Prelude.{◌==◌}
use Rattle.std.proofs.Common.{◌≡◌, ℕ, suc, ◌<◌, ◌≢◌, Bool, true, false, ◌⊎◌, Some, None, cond, sym, refl, ◌∙◌, inl, inr, arith}
use Rattle.std.proofs.lemmas.Bool.{eq-eqb, ne_eqb, eqb-true}
use Rattle.std.proofs.lemmas.Option.{cond_some}
use Rattle.std.proofs.lemmas.Nat.{mod_below}
use Rattle.surf_sync.specs.declared.code.Code.{Code}
use Rattle.surf_sync.specs.Codes.{Protocol, beside, next_field, sight}
use Rattle.surf_sync.specs.Codes.Mark.{Frame, Cell}
use Rattle.surf_sync.proofs.Numbers.{next_apart}

nested : (a b c : Bool) (x y v : ℕ) → cond a (cond b (Some x) (cond c (Some y) None)) None ≡ Some v → (a ≡ true) × (((b ≡ true) × (x ≡ v)) ⊎ ((c ≡ true) × (y ≡ v)))
nested true true c x y v e = (refl, inl (refl, cc))
nested true false true x y v e = (refl, inr (refl, cc))
nested true false false x y v e = absurd cc
nested false b c x y v e = absurd cc

pub sight_frame : (P : Protocol) (r : Code) (k v : ℕ) → sight P r (Frame k) ≡ Some v → (k ≡ beside P.rule.degree r.colour r.reads) × (v ≡ P.edge)
sight_frame P r k v e =
    let w = cond_some (k == beside P.rule.degree r.colour r.reads) P.edge v e in
    (eqb-true _ _ w.0, sym w.1)

pub sight_cell : (P : Protocol) (r n : Code) (v : ℕ) → sight P r (Cell n) ≡ Some v → (n.colour ≡ beside P.rule.degree r.colour r.reads) × (((n.generation ≡ r.generation) × (v ≡ n.current)) ⊎ ((n.generation ≡ next_field P r.generation) × (v ≡ n.previous)))
sight_cell P r n v e =
    let w = nested (n.colour == beside P.rule.degree r.colour r.reads) (n.generation == r.generation) (n.generation == next_field P r.generation) n.current n.previous v e in
    (eqb-true _ _ w.0, elim w.1 [ inl h ↦ inl (eqb-true _ _ h.0, sym h.1) | inr h ↦ inr (eqb-true _ _ h.0, sym h.1) ])

pub frame_seen : (P : Protocol) (r : Code) (k : ℕ) → k ≡ beside P.rule.degree r.colour r.reads → sight P r (Frame k) ≡ Some P.edge
frame_seen P r k e = rw (eq-eqb k (beside P.rule.degree r.colour r.reads) e) refl

pub same_seen : (P : Protocol) (r n : Code) → n.colour ≡ beside P.rule.degree r.colour r.reads → n.generation ≡ r.generation → sight P r (Cell n) ≡ Some n.current
same_seen P r n e f = rw (eq-eqb n.colour (beside P.rule.degree r.colour r.reads) e, eq-eqb n.generation r.generation f) refl

pub next_seen : (P : Protocol) → 0 < P.rule.phases → (r n : Code) → n.colour ≡ beside P.rule.degree r.colour r.reads → n.generation ≡ next_field P r.generation → sight P r (Cell n) ≡ Some n.previous
next_seen P some r n e f =
    let d : n.generation ≢ r.generation = λ g. next_apart P.last P.rule.phases r.generation some (sym f ∙ g) in
    rw (eq-eqb n.colour (beside P.rule.degree r.colour r.reads) e, ne_eqb n.generation r.generation d, eq-eqb n.generation (next_field P r.generation) f) refl

pub beside_below : (d k i : ℕ) → beside d k i < suc d
unfolding beside
beside_below d k i = mod_below _ _ (omega arith)
