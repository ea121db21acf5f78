-- Every state and every acc that a cell shows is in its range, so its code is listed.
use Rattle.std.proofs.Common.{◌≡◌, ℕ, zero, suc, ◌-◌, ◌%◌, ◌<◌, true, refl, inl, inr, arith}
use Rattle.std.proofs.lemmas.Bool.{cases_Bool}
use Rattle.std.proofs.lemmas.Nat.{mod_below}
use Rattle.surf_auto.specs.Locals.{preceding}
use Rattle.surf_auto.proofs.Cells.{gathered_within}
use Rattle.surf_sync.specs.Codes.{field_at, IsCode}
use Rattle.surf_sync.proofs.Numbers.{mod-suc, following_cases, phase_of_field}
use Rattle.surf_colony.proofs.Plans.{Plan, IsPlan, protocol_of, seen_by, shown_after}
use Rattle.surf_colony.proofs.Codes.{Clock, code_at, Stays, stays_within}

seen_within : (A : Plan) → IsPlan A → (f : ℕ) (state : ℕ → ℕ) → f < A.rule.phases → ((q : ℕ) → A.board.cell q ≡ true → state q < A.rule.states f) → (p i : ℕ) → seen_by A state p i < A.rule.states f
seen_within A is f state h s p i =
    elim (cases_Bool (A.board.cell (A.board.neighbour p i))) [
      | inl e ↦ rw e (s (A.board.neighbour p i) e)
      | inr e ↦ rw e (is.edge_within f h)
    ]

pub sync_within : (A : Plan) → IsPlan A → (g p : ℕ) → A.board.cell p ≡ true → shown_after A g p < A.rule.states (g % A.rule.phases)
sync_within A is zero p c = is.begins_within p (0 % A.rule.phases) c (mod_below 0 A.rule.phases is.is_local.some_phase)
sync_within A is (suc g) p c =
    let below : g % A.rule.phases < A.rule.phases = mod_below g A.rule.phases is.is_local.some_phase in
    rw (mod-suc A.rule.phases g is.is_local.some_phase)
    (is.is_local.finish_within (g % A.rule.phases) _ _ below (sync_within A is g p c)
    (gathered_within A.rule is.is_local (g % A.rule.phases) below (seen_by A (λ q. shown_after A g q) p) (λ i. seen_within A is (g % A.rule.phases) (λ q. shown_after A g q) below (sync_within A is g) p i) A.rule.degree (omega arith)))

before_next : (n g : ℕ) → 0 < n → preceding n (suc g % n) ≡ g % n
before_next n g h =
    elim (following_cases n (g % n)) [
      | inl w ↦ rw (mod-suc n g h, w.1) (omega arith)
      | inr w ↦ rw (mod-suc n g h, w.1) refl
    ]

previous_within : (A : Plan) → IsPlan A → (g p : ℕ) → A.board.cell p ≡ true → shown_after A (g - 1) p < A.rule.states (preceding A.rule.phases (g % A.rule.phases))
previous_within A is zero p c =
    let some : 0 < A.rule.phases = is.is_local.some_phase in
    let z : 0 % A.rule.phases ≡ 0 = omega arith in
    rw z (is.begins_within p (A.rule.phases - 1) c (omega arith))
previous_within A is (suc g) p c =
    let b : suc g - 1 ≡ g = omega arith in
    rw (b, before_next A.rule.phases g is.is_local.some_phase) (sync_within A is g p c)

pub code_listed : (A : Plan) → IsPlan A → (p : ℕ) (k : Clock) → A.board.cell p ≡ true → k.reads < A.rule.degree → Stays A.last k → IsCode A.rule A.last (code_at A p k)
unfolding code_at
code_listed A is p k c h stays =
    let some : 0 < A.rule.phases = is.is_local.some_phase in
    let m : field_at (protocol_of A) k.gen % A.rule.phases ≡ k.gen % A.rule.phases = phase_of_field A.last A.rule.phases k.gen some in
    let below : k.gen % A.rule.phases < A.rule.phases = mod_below k.gen A.rule.phases some in
    record {
      generation_within = stays_within A.last A.rule.phases k some stays;
      current_within = rw m (sync_within A is k.gen p c);
      previous_within = rw m (previous_within A is k.gen p c);
      colour_within = is.is_board.in_colours p;
      reads_within = h;
      acc_within = rw m (gathered_within A.rule is.is_local (k.gen % A.rule.phases) below (seen_by A (λ q. shown_after A k.gen q) p) (λ i. seen_within A is (k.gen % A.rule.phases) (λ q. shown_after A k.gen q) below (sync_within A is k.gen) p i) k.reads (omega arith));
    }
