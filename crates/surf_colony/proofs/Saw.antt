-- What a cell sees in another, where they are within one generation.
use Rattle.std.proofs.Common.{◌≡◌, ℕ, suc, ◌-◌, ◌<◌, ◌≤◌, Some, sym, ap, ◌∙◌, inl, inr, arith}
use Rattle.std.proofs.lemmas.Bool.{cases_eq}
use Rattle.surf_sync.specs.Codes.{beside, field_at, sight}
use Rattle.surf_sync.specs.Codes.Mark.{Cell}
use Rattle.surf_sync.proofs.Numbers.{same_from_field, next_from_field, next_of_field}
use Rattle.surf_sync.proofs.Sights.{sight_cell, same_seen, next_seen}
use Rattle.surf_colony.proofs.Plans.{Plan, protocol_of, shown_after}
use Rattle.surf_colony.proofs.Codes.{Clock, code_at}

-- what p sees in the cell q, when they are within one generation
pub cell_saw : (A : Plan) → 0 < A.rule.phases → (p q : ℕ) (j k : Clock) (v : ℕ) → j.gen ≤ suc k.gen → k.gen ≤ suc j.gen → sight (protocol_of A) (code_at A p j) (Cell (code_at A q k)) ≡ Some v → (A.board.colour q ≡ beside A.rule.degree (A.board.colour p) j.reads) × (v ≡ shown_after A j.gen q) × (j.gen ≤ k.gen)
unfolding code_at
cell_saw A some p q j k v a b e =
    let w = sight_cell (protocol_of A) (code_at A p j) (code_at A q k) v e in
    elim w.1 [
      | inl h ↦
          let s : j.gen ≡ k.gen = same_from_field A.last A.rule.phases j.gen k.gen some a b (sym h.0) in
          (w.0, h.1 ∙ ap (λ g. shown_after A g q) (sym s), omega arith)
      | inr h ↦
          let s : k.gen ≡ suc j.gen = next_from_field A.last A.rule.phases j.gen k.gen some a b (sym h.0) in
          (w.0, h.1 ∙ ap (λ g. shown_after A g q) (let t : k.gen - 1 ≡ j.gen = omega arith in t), omega arith)
    ]

-- and it can see it, if q isn't behind
pub cell_sees : (A : Plan) → 0 < A.rule.phases → (p q : ℕ) (j k : Clock) → A.board.colour q ≡ beside A.rule.degree (A.board.colour p) j.reads → j.gen ≤ k.gen → k.gen ≤ suc j.gen → sight (protocol_of A) (code_at A p j) (Cell (code_at A q k)) ≡ Some (shown_after A j.gen q)
unfolding code_at
cell_sees A some p q j k c a b =
    elim (cases_eq k.gen j.gen) [
      | inl e ↦ same_seen (protocol_of A) (code_at A p j) (code_at A q k) c (ap (field_at (protocol_of A)) e) ∙ ap (λ g. Some (shown_after A g q)) e
      | inr d ↦
          let s : k.gen ≡ suc j.gen = omega arith in
          let t : k.gen - 1 ≡ j.gen = omega arith in
          next_seen (protocol_of A) some (code_at A p j) (code_at A q k) c (ap (field_at (protocol_of A)) s ∙ next_of_field A.last A.rule.phases j.gen some)
          ∙ ap (λ g. Some (shown_after A g q)) t
    ]
