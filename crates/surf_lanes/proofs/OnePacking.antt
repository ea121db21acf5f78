-- The law of packing leaves one choice.
use Rattle.std.proofs.Common.{◌≡◌, ℕ, zero, suc, ◌<◌, List, length, sym, ◌∙◌, inl, inr, arith}
use Rattle.std.proofs.lemmas.Bool.{cases_lt}
use Rattle.surf_lanes.specs.declared.lanes.Span.{Span}
use Rattle.surf_lanes.specs.Lanes.{LanesOf, lane_at, IsLaned, PackedIsOne}

not_less : (spans : List Span) (l l' : LanesOf) → IsLaned spans l → IsLaned spans l' → (i : ℕ) → i < length spans → ((j : ℕ) → j < i → lane_at l j ≡ lane_at l' j) → lane_at l i < lane_at l' i → ⊥
not_less spans l l' law law' i b same h =
    let e = law'.least i (lane_at l i) b h in
    law.free i b (record { span = e.span; row = e.row; earlier = e.earlier; in_lane = same e.span e.earlier ∙ e.in_lane; in_first = e.in_first; in_second = e.in_second })

same_lanes : (spans : List Span) (l l' : LanesOf) → IsLaned spans l → IsLaned spans l' → (n i : ℕ) → i < n → i < length spans → lane_at l i ≡ lane_at l' i
same_lanes spans l l' law law' zero i c b = absurd (omega arith)
same_lanes spans l l' law law' (suc n) i c b =
    let deep : (j : ℕ) → j < i → lane_at l j ≡ lane_at l' j = λ j d. same_lanes spans l l' law law' n j (omega arith) (omega arith) in
    elim (cases_lt (lane_at l i) (lane_at l' i)) as (λ x. lane_at l i ≡ lane_at l' i) [
      | inl h ↦ absurd (not_less spans l l' law law' i b deep h)
      | inr h ↦ elim (cases_lt (lane_at l' i) (lane_at l i)) as (λ x. lane_at l i ≡ lane_at l' i) [
        | inl h' ↦ absurd (not_less spans l' l law' law i b (λ j d. sym (deep j d)) h')
        | inr h' ↦ omega (arith, h, h')
      ]
    ]

pub packed_is_one : PackedIsOne
packed_is_one spans l l' law law' =
    let count : l.count ≡ l'.count = (let a = law.most l'.row in let b = law'.reached in let c = law'.most l.row in let d = law.reached in omega (arith, a, b, c, d)) in (
      (λ i b. same_lanes spans l l' law.laned law'.laned (suc i) i (omega arith) b),
      count,
      let a = law.first l'.row (law'.reached ∙ sym count) in let b = law'.first l.row (law.reached ∙ count) in omega (arith, a, b),
    )
