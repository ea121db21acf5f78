use Rattle.std.proofs.Common.{◌≡◌, ◌∙◌, ap, sym, subst, ℕ, List, ◌-◌, ◌+◌, take, drop}
use Rattle.std.specs.List.Sorted.{IsNonDecreasing}
use Rattle.surf_rules.specs.Sides.{side_of, span_of, IsStart}
use Rattle.surf_rules.proofs.Sides.{order, part_rises, side_is}
use Rattle.surf_rules.proofs.listed.ListedRules.side.Goals as goal

-- a fact of a list is one of a list that is the same
first_of : (key : ℕ) (xs ys : List ℕ) (place : ℕ) → xs ≡ ys → IsStart (λ (m : ℕ). m) key xs place → IsStart (λ (m : ℕ). m) key ys place
first_of key xs ys place is s = subst (λ (v : List ℕ). IsStart (λ (m : ℕ). m) key v place) is s

pub part-requires-clause-order : goal.part-requires-clause-order
part-requires-clause-order c =
    order c.self.invariant.2 c.args.left c.span-of_left.result (c.span-of_left.ensures ∙ ap (λ (v : List ℕ). span_of v c.args.left) c.deref.ensures.value)

pub places-of_rank-requires : goal.places-of_rank-requires
places-of_rank-requires c =
    let p = c.span-of_left.result in
    subst (λ (v : List ℕ). IsNonDecreasing v) (sym (c.part.ensures ∙ ap (λ (v : List ℕ). take (c.span-of_left.result.1 - c.span-of_left.result.0) (drop c.span-of_left.result.0 v)) c.deref-2.ensures.value))
    (part_rises c.self.invariant.2 c.args.left c.span-of_left.result (c.span-of_left.ensures ∙ ap (λ (v : List ℕ). span_of v c.args.left) c.deref.ensures.value))

pub part-requires-2-clause-order : goal.part-requires-2-clause-order
part-requires-2-clause-order c =
    order c.self.invariant.2 c.args.left c.span-of_left.result (c.span-of_left.ensures ∙ ap (λ (v : List ℕ). span_of v c.args.left) c.deref.ensures.value)

pub returns : goal.returns
returns c =
    let is : c.span-of_left.result ≡ span_of c.self.inside.index.starts.items c.args.left = c.span-of_left.ensures ∙ ap (λ (v : List ℕ). span_of v c.args.left) c.deref.ensures.value in
    let ranks : c.part.result.now ≡ take (c.span-of_left.result.1 - c.span-of_left.result.0) (drop c.span-of_left.result.0 c.self.inside.index.ranks.items) =
    c.part.ensures ∙ ap (λ (v : List ℕ). take (c.span-of_left.result.1 - c.span-of_left.result.0) (drop c.span-of_left.result.0 v)) c.deref-2.ensures.value in
    let numbers : c.part-2.result.now ≡ take (c.span-of_left.result.1 - c.span-of_left.result.0) (drop c.span-of_left.result.0 c.self.inside.index.numbers.items) =
    c.part-2.ensures ∙ ap (λ (v : List ℕ). take (c.span-of_left.result.1 - c.span-of_left.result.0) (drop c.span-of_left.result.0 v)) c.deref-3.ensures.value in
    c.part-3.ensures
    ∙ ap (λ (v : List ℕ). take (c.places-of_rank.result.1 - c.places-of_rank.result.0) (drop c.places-of_rank.result.0 v)) numbers
    ∙ side_is c.self.invariant.2 c.args.left c.span-of_left.result is c.args.rank c.places-of_rank.result
    (first_of c.args.rank _ _ c.places-of_rank.result.0 ranks c.places-of_rank.ensures.first)
    (first_of (c.args.rank + 1) _ _ c.places-of_rank.result.1 ranks c.places-of_rank.ensures.last)
    ∙ ap (λ v. side_of v c.args.left c.args.rank) c.self.view_is
