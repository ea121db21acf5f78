-- What holds of each rule of a book, as the definitions see it.
use Rattle.std.specs.Prelude.{All}
use Rattle.std.specs.Option.{option_map}
use Rattle.std.proofs.Common.{ℕ, ◌≡◌, ◌+◌, ◌<◌, ◌≤◌, inl, inr, List, length, map, Some, slice_get, get_or, sym, ◌∙◌, ap, subst, arith}
use Rattle.std.proofs.lemmas.Bool.{cases_lt}
use Rattle.std.proofs.lemmas.List.Elements.{All-get_or, All-map, All-same}
use Rattle.std.proofs.lemmas.Option.{slice_get-map, slice_get-get_or, slice_get_within, get_or_from_slice_get, same_Some}
use Rattle.surf_rules.specs.declared.rule.Rule.{Rule}
use Rattle.surf_world.specs.Systems as systems
use Rattle.surf_world.specs.Worlds.{rule_of}

module _ (P : systems.Rule ℕ → Type 0) (rules : List Rule) (R : List (systems.Rule ℕ)) (are : map rule_of rules ≡ R) where
  pub one_of : All P R → (k : ℕ) (r : Rule) → slice_get rules k ≡ Some r → P (rule_of r)
  one_of all k r at =
      let there : slice_get R k ≡ Some (rule_of r) = ap (λ xs. slice_get xs k) (sym are) ∙ slice_get-map rule_of rules k ∙ ap (option_map rule_of) at in
      subst P (get_or_from_slice_get R k (rule_of r) (rule_of r) there) (All-get_or P R k (rule_of r) (slice_get_within R k (rule_of r) there) all)

  pub all_of : (n : ℕ) → length rules ≤ n → ((k : ℕ) (r : Rule) → k < n → slice_get rules k ≡ Some r → P (rule_of r)) → All P R
  all_of n le each = All-same P R (map rule_of rules) (sym are) (All-map P rule_of rules (λ k d lt. each k (get_or rules k d) (omega (arith, lt, le)) (slice_get-get_or rules k d lt)))

pub one_more : (P : systems.Rule ℕ → Type 0) (rules : List Rule) (n : ℕ) (x : Rule) → slice_get rules n ≡ Some x → P (rule_of x) → ((k : ℕ) (r : Rule) → k < n → slice_get rules k ≡ Some r → P (rule_of r))
    → (k : ℕ) (r : Rule) → k < n + 1 → slice_get rules k ≡ Some r → P (rule_of r)
one_more P rules n x here holds before k r lt at = elim (cases_lt k n) [
  | inl less ↦ before k r less at
  | inr le ↦
      let last : n ≡ k = omega (arith, lt, le) in
      subst (λ y. P (rule_of y)) (same_Some x r (sym here ∙ ap (slice_get rules) last ∙ at)) holds
]
