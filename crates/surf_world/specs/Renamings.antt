-- The same rules, surface and system under other names.
use Rattle.std.specs.Prelude.{◌≡◌, ℕ, ◌<◌, List, map, All, IfSome}
use Rattle.std.specs.Option.{option_map}
use Rattle.surf_world.specs.Systems.{Rule, Surface, System}

abbrev pub renamed_rule : {M N : Type 0} → (M → N) → Rule M → Rule N
renamed_rule f r = record {
  rate = r.rate;
  left = f r.left;
  right = option_map f r.right;
  left_after = f r.left_after;
  right_after = option_map f r.right_after;
}

abbrev pub renamed : {M N : Type 0} → (M → N) → Surface M → Surface N
renamed f S = record { grid = S.grid; rules = map (renamed_rule f) S.rules }

abbrev pub renamed_system : {M N : Type 0} → (M → N) → System M → System N
renamed_system f S = record { surface = renamed f S.surface; start = map f S.start }

-- the numbers of a rule are below n
pub record RuleBelow (n : ℕ) (r : Rule ℕ) : Type 0 where
  pub left : r.left < n
  pub right : IfSome r.right (λ k. k < n)
  pub left_after : r.left_after < n
  pub right_after : IfSome r.right_after (λ k. k < n)

-- every number in the rules and the names is below n
pub record AreBelow (n : ℕ) (S : Surface ℕ) (c : List ℕ) : Type 0 where
  pub in_rules : All (RuleBelow n) S.rules
  pub in_names : All (λ k. k < n) c

-- no two numbers below n have one name
abbrev pub IsOneToOne : {N : Type 0} → ℕ → (ℕ → N) → Type 0
IsOneToOne n f = (i j : ℕ) → i < n → j < n → f i ≡ f j → i ≡ j
