-- The rules of a left side.
use Rattle.std.specs.Prelude.{ℕ, ◌==◌, ◌&&◌, nat_lt, Bool, false, List, length, filter, is_none, slice_get}
use Rattle.std.specs.Option.{option_map_or}
use Rattle.std.specs.List.{range_with_len}
use Rattle.surf_rules.specs.declared.rule.Rule.{Rule}

-- the rule's rate is above 0, and its left side is this name alone
abbrev pub is_alone : ℕ → Rule → Bool
is_alone a r = nat_lt 0 r.rate && (is_none r.right && (r.left == a))

-- the rule's rate is above 0, and its left side is these two names in this order
abbrev pub is_pair : ℕ → ℕ → Rule → Bool
is_pair a b r = nat_lt 0 r.rate && (option_map_or (λ c. c == b) r.right false && (r.left == a))

-- the numbers of the rules with this left side, rising
abbrev pub alone_of : List Rule → ℕ → List ℕ
alone_of rules a =
    filter (λ k. option_map_or (is_alone a) (slice_get rules k) false)
    (range_with_len 0 (length rules))

abbrev pub pair_of : List Rule → ℕ → ℕ → List ℕ
pair_of rules a b =
    filter (λ k. option_map_or (is_pair a b) (slice_get rules k) false)
    (range_with_len 0 (length rules))

-- the rate of the rule of a number
abbrev pub rate_in : List Rule → ℕ → ℕ
rate_in rules k = option_map_or (λ r. r.rate) (slice_get rules k) 0
