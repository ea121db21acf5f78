-- The sums of rates by left side.
use Rattle.std.specs.Prelude.{ℕ, ◌≡◌, ◌+◌, ◌*◌, ◌<◌, ◌≤◌, ◌==◌, ◌&&◌, nat_lt, Bool, false, List, length, All, IfSome, is_some, filter, sum_by, slice_get, slice_index, slice_index_or}
use Rattle.std.specs.Option.{option_map_or}
use Rattle.std.specs.List.{range_with_len, list_any}
use Rattle.surf_rules.specs.declared.rule.Rule.{Rule}
use Rattle.surf_rules.specs.Books.{is_alone, is_pair, rate_in}

-- the sum of the rates of the rules that pass, among the first so many
abbrev pub sum_among : List Rule → (Rule → Bool) → ℕ → ℕ
sum_among rules test n =
    sum_by (rate_in rules)
    (filter (λ k. option_map_or test (slice_get rules k) false) (range_with_len 0 n))

-- the rule's rate is above 0, and this name is the first of two on its left side
abbrev pub is_first : ℕ → Rule → Bool
is_first a r = nat_lt 0 r.rate && (is_some r.right && (r.left == a))

-- whether a rule among the first so many has the name as the first of two
abbrev pub is_first_among : List Rule → ℕ → ℕ → Bool
is_first_among rules a n =
    list_any (λ k. option_map_or (is_first a) (slice_get rules k) false) (range_with_len 0 n)

-- all left names are below a number
abbrev pub AreLeftsBelow : ℕ → List Rule → Type 0
AreLeftsBelow n rules = All (λ r. r.left < n) rules

abbrev pub AreRightsBelow : ℕ → List Rule → Type 0
AreRightsBelow n rules = All (λ r. IfSome r.right (λ b. b < n)) rules

-- the table has the sums of the first so many rules: a row for each left name
abbrev pub IsTable : List Rule → ℕ → ℕ → List ℕ → Type 0
IsTable rules n side table =
    (a b : ℕ) → a < side → b < side →
    slice_index table (a * side + b) ≡ sum_among rules (is_pair a b) n

-- the sums of names alone, the names that begin a pair, and unless its side is 0 a table of pairs
pub record AreSums (rules : List Rule) (alone : List ℕ) (paired : List Bool) (side : ℕ) (table : List ℕ) : Type 0 where
  pub singles : (a : ℕ) → slice_index alone a ≡ sum_among rules (is_alone a) (length rules)
  pub firsts : (a : ℕ) → slice_index_or paired a false ≡ is_first_among rules a (length rules)
  pub whole : length table ≡ side * side
  pub narrow : side ≤ 256
  pub pairs : IsTable rules (length rules) side table
  pub lefts : 0 < side → AreLeftsBelow side rules
  pub rights : 0 < side → AreRightsBelow side rules
