-- The index of rules by their left sides: entries by left name, those of one name by the rank of
-- the right one.
use Rattle.std.specs.Prelude.{ℕ, ◌≡◌, ◌<◌, ◌≤◌, ◌+◌, ◌==◌, ◌&&◌, suc, nat_lt, Bool, false, List, length, map, filter, Option, Some, None, slice_get, slice_index, slice_index_or, All, if◌then◌else◌}
use Rattle.std.specs.Option.{option_map_or}
use Rattle.std.specs.List.{range_with_len}
use Rattle.std.specs.List.Sorted.{IsNonDecreasing}
use Rattle.surf_rules.specs.declared.index.Entry.{Entry}
use Rattle.surf_rules.specs.declared.rule.Rule.{Rule}

-- no name comes before the names
abbrev pub rank_of : Option ℕ → ℕ
rank_of None = 0
rank_of (Some b) = suc b

-- the rule's rate is above 0, and its left side is this name and a name or none of this rank
abbrev pub is_side : ℕ → ℕ → Rule → Bool
is_side a r rule = nat_lt 0 rule.rate && ((rank_of rule.right == r) && (rule.left == a))

abbrev pub side_of : List Rule → ℕ → ℕ → List ℕ
side_of rules a r =
    filter (λ k. option_map_or (is_side a r) (slice_get rules k) false)
    (range_with_len 0 (length rules))

-- the entry of a rule, where its rate is above 0
abbrev pub entry_of : Rule → ℕ → Option Entry
entry_of rule k =
    if nat_lt 0 rule.rate
    then Some (record { left = rule.left; number = k; rank = rank_of rule.right }) else None

-- the numbers of the entries of a left side
abbrev pub numbers_of : ℕ → ℕ → List Entry → List ℕ
numbers_of a r es = map (λ e. e.number) (filter (λ e. (e.rank == r) && (e.left == a)) es)

-- the place is where the elements from a key on begin
pub record IsStart {X : Type 0} (n : X → ℕ) (key : ℕ) (xs : List X) (place : ℕ) : Type 0 where
  pub within : place ≤ length xs
  pub below : (k : ℕ) (d : X) → k < place → n (slice_index_or xs k d) < key
  pub from : (k : ℕ) (d : X) → place ≤ k → k < length xs → key ≤ n (slice_index_or xs k d)

-- where the entries of each name begin, up to the first name that is greater than all
pub record AreStarts (starts : List ℕ) (es : List Entry) : Type 0 where
  pub at : (a : ℕ) → a < length starts → IsStart (λ e. e.left) a es (slice_index starts a)
  pub below : All (λ e. e.left + 1 < length starts) es

-- where the entries of a name begin and end
abbrev pub span_of : List ℕ → ℕ → ℕ × ℕ
span_of starts a =
    if nat_lt (a + 1) (length starts) then (slice_index starts a, slice_index starts (a + 1))
    else (0, 0)

-- the lists are the index of the rules
pub record IsIndex (rules : List Rule) (starts ranks numbers : List ℕ) : Type 0 where
  pub entries : List Entry
  pub ranked : ranks ≡ map (λ e. e.rank) entries
  pub numbered : numbers ≡ map (λ e. e.number) entries
  pub starting : AreStarts starts entries
  pub rising : (a : ℕ) → IsNonDecreasing (map (λ e. e.rank) (filter (λ e. e.left == a) entries))
  pub same : (a r : ℕ) → numbers_of a r entries ≡ side_of rules a r
