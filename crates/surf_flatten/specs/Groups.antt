-- Models that reach each other, as a search back finds them.
use Rattle.std.specs.Prelude.{ℕ, ◌≡◌, ◌<◌, Bool, true, false, List, [], ◌∷◌, ◌++◌, length, Option, Some, None, nat_eq, slice_index, slice_index_or, slice_set}
use Rattle.surf_logic.specs.Order.{has}
use Rattle.surf_logic.specs.Marks.{Marks}
use Rattle.surf_flatten.specs.declared.models.Item.{Item}
use Rattle.surf_flatten.specs.Designs.{Design}
use Rattle.surf_flatten.specs.Reaching.{items_at, targets, IsReached}
use Rattle.surf_flatten.specs.Laws.{AreComponents}
use Rattle.surf_flatten.specs.Searches.{target_by}

-- the model p placed one more, if there is one
abbrev pub put_source : List (List ℕ) → ℕ → Option ℕ → List (List ℕ)
put_source sources p None = sources
put_source sources p (Some k) = slice_set sources k (slice_index_or sources k [] ++ p ∷ [])

abbrev pub sources_with : (List ℕ → Option ℕ) → List (List ℕ) → ℕ → List Item → List (List ℕ)
sources_with find sources p [] = sources
sources_with find sources p (i ∷ is) =
    sources_with find (put_source sources p (target_by find i)) p is

abbrev pub all_sources : (List ℕ → Option ℕ) → List Design → List (List ℕ) → List ℕ →
    List (List ℕ)
all_sources find models sources [] = sources
all_sources find models sources (p ∷ ps) =
    all_sources find models (sources_with find sources p (items_at models p)) ps

-- beside each model stand those of these that place it
pub record AreSourcesOf (models : List Design) (done : List ℕ)
    (sources : List (List ℕ)) : Type 0 where
  pub from : (i j : ℕ) → has nat_eq (slice_index_or sources j []) i ≡ true →
      has nat_eq (targets models i) j ≡ true
  pub among : (i j : ℕ) → has nat_eq (slice_index_or sources j []) i ≡ true →
      has nat_eq done i ≡ true
  pub all : (i j : ℕ) → has nat_eq done i ≡ true → has nat_eq (targets models i) j ≡ true →
      has nat_eq (slice_index_or sources j []) i ≡ true

-- from n lines lead to the root, through sources of sources
abbrev pub LeadsBack : List (List ℕ) → ℕ → List ℕ → ℕ → Type 0
LeadsBack sources n [] root = n ≡ root
LeadsBack sources n (k ∷ ks) root =
    (has nat_eq (slice_index_or sources k []) n ≡ true) × LeadsBack sources k ks root

-- a search back from the root has found these, and flags them beside the assigned ones
pub record IsFoundBack (sources : List (List ℕ)) (root : ℕ) (assigned found : List ℕ)
    (taken : List Bool) : Type 0 where
  pub root_in : has nat_eq found root ≡ true
  pub free : (i : ℕ) → has nat_eq found i ≡ true → has nat_eq assigned i ≡ false
  pub inside : (i : ℕ) → has nat_eq found i ≡ true → i < length sources
  pub lead : (i : ℕ) → has nat_eq found i ≡ true → (ks : List ℕ) × LeadsBack sources i ks root
  pub closed : (i j : ℕ) → has nat_eq found j ≡ true →
      has nat_eq (slice_index_or sources j []) i ≡ true → has nat_eq assigned i ≡ false →
      has nat_eq found i ≡ true
  pub marks : Marks taken (found ++ assigned)

-- the numbers with this one beside each of the places
abbrev pub numbered : List ℕ → ℕ → List ℕ → List ℕ
numbered numbers number [] = numbers
numbered numbers number (k ∷ ks) = numbered (slice_set numbers k number) number ks

-- reached models have numbers, the same exactly where they reach each other
pub record HasGroups (models : List Design) (groups : List ℕ) : Type 0 where
  pub reached : (i : ℕ) → IsReached models i → 0 < slice_index groups i
  pub only : (i : ℕ) → 0 < slice_index groups i → IsReached models i
  pub tell : AreComponents models (slice_index groups)
