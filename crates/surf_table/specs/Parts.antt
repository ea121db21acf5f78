-- What holds of the parts of a table that are accepted.
use Rattle.std.specs.Prelude.{◌≡◌, ℕ, ◌*◌, ◌<◌, ◌≤◌, true, List, length}
use Rattle.std.specs.List.{AllByRecursion}
use Rattle.surf_auto.specs.Locals.{is_degree}
use Rattle.surf_table.specs.TableTexts.{Head, rules_of, site_count, sums_of}

-- so many numbers, each below n
pub record IsRow (count n : ℕ) (ks : List ℕ) : Type 0 where
  pub whole : length ks ≡ count
  pub below : AllByRecursion (λ k. k < n) ks

pub record IsHead (h : Head) : Type 0 where
  pub known : is_degree h.degree ≡ true
  pub edge_within : h.edge < length h.weights
  pub some : 1 ≤ length h.weights
  pub few : length h.weights ≤ 256
  pub weights : AllByRecursion (λ k. k < 256) h.weights
  pub few_rules : rules_of h.degree h.weights ≤ 1048576

-- a next state for each own state and each sum
abbrev pub IsNext : Head → List ℕ → Type 0
IsNext h next = IsRow (length h.weights * sums_of h.degree h.weights) (length h.weights) next

-- a box that is not empty and within the limit
pub record IsSize (margin : ℕ) (size : ℕ × ℕ) : Type 0 where
  pub wide : 1 ≤ size.0
  pub high : 1 ≤ size.1
  pub few : site_count margin size ≤ 1000000

-- a state for each site
abbrev pub AreCells : ℕ → Head → ℕ × ℕ → List ℕ → Type 0
AreCells margin h size cells = IsRow (site_count margin size) (length h.weights) cells
