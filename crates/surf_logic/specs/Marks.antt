-- The same by flags: a name is known where its flag is up.
use Rattle.std.specs.Prelude.{ℕ, ◌+◌, ◌≡◌, ◌<◌, ◌≤◌, Bool, true, false, List, [], ◌∷◌, length, if◌then◌else◌, Option, Some, None, nat_eq, slice_set, slice_index_or, take, ◌++◌, replicate}
use Rattle.std.specs.List.{list_all, list_any}
use Rattle.std.specs.Option.{option_map}
use Rattle.surf_logic.specs.declared.faults.Flaw.{Flaw}
use Rattle.surf_logic.specs.declared.faults.Flaw.TheVariants as flaws
use Rattle.surf_logic.specs.Equations.{EquationOf, PartsOf, at}
use Rattle.surf_logic.specs.Order.{has, outputs_of, inputs_of, or_else, is_from, no_outputs, Fault, DeclaredTwice, DrivenTwice, Undriven, NoOutputs, Cycle, DependsOn}

-- the flags that are up are those of the names
pub record Marks (flags : List Bool) (names : List ℕ) : Type 0 where
  pub is : (n : ℕ) → n < length flags → at flags n ≡ has nat_eq names n

abbrev pub twice_by : List Bool → List ℕ → Option ℕ
twice_by flags [] = None
twice_by flags (n ∷ ns) = if at flags n then Some n else twice_by (slice_set flags n true) ns

abbrev pub marked : List Bool → List ℕ → List Bool
marked flags [] = flags
marked flags (n ∷ ns) = marked (slice_set flags n true) ns

abbrev pub missing_by : List Bool → List ℕ → Option ℕ
missing_by flags [] = None
missing_by flags (n ∷ ns) = if at flags n then missing_by flags ns else Some n

abbrev pub ready_by : List Bool → EquationOf ℕ → Bool
ready_by flags q = list_all (at flags) q.inputs

-- the first equation that is ready stands at i
pub record ReadyAt (flags : List Bool) (qs : List (EquationOf ℕ)) (i : ℕ) : Type 0 where
  pub within : i < length qs
  pub waiting : list_any (ready_by flags) (take i qs) ≡ false
  pub ready : (q : EquationOf ℕ) → ready_by flags (slice_index_or qs i q) ≡ true

-- so many of the first names are known
pub record IsPassed (flags : List Bool) (names : List ℕ) (count : ℕ) : Type 0 where
  pub within : count ≤ length names
  pub known : list_all (at flags) (take count names) ≡ true

-- so many of each equation's first inputs are
abbrev pub ArePassed : List Bool → List (EquationOf ℕ) → List ℕ → Type 0
ArePassed flags [] [] = Unit {0}
ArePassed flags [] (count ∷ counts) = ⊥
ArePassed flags (q ∷ qs) [] = ⊥
ArePassed flags (q ∷ qs) (count ∷ counts) =
    IsPassed flags q.inputs count × ArePassed flags qs counts

abbrev pub fault_of : Flaw → Fault ℕ
fault_of (flaws.DeclaredTwice n) = DeclaredTwice n
fault_of (flaws.DrivenTwice n) = DrivenTwice n
fault_of (flaws.Undriven n) = Undriven n
fault_of flaws.NoOutputs = NoOutputs
fault_of (flaws.Cycle n) = Cycle n

abbrev pub undriven_by : List Bool → PartsOf ℕ → Option ℕ
undriven_by flags p =
    or_else (missing_by flags (inputs_of p.equations)) (missing_by flags p.outputs)

-- the first of the faults that flags show
abbrev pub flags_fault : List Bool → List Bool → PartsOf ℕ → Option (Fault ℕ)
flags_fault driven seen p =
    or_else (option_map DeclaredTwice (or_else (twice_by driven p.inputs)
    (twice_by seen p.outputs)))
    (or_else (option_map DrivenTwice (twice_by (marked driven p.inputs) (outputs_of p.equations)))
    (or_else (option_map Undriven
    (undriven_by (marked (marked driven p.inputs) (outputs_of p.equations)) p))
    (no_outputs p.outputs)))

-- the number of the name is in range
abbrev pub FlawIn : ℕ → Flaw → Type 0
FlawIn count (flaws.DeclaredTwice n) = n < count
FlawIn count (flaws.DrivenTwice n) = n < count
FlawIn count (flaws.Undriven n) = n < count
FlawIn count flaws.NoOutputs = Unit {0}
FlawIn count (flaws.Cycle n) = n < count

-- the names whose flags are down, each once
abbrev pub fresh : List Bool → List ℕ → List ℕ
fresh flags [] = []
fresh flags (n ∷ ns) = if at flags n then fresh flags ns else n ∷ fresh (slice_set flags n true) ns

-- beside each name the names that it is given from
pub record AreSources (qs : List (EquationOf ℕ)) (sources : List (List ℕ)) : Type 0 where
  pub is : (n m : ℕ) → n < length sources → has nat_eq (slice_index_or sources n []) m
      ≡ list_any (is_from nat_eq n m) qs

-- the sources with those of one equation more, and of all in a list
abbrev pub added : List (List ℕ) → EquationOf ℕ → List (List ℕ)
added sources q =
    slice_set sources q.output (slice_index_or sources q.output []
    ++ fresh (replicate (length sources) false) q.inputs)

abbrev pub all_added : List (List ℕ) → List (EquationOf ℕ) → List (List ℕ)
all_added sources [] = sources
all_added sources (q ∷ qs) = all_added (added sources q) qs

-- the answer whether the name depends on itself
abbrev pub Tells : List (EquationOf ℕ) → ℕ → Bool → Type 0
Tells qs name true = DependsOn nat_eq qs name name
Tells qs name false = DependsOn nat_eq qs name name → ⊥

-- what is up depends on these, seen from the name
pub record Reached (qs : List (EquationOf ℕ)) (name : ℕ) (flags : List Bool) : Type 0 where
  pub from : (n : ℕ) → n < length flags → at flags n ≡ true → DependsOn nat_eq qs name n

-- how many flags are down
abbrev pub down_count : List Bool → ℕ
down_count [] = 0
down_count (flag ∷ flags) = (if flag then 0 else 1) + down_count flags
