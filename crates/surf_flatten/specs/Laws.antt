-- What holds of models that place each other.
use Rattle.std.specs.Prelude.{ℕ, ◌≡◌, ◌+◌, ◌*◌, ◌<◌, ◌≤◌, ◌^◌, ◌↔◌, ◌⊎◌, Bool, true, false, List, [], ◌∷◌, ◌++◌, length, map, sum, Option, Some, None, nat_eq, codes, slice_index, slice_set, All}
use Rattle.surf_logic.specs.Equations.{EquationOf, cost_of, capped}
use Rattle.surf_logic.specs.Order.{has, first_twice}
use Rattle.std.specs.List.{list_all}
use Rattle.surf_text.specs.Bytes.{lacks}
use Rattle.surf_flatten.specs.declared.models.Item.{Item}
use Rattle.surf_flatten.specs.declared.models.Item.TheVariants.{Cover, Place}
use Rattle.surf_flatten.specs.Designs.{Design, Tree, Unfolds}
use Rattle.surf_flatten.specs.Substituted.{Signal, spelled, meant, work, equation_work, text_cost, placing_count, wide_count}
use Rattle.surf_flatten.specs.Reaching.{place_of, targets_in, items_at, IsFree, IsReached, Places, Reaches}
use Rattle.surf_flatten.specs.Faults.{IsNone, IsRecursive, spots}

-- items have at most one tree
abbrev pub TreesAreOne : Type 0
TreesAreOne = (models : List Design) (items : List Item) (t u : Tree) → Unfolds models items t →
    Unfolds models items u → t ≡ u

-- each reached model has a tree where no placing leads back
abbrev pub FreeModelsUnfold : Type 0
FreeModelsUnfold = (models : List Design) (i : ℕ) → IsFree models → IsReached models i →
    (t : Tree) × Unfolds models (items_at models i) t

-- and where main has a tree, no placing leads back
abbrev pub UnfoldedAreFree : Type 0
UnfoldedAreFree = (models : List Design) (t : Tree) → Unfolds models (items_at models 0) t →
    IsFree models

-- the cost is that of the equations, 1 for each placing, and 1,001 for each wide equation of a
-- placed model
abbrev pub CostIsMeant : Type 0
CostIsMeant = (main : Design) (t : Tree) →
    text_cost main t ≡ cost_of (meant main t) + placing_count t + 1001 * wide_count false t

-- ---- the work of each model by a table

abbrev pub worth : List ℕ → Option ℕ → ℕ
worth table None = 0
worth table (Some i) = slice_index table i

abbrev pub item_work : List Design → List ℕ → Bool → Item → ℕ
item_work models table inside (Cover q) = equation_work inside q
item_work models table inside (Place p) = 1 + worth table (place_of models p.model)

-- the work of items, where the table has that of the models that they place
abbrev pub work_by : List Design → List ℕ → Bool → List Item → ℕ
work_by models table inside items = capped (sum (map (item_work models table inside) items))

-- the table has the work of the models at these places
pub record HasWorks (models : List Design) (table done : List ℕ) : Type 0 where
  pub is : (i : ℕ) (t : Tree) → has nat_eq done i ≡ true → Unfolds models (items_at models i) t →
      slice_index table i ≡ capped (work true t)

-- the models that the items place are among these
pub record ArePlacedIn (models : List Design) (items : List Item) (done : List ℕ) : Type 0 where
  pub each : (j : ℕ) → has nat_eq (targets_in models items) j ≡ true → has nat_eq done j ≡ true

-- by such a table the work of items is found in one look at them
abbrev pub TablesGiveWorks : Type 0
TablesGiveWorks = (models : List Design) (table done : List ℕ) (inside : Bool) (items : List Item)
    (t : Tree)
    → HasWorks models table done → ArePlacedIn models items done → Unfolds models items t →
    work_by models table inside items ≡ capped (work inside t)

-- a number kept within the greatest stays the same sum
abbrev pub SumsSaturate : Type 0
SumsSaturate = (a b : ℕ) → capped (capped a + capped b) ≡ capped (a + b)

-- ---- names

abbrev pub IsShort : Signal → Type 0
IsShort s = All (λ k. k < 2 ^ 64) s.path

-- two signals with one name are one, where no name of a model holds a blank
abbrev pub NamesDiffer : Type 0
NamesDiffer = (a b : Signal) → lacks 32 a.name ≡ true → lacks 32 b.name ≡ true → IsShort a →
    IsShort b → spelled a ≡ spelled b → a ≡ b

-- ---- models without placings

-- they mean their own equations, and cost what those do
abbrev pub PlainModelsStay : Type 0
PlainModelsStay = (models : List Design) (main : Design) (qs : List (EquationOf (List ℕ)))
    (t : Tree) → main.items ≡ map Cover qs → Unfolds models main.items t
    → (meant main t ≡ record { inputs = main.inputs; outputs = main.outputs; equations = qs })
    × (text_cost main t ≡ cost_of (meant main t))

-- ---- recursion, as a search finds it

-- the models at these places, the last first: each was put there after all models that it places
abbrev pub Settled : List Design → List ℕ → Type 0
Settled models [] = Unit {0}
Settled models (i ∷ done) = ArePlacedIn models (items_at models i) done × Settled models done

-- settled models have trees, and where main is one of them no placing leads back
abbrev pub SettledUnfold : Type 0
SettledUnfold = (models : List Design) (done : List ℕ) (i : ℕ) → Settled models done →
    has nat_eq done i ≡ true → (t : Tree) × Unfolds models (items_at models i) t

abbrev pub SettledAreFree : Type 0
SettledAreFree = (models : List Design) (done : List ℕ) → Settled models done →
    has nat_eq done 0 ≡ true → IsFree models

-- a table grows by a model whose placed models are in it
abbrev pub TablesGrow : Type 0
TablesGrow = (models : List Design) (table done : List ℕ) (i : ℕ) → HasWorks models table done →
    ArePlacedIn models (items_at models i) done → i < length table
    → HasWorks models (slice_set table i (work_by models table true (items_at models i))) (i ∷ done)

-- no placing leads back exactly where no line of a reached model is recursive
abbrev pub FreeIsNone : Type 0
FreeIsNone = (models : List Design) → IsNone (IsRecursive models) (spots models) → IsFree models

abbrev pub NoneIsFree : Type 0
NoneIsFree = (models : List Design) → IsFree models → IsNone (IsRecursive models) (spots models)

-- numbers of parts, so that placings lead to no lower number, and models with one number reach
-- each other
pub record AreComponents (models : List Design) (part : ℕ → ℕ) : Type 0 where
  pub up : (i j : ℕ) → IsReached models i → Places models i j → part i ≤ part j
  pub joined : (i j : ℕ) → IsReached models i → IsReached models j → part i ≡ part j →
      Reaches models i j

-- by them each line is judged alone
abbrev pub ComponentsTell : Type 0
ComponentsTell = (models : List Design) (part : ℕ → ℕ) (i j : ℕ) → AreComponents models part →
    IsReached models i → Places models i j → Reaches models j i ↔ (part i ≡ part j)

-- ---- how parts are found: a search that goes down, and one back up from the model that it left
-- last

-- what a model reaches stands in the list, but for what is reached by way of a model that isn't
-- in it and leads back
pub record IsLeft (models : List Design) (all : List ℕ) (u : ℕ) : Type 0 where
  pub is : (x : ℕ) → Reaches models u x → (has nat_eq all x ≡ true) ⊎ ((g : ℕ)
      × Reaches models u g × Reaches models g u × (has nat_eq all g ≡ false))

-- the models that a search has left, the last first
abbrev pub AreLeft : List Design → List ℕ → Type 0
AreLeft models [] = Unit {0}
AreLeft models (u ∷ done) = IsLeft models (u ∷ done) u × AreLeft models done

-- each places the one before it in the list
abbrev pub IsChain : List Design → List ℕ → Type 0
IsChain models [] = Unit {0}
IsChain models (u ∷ []) = Unit {0}
IsChain models (u ∷ v ∷ vs) = Places models v u × IsChain models (v ∷ vs)

-- each model in the list places models of these alone
pub record PlaceWithin (models : List Design) (done all : List ℕ) : Type 0 where
  pub each : (i j : ℕ) → has nat_eq done i ≡ true → Places models i j → has nat_eq all j ≡ true

-- the search leaves u, the last model of its way, when all models that u places were left or are
-- on the way
abbrev pub LeavingKeeps : Type 0
LeavingKeeps = (models : List Design) (u : ℕ) (below done : List ℕ) → IsChain models (u ∷ below) →
    PlaceWithin models (u ∷ done) (done ++ u ∷ below) → AreLeft models done →
    AreLeft models (u ∷ done)

-- models that are assigned to parts, with all that they reach and are reached from
pub record AreWhole (models : List Design) (assigned : List ℕ) : Type 0 where
  pub closed : (a b : ℕ) → has nat_eq assigned a ≡ true → Reaches models a b → Reaches models b a →
      has nat_eq assigned b ≡ true

-- r is the last left of the models that aren't assigned
pub record IsRoot (models : List Design) (before : List ℕ) (r : ℕ)
    (after assigned : List ℕ) : Type 0 where
  pub left : AreLeft models (before ++ r ∷ after)
  pub once : first_twice nat_eq [] (before ++ r ∷ after) ≡ None
  pub all : (i : ℕ) → IsReached models i → has nat_eq (before ++ r ∷ after) i ≡ true
  pub whole : AreWhole models assigned
  pub earlier : (i : ℕ) → has nat_eq before i ≡ true → has nat_eq assigned i ≡ true

-- then each that isn't assigned and reaches r is reached from it: with r they are the next part,
-- and no other leads into it
abbrev pub BackIsForth : Type 0
BackIsForth = (models : List Design) (before : List ℕ) (r : ℕ) (after assigned : List ℕ) (y : ℕ) →
    IsRoot models before r after assigned
    → IsReached models y → has nat_eq assigned y ≡ false → Reaches models y r → Reaches models r y

-- a search that has left main, and whose models place none beside them, has left all reached ones
abbrev pub SearchEnds : Type 0
SearchEnds = (models : List Design) (done : List ℕ) (i : ℕ) → PlaceWithin models done done →
    has nat_eq done 0 ≡ true → IsReached models i → has nat_eq done i ≡ true

-- the parts so far: each is whole, no placing leads into them from beside them, and their
-- numbers are below count
pub record AreParts (models : List Design) (assigned : List ℕ)
    (part : ℕ → ℕ) (count : ℕ) : Type 0 where
  pub whole : AreWhole models assigned
  pub below : (i : ℕ) → has nat_eq assigned i ≡ true → part i < count
  pub up : (i j : ℕ) → IsReached models i → has nat_eq assigned j ≡ true → Places models i j →
      (has nat_eq assigned i ≡ true) × (part i ≤ part j)
  pub joined : (i j : ℕ) → has nat_eq assigned i ≡ true → has nat_eq assigned j ≡ true →
      part i ≡ part j → Reaches models i j

-- what a search back from r finds among the models that aren't assigned
pub record IsFound (models : List Design) (assigned : List ℕ) (r : ℕ) (found : List ℕ)
    : Type 0 where
  pub root : has nat_eq found r ≡ true
  pub each : (y : ℕ) → has nat_eq found y ≡ true → IsReached models y
      × (has nat_eq assigned y ≡ false) × Reaches models y r
  pub closed : (i j : ℕ) → IsReached models i → has nat_eq assigned i ≡ false → Places models i j →
      has nat_eq found j ≡ true → has nat_eq found i ≡ true

-- it is the next part
abbrev pub PartsGrow : Type 0
PartsGrow = (models : List Design) (before : List ℕ) (r : ℕ) (after assigned found : List ℕ)
    (old new : ℕ → ℕ) (count : ℕ) → IsRoot models before r after assigned →
    AreParts models assigned old count
    → IsFound models assigned r found → ((i : ℕ) → has nat_eq assigned i ≡ true → new i ≡ old i) →
    ((i : ℕ) → has nat_eq found i ≡ true → new i ≡ count) →
    AreParts models (found ++ assigned) new (count + 1)

abbrev pub PartsEnd : Type 0
PartsEnd = (models : List Design) (assigned : List ℕ) (part : ℕ → ℕ) (count : ℕ) →
    AreParts models assigned part count → ((i : ℕ) → IsReached models i →
    has nat_eq assigned i ≡ true) → AreComponents models part

-- so the cost of a text is known, as far as it can be told, with nothing placed
abbrev pub CostIsTabled : Type 0
CostIsTabled = (models : List Design) (main : Design) (table done : List ℕ) (t : Tree) →
    HasWorks models table done → ArePlacedIn models main.items done → Unfolds models main.items t
    → capped (length main.inputs + length main.outputs + work_by models table false main.items)
    ≡ capped (text_cost main t)
