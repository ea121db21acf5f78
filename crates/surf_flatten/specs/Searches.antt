-- What searches of the models find.
use Rattle.std.specs.Prelude.{ℕ, ◌≡◌, ◌<◌, true, List, [], length, Option, None, nat_eq}
use Rattle.surf_logic.specs.Order.{has, first_twice}
use Rattle.surf_flatten.specs.declared.models.Item.{Item}
use Rattle.surf_flatten.specs.declared.models.Item.TheVariants.{Cover, Place}
use Rattle.surf_flatten.specs.Designs.{Design}
use Rattle.surf_flatten.specs.Reaching.{IsReached}
use Rattle.surf_flatten.specs.Laws.{AreLeft}

-- the place of the model that an item places
abbrev pub target_by : (List ℕ → Option ℕ) → Item → Option ℕ
target_by find (Cover q) = None
target_by find (Place p) = find p.model

-- a search from main has left these models, the last first
pub record HasLeft (models : List Design) (done : List ℕ) : Type 0 where
  pub left : AreLeft models done
  pub once : first_twice nat_eq [] done ≡ None
  pub all : (i : ℕ) → IsReached models i → has nat_eq done i ≡ true
  pub reached : (i : ℕ) → has nat_eq done i ≡ true → IsReached models i
  pub within : (i : ℕ) → has nat_eq done i ≡ true → i < length models
