-- A line that places a model.
use Rattle.std.specs.Prelude.{ℕ, List}
use Rattle.surf_flatten.specs.declared.models.Bind.{Bind}

pub record Placement : Type 0 where
  pub line : ℕ
  pub model : List ℕ
  pub binds : List Bind
