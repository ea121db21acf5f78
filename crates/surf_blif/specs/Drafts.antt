-- What a draft stands for. Its parts are over the numbers of its names.
use Rattle.std.specs.Prelude.{◌≡◌, ℕ, ◌+◌, ◌-◌, ◌^◌, ◌<◌, ◌≤◌, Bool, ◌==◌, List, length, slice_get, All}
use Rattle.std.specs.List.{list_all}
use Rattle.surf_rules.specs.Names.{text_of}
use Rattle.surf_logic.specs.Equations.{EquationOf, PartsOf, Numbered}
use Rattle.surf_blif.specs.declared.draft.Draft.{Draft}
use Rattle.surf_blif.specs.declared.reading.Reading.{Reading}
use Rattle.surf_logic.specs.Renamed.{parts_by}
use Rattle.surf_blif.specs.Steps.{Held, Reached}

-- a list of texts became at most n texts longer, and keeps those that it had
pub record IsGrown (n : ℕ) (old new : List (List ℕ)) : Type 0 where
  pub longer : length old ≤ length new
  pub most : length new ≤ length old + n
  pub kept : (k : ℕ) → k < length old → slice_get new k ≡ slice_get old k

-- the numbers of an equation are below n
pub record EquationBelow (n : ℕ) (q : EquationOf ℕ) : Type 0 where
  pub output : q.output < n
  pub inputs : All (λ k. k < n) q.inputs

abbrev pub numbered_parts : Draft → PartsOf ℕ
numbered_parts d =
    record { inputs = d.inputs.items; outputs = d.outputs.items; equations = d.equations.items }

abbrev pub held_by : Draft → Held
held_by d = record { cost = d.cost; parts = parts_by (text_of d.names) (numbered_parts d) }

-- the numbers of all parts are below n
pub record PartsBelow (n : ℕ) (p : PartsOf ℕ) : Type 0 where
  pub inputs : All (λ k. k < n) p.inputs
  pub outputs : All (λ k. k < n) p.outputs
  pub equations : All (EquationBelow n) p.equations

-- the numbers are places in the names
abbrev pub IsDraft : Draft → Type 0
IsDraft d = PartsBelow (length d.names) (numbered_parts d)

abbrev pub numbered_by : Draft → Numbered
numbered_by d = record { names = d.names; parts = numbered_parts d }

-- each row has one literal per input
abbrev pub rows_fit : {N : Type 0} → EquationOf N → Bool
rows_fit q = list_all (λ row. length row == length q.inputs) q.rows

-- names and cost can take a line of so many bytes
pub record HasRoom (d : Draft) (bytes : ℕ) : Type 0 where
  pub names : length d.names + bytes < 2 ^ 32 - 1
  pub cost : d.cost + bytes < 2 ^ 63

-- names and cost grew by at most so many
pub record IsWithin (n : ℕ) (old new : Draft) : Type 0 where
  pub names : length new.names ≤ length old.names + n
  pub cost : new.cost ≤ old.cost + n

abbrev pub reached_by : Reading → Reached
reached_by r = record { begun = r.begun; cover = r.cover; held = held_by r.draft }
