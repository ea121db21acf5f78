-- What a surface of a circuit does, in every run.
use Rattle.std.specs.Prelude.{ℕ, ◌≡◌, ◌≤◌, ◌⊎◌, Bool, List, length, map, codes, Some, slice_get}
use Rattle.std.specs.Str.{bytes_eq}
use Rattle.surf_logic.specs.Equations.{PartsOf}
use Rattle.surf_logic.specs.Answers.{EvalOf}
use Rattle.surf_settle.specs.Settling.{circuit_rules}
use Rattle.surf_world.specs.declared.event.Event.{Event}
use Rattle.surf_world.specs.Systems.{System, Holds, IsRun, Stuck, left_by}
use Rattle.surf_manifest_print.specs.declared.legend.Place.{Place}
use Rattle.surf_manifest_print.specs.Legends.{LegendText, AreApart}
use Rattle.surf_inputs.specs.Inputs.{bit_name, with_inputs}

-- the i-th of the places holds the name of the i-th value
abbrev pub ShowsAt : System (List ℕ) → List (List ℕ) → List Place → List Bool → ℕ → Type 0
ShowsAt S c places values i =
    (p : Place) (v : Bool) → slice_get places i ≡ Some p → slice_get values i ≡ Some v →
    Holds S.surface.grid c p.site (bit_name v)

-- every run from the start has at most so many events, and each output site then is a blank wire or
-- holds its value. Where nothing can happen any more it had exactly so many, each output site holds
-- its value, and what is left is always the same
pub record SettlesTo (S : System (List ℕ)) (outputs : List Place) (events : ℕ)
    (values : List Bool) : Type 0 where
  pub at_most : (es : List Event) → IsRun S.surface S.start es → length es ≤ events
  pub shows : (es : List Event) → IsRun S.surface S.start es → (i : ℕ) (p : Place) (v : Bool) →
      slice_get outputs i ≡ Some p → slice_get values i ≡ Some v →
      Holds S.surface.grid (left_by S.surface S.start es) p.site (codes "w")
      ⊎ Holds S.surface.grid (left_by S.surface S.start es) p.site (bit_name v)
  pub exactly : (es : List Event) → IsRun S.surface S.start es →
      Stuck S.surface (left_by S.surface S.start es) → length es ≡ events
  pub settled : (es : List Event) → IsRun S.surface S.start es →
      Stuck S.surface (left_by S.surface S.start es) → (i : ℕ) →
      ShowsAt S (left_by S.surface S.start es) outputs values i
  pub one_end : (es es' : List Event) → IsRun S.surface S.start es →
      Stuck S.surface (left_by S.surface S.start es) → IsRun S.surface S.start es' →
      Stuck S.surface (left_by S.surface S.start es') →
      left_by S.surface S.start es ≡ left_by S.surface S.start es'

-- the values of the outputs that solve the equations with these bits, and how the surface settles
-- to them
pub record Computes (B : PartsOf (List ℕ)) (S : System (List ℕ)) (l : LegendText)
    (bits : List Bool) : Type 0 where
  pub values : List Bool
  pub solved : EvalOf bytes_eq B bits values
  pub settles : SettlesTo (with_inputs S l bits) l.outputs l.events values

-- the system has the rules of circuits, the legend names the circuit's inputs and outputs in order,
-- the input sites differ, lie inside and hold `?`, and whichever bits they are set to, the surface
-- computes the circuit
pub record CircuitHolds (B : PartsOf (List ℕ)) (S : System (List ℕ)) (l : LegendText) : Type 0 where
  pub rules : S.surface.rules ≡ circuit_rules
  pub inputs : map (λ p. p.name) l.inputs ≡ B.inputs
  pub outputs : map (λ p. p.name) l.outputs ≡ B.outputs
  pub apart : AreApart l.inputs
  pub unset : (i : ℕ) (p : Place) → slice_get l.inputs i ≡ Some p →
      Holds S.surface.grid S.start p.site (codes "?")
  pub computes : (bits : List Bool) → length bits ≡ length B.inputs → Computes B S l bits
