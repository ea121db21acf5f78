-- The faults of lines that place models, as they are looked for.
use Rattle.std.specs.Prelude.{ℕ, ◌≡◌, ◌==◌, Bool, not, ◌&&◌, List, [], ◌∷◌, map, Option, Some, None, slice_get, slice_index, if◌then◌else◌, IfSome}
use Rattle.std.specs.Str.{bytes_eq}
use Rattle.std.specs.Option.{option_map}
use Rattle.surf_rules.specs.Names.{with_text}
use Rattle.surf_logic.specs.Order.{has, or_else, first_missing}
use Rattle.surf_flatten.specs.declared.checks.Ports.{Ports}
use Rattle.surf_flatten.specs.declared.error.FlattenError.{FlattenError}
use Rattle.surf_flatten.specs.declared.models.Bind.{Bind}
use Rattle.surf_flatten.specs.declared.models.Item.{Item}
use Rattle.surf_flatten.specs.declared.models.Item.TheVariants.{Cover, Place}
use Rattle.surf_flatten.specs.Placements.{Placement}
use Rattle.surf_flatten.specs.Designs.{Design}
use Rattle.surf_flatten.specs.Faults.{ModelFault, UnknownModel, BadFormal, Unconnected, Recursive}
use Rattle.surf_flatten.specs.Refusals.{told}
use Rattle.surf_flatten.specs.Tables.{with_texts}

-- there is a fault, and the error tells it
abbrev pub Refuses : Option ModelFault → FlattenError → Type 0
Refuses o e = IfSome (told e) (λ f. o ≡ Some f)

abbrev pub port_of : Design → Ports
port_of m =
    record {
      all = with_texts (with_texts [] m.inputs) m.outputs;
      inputs = with_texts [] m.inputs;
    }

abbrev pub ports_by : List Design → List Ports
ports_by models = map port_of models

abbrev pub is_free : List (List ℕ) → List (List ℕ) → List ℕ → Bool
is_free known bound t = has bytes_eq known t && not (has bytes_eq bound t)

-- the first formal that can't be bound after those before it
abbrev pub formal_by : List (List ℕ) → List (List ℕ) → List Bind → Option (List ℕ)
formal_by known bound [] = None
formal_by known bound (b ∷ bs) =
    if is_free known bound b.formal then formal_by known (with_text bound b.formal) bs
    else Some b.formal

abbrev pub bind_fault : Ports → Placement → Option ModelFault
bind_fault ports p =
    or_else (option_map (BadFormal p.line) (formal_by ports.all [] p.binds))
    (option_map (Unconnected p.line)
    (first_missing bytes_eq (with_texts [] (map (λ b. b.formal) p.binds)) ports.inputs))

abbrev pub bind_fault_of : Placement → Option Ports → Option ModelFault
bind_fault_of p None = None
bind_fault_of p (Some ports) = bind_fault ports p

abbrev pub fault_at : List Ports → Placement → Option ℕ → Option ModelFault
fault_at ports p None = Some (UnknownModel p.line p.model)
fault_at ports p (Some k) = bind_fault_of p (slice_get ports k)

abbrev pub item_fault : (List ℕ → Option ℕ) → List Ports → Item → Option ModelFault
item_fault find ports (Cover q) = None
item_fault find ports (Place p) = fault_at ports p (find p.model)

-- the first fault of items
abbrev pub lines_fault : (Item → Option ModelFault) → List Item → Option ModelFault
lines_fault test [] = None
lines_fault test (i ∷ is) = or_else (test i) (lines_fault test is)

-- the first fault of the models whose part is not 0
abbrev pub models_fault : (ℕ → Item → Option ModelFault) → List ℕ → List Design →
    Option ModelFault
models_fault test parts [] = None
models_fault test [] (m ∷ ms) = None
models_fault test (part ∷ parts) (m ∷ ms) =
    or_else (if part == 0 then None else lines_fault (test part) m.items)
    (models_fault test parts ms)

abbrev pub placings_fault : (List ℕ → Option ℕ) → List Ports → List ℕ → List Design →
    Option ModelFault
placings_fault find ports parts models =
    models_fault (λ part i. item_fault find ports i) parts models

abbrev pub back_at : List ℕ → ℕ → Placement → Option ℕ → Option ModelFault
back_at parts part p None = None
back_at parts part p (Some k) =
    if slice_index parts k == part then Some (Recursive p.line p.model) else None

-- the fault of a line in a model of this part that leads to the same part
abbrev pub back_fault : (List ℕ → Option ℕ) → List ℕ → ℕ → Item → Option ModelFault
back_fault find parts part (Cover q) = None
back_fault find parts part (Place p) = back_at parts part p (find p.model)

abbrev pub recursion_fault : (List ℕ → Option ℕ) → List ℕ → List Design → Option ModelFault
recursion_fault find parts models = models_fault (back_fault find parts) parts models
