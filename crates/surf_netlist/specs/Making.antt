-- How gates are made one after another: those so far, and the signed net that they give, if any.
use Rattle.std.specs.Prelude.{ℕ, ◌+◌, Option, Some, None, List, [], ◌∷◌, ◌++◌, length, slice_index_or, slice_set, vec_len}
use Rattle.surf_tiles.specs.declared.netlist.Gate.{Gate}
use Rattle.surf_netlist.specs.declared.gate_list.GateList.{GateList}
use Rattle.surf_netlist.specs.declared.signed.Signed.{Signed}
use Rattle.surf_netlist.specs.Gates.{plain, and_gate, or_gate}

pub record Making : Type 0 where
  pub gates : List Gate
  pub so_far : Option Signed

-- one signed net more, by an AND or an OR. `inputs` is the number of the inputs
abbrev pub with_and : (inputs : ℕ) → List Gate → Option Signed → Signed → Making
with_and inputs gates None s = record { gates = gates; so_far = Some s }
with_and inputs gates (Some t) s =
    record { gates = gates ++ and_gate t s ∷ []; so_far = Some (plain (inputs + length gates)) }

abbrev pub with_or : (inputs : ℕ) → List Gate → Option Signed → Signed → Making
with_or inputs gates None s = record { gates = gates; so_far = Some s }
with_or inputs gates (Some t) s =
    record { gates = gates ++ or_gate t s ∷ []; so_far = Some (plain (inputs + length gates)) }

abbrev pub and_all : (inputs : ℕ) → List Gate → Option Signed → List Signed → Making
and_all inputs gates so_far [] = record { gates = gates; so_far = so_far }
and_all inputs gates so_far (s ∷ row) =
    and_all inputs (with_and inputs gates so_far s).gates (with_and inputs gates so_far s).so_far
    row

-- rows, up to one without a signed net
abbrev pub or_all : (inputs : ℕ) → List Gate → Option Signed → List (List Signed) → Making
or_all inputs gates so_far [] = record { gates = gates; so_far = so_far }
or_all inputs gates so_far (row ∷ rows) =
    let made = and_all inputs gates None row in
    elim made.so_far [
      | None ↦ record { gates = made.gates; so_far = None }
      | Some s ↦ or_all inputs (with_or inputs made.gates so_far s).gates
          (with_or inputs made.gates so_far s).so_far rows
    ]

-- a table of the nets of the names
abbrev pub net_at : List ℕ → ℕ → ℕ
net_at nets x = slice_index_or nets x 0

-- the table with the nets from `next` on at these names
abbrev pub numbered : List ℕ → (next : ℕ) → (names : List ℕ) → List ℕ
numbered nets next [] = nets
numbered nets next (name ∷ names) = numbered (slice_set nets name next) (next + 1) names

abbrev pub making_of : GateList → Option Signed → Making
making_of g so_far = record { gates = g.gates.items; so_far = so_far }

-- the net of the next gate
abbrev pub next_net : GateList → ℕ
next_net g = g.inputs + vec_len g.gates

abbrev pub and_row : GateList → List Signed → Making
and_row g row = and_all g.inputs g.gates.items None row

abbrev pub or_rows : GateList → List (List Signed) → Making
or_rows g rows = or_all g.inputs g.gates.items None rows
