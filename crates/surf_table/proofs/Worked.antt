-- What some texts spell, by computing.
use Rattle.std.proofs.Common.{ℕ, ◌≡◌, List, [], ◌∷◌, ◌++◌, map, refl, codes, Ok, Err}
use Rattle.surf_lattice.specs.Grids.{sites}
use Rattle.surf_lattice.specs.declared.site.GridKind.TheVariants.{Square}
use Rattle.surf_auto.specs.Locals.{rule_count}
use Rattle.surf_auto.specs.Sync.{Universe, plain, sync, universe}
use Rattle.surf_auto.specs.Tables.{Table, table_rule}
use Rattle.surf_auto.specs.declared.error.SourceError.{SourceError}
use Rattle.surf_auto.specs.declared.error.SourceError.TheVariants as faults
use Rattle.surf_text.specs.Bytes.{ended}
use Rattle.surf_table.specs.TableTexts.{table_of}

-- a text with these lines from the next states on
abbrev three_states : List (List ℕ) → List (List ℕ)
three_states ls =
    codes "automaton 1" ∷ codes "degree 4" ∷ codes "states 3" ∷ codes "edge 0" ∷ codes "weights 0 1 0" ∷ ls

abbrev with_rows : List (List ℕ) → List (List ℕ)
with_rows ls = three_states (codes "next 0 0 1 1 1 1" ∷ codes "next 1 2 2 2 2 2" ∷ codes "next 2 0 0 0 0 0" ∷ codes "size 3 1" ∷ ls)

abbrev excitable : List (List ℕ)
excitable = with_rows (codes "row 1 0 0" ∷ codes "end" ∷ [])

abbrev excitable_table : Table
excitable_table = record {
  degree = 4;
  weights = 0 ∷ 1 ∷ 0 ∷ [];
  next = 0 ∷ 1 ∷ 1 ∷ 1 ∷ 1 ∷ 2 ∷ 2 ∷ 2 ∷ 2 ∷ 2 ∷ 0 ∷ 0 ∷ 0 ∷ 0 ∷ 0 ∷ [];
}

abbrev row_of_three : List ℕ → Universe
row_of_three cells = universe (plain Square 3 1) (table_rule excitable_table) 0 cells

excitable_is : table_of 0 (ended excitable) ≡ Ok (row_of_three (1 ∷ 0 ∷ 0 ∷ []))
excitable_is = refl

abbrev excitable_wide : Universe
excitable_wide = universe (plain Square 5 3) (table_rule excitable_table) 0 (0 ∷ 0 ∷ 0 ∷ 0 ∷ 0 ∷ 0 ∷ 1 ∷ 0 ∷ 0 ∷ 0 ∷ 0 ∷ 0 ∷ 0 ∷ 0 ∷ 0 ∷ [])

margin_of_one : table_of 1 (ended excitable) ≡ Ok excitable_wide
margin_of_one = refl

one_step : map (sync (row_of_three (1 ∷ 0 ∷ 0 ∷ [])) 1) (sites (plain Square 3 1)) ≡ 2 ∷ 1 ∷ 0 ∷ []
one_step = refl

two_steps : map (sync (row_of_three (1 ∷ 0 ∷ 0 ∷ [])) 2) (sites (plain Square 3 1)) ≡ 0 ∷ 2 ∷ 1 ∷ []
two_steps = refl

few_rules : rule_count (table_rule excitable_table) ≡ 244350
few_rules = refl

abbrev HasFault : List (List ℕ) → SourceError → Type 0
HasFault ls f = table_of 0 (ended ls) ≡ Err f

many_rules : HasFault (codes "automaton 1" ∷ codes "degree 4" ∷ codes "states 5" ∷ codes "edge 0" ∷ codes "weights 0 1 0 0 0" ∷ codes "next" ∷ []) (faults.TooManyRules 1878750)
many_rules = refl

other_version : HasFault (codes "# a table" ∷ codes "automaton 2" ∷ []) (faults.BadTable 2)
other_version = refl

next_out_of_order : HasFault (three_states (codes "next 1 2 2 2 2 2" ∷ [])) (faults.BadTable 6)
next_out_of_order = refl

short_row : HasFault (with_rows (codes "" ∷ codes "row 1 0" ∷ [])) (faults.BadTable 11)
short_row = refl

state_three : HasFault (with_rows (codes "row 3 0 0" ∷ [])) (faults.BadTable 10)
state_three = refl

unclosed : HasFault (with_rows (codes "row 1 0 0" ∷ [])) faults.Unclosed
unclosed = refl

empty_grid : HasFault (three_states (codes "next 0 0 1 1 1 1" ∷ codes "next 1 2 2 2 2 2" ∷ codes "next 2 0 0 0 0 0" ∷ codes "size 3 0" ∷ [])) faults.EmptyGrid
empty_grid = refl

too_large : HasFault (three_states (codes "next 0 0 1 1 1 1" ∷ codes "next 1 2 2 2 2 2" ∷ codes "next 2 0 0 0 0 0" ∷ codes "size 1001 1000" ∷ [])) (faults.GridTooLarge 1001000)
too_large = refl

-- what follows the end is not read
more_lines : table_of 0 (ended (excitable ++ (codes "row" ∷ []))) ≡ Ok (row_of_three (1 ∷ 0 ∷ 0 ∷ []))
more_lines = refl
