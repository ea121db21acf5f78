-- What some texts spell, by computing.
use Rattle.std.proofs.Common.{ℕ, ◌≡◌, List, [], ◌∷◌, ◌++◌, refl, codes, Bool, true, false, Ok, Err, slice_set, replicate}
use Rattle.surf_lattice.specs.declared.site.GridKind.{GridKind}
use Rattle.surf_lattice.specs.declared.site.GridKind.TheVariants.{Square, Hex}
use Rattle.surf_lattice.specs.Grids.{degree}
use Rattle.surf_text.specs.Bytes.{ended}
use Rattle.surf_auto.specs.Counts.{count_rule}
use Rattle.surf_auto.specs.Sync.{box_of, plain, universe}
use Rattle.surf_auto.specs.declared.error.SourceError.{SourceError}
use Rattle.surf_auto.specs.declared.error.SourceError.TheVariants as faults
use Rattle.surf_rle.specs.Rle.{rle_of}
use Rattle.surf_rle.specs.Sources.{Plain, Eight}

abbrev no : List Bool
no = replicate 7 false

abbrev Spells : ℕ → List (List ℕ) → GridKind → ℕ → ℕ → List Bool → List Bool → List ℕ → Type 0
Spells margin ls kind width height birth survival cells =
    rle_of margin (ended ls) ≡ Ok (Plain (universe (plain kind width height) (count_rule (record { degree = degree kind; birth = birth; survival = survival })) 0 cells))

-- on a torus, whatever the margin
abbrev Joins : ℕ → List (List ℕ) → GridKind → ℕ → ℕ → List Bool → List Bool → List ℕ → Type 0
Joins margin ls kind width height birth survival cells =
    rle_of margin (ended ls) ≡ Ok (Plain (universe (box_of kind true width height) (count_rule (record { degree = degree kind; birth = birth; survival = survival })) 0 cells))

-- eight neighbours, by the births and survivals of Conway's Life
abbrev IsLife : ℕ → List (List ℕ) → Bool → ℕ → ℕ → List ℕ → Type 0
IsLife margin ls wrap width height cells =
    rle_of margin (ended ls) ≡ Ok (Eight (record { degree = 8; birth = slice_set (replicate 9 false) 3 true; survival = slice_set (slice_set (replicate 9 false) 2 true) 3 true }) (box_of Square wrap width height) cells)

abbrev HasFault : List (List ℕ) → SourceError → Type 0
HasFault ls f = rle_of 0 (ended ls) ≡ Err f

-- one live cell that always dies
one : Spells 0 (codes "x = 1, y = 1, rule = B/SV" ∷ codes "o!" ∷ []) Square 1 1 no no (1 ∷ [])
one = refl

two_of_three : Spells 0 (codes "x = 3, y = 1, rule = B1/SV" ∷ codes "oo!" ∷ []) Square 3 1 (slice_set no 1 true) no (1 ∷ 1 ∷ 0 ∷ [])
two_of_three = refl

-- comments, small letters, items over several lines, and a margin
with_margin : Spells 1 (codes "#N a" ∷ codes "  x=2,y=2 , rule=b2/s13h" ∷ codes "# b" ∷ codes "1o$ b" ∷ codes "o!x" ∷ []) Hex 4 4 (slice_set no 2 true) (slice_set (slice_set no 1 true) 3 true) (0 ∷ 0 ∷ 0 ∷ 0 ∷ 0 ∷ 1 ∷ 0 ∷ 0 ∷ 0 ∷ 0 ∷ 1 ∷ 0 ∷ 0 ∷ 0 ∷ 0 ∷ 0 ∷ [])
with_margin = refl

rows_down : Spells 0 (codes "x = 1, y = 3, rule = B/SV" ∷ codes "2$o!" ∷ []) Square 1 3 no no (0 ∷ 0 ∷ 1 ∷ [])
rows_down = refl

-- dead cells may stand outside the box
dead_outside : Spells 0 (codes "x = 1, y = 1, rule = B/SV" ∷ codes "o4294967295b4294967295$b!" ∷ []) Square 1 1 no no (1 ∷ [])
dead_outside = refl

missing_rule : IsLife 0 (codes "x = 1, y = 1" ∷ codes "o!" ∷ []) false 1 1 (1 ∷ [])
missing_rule = refl

eight : IsLife 1 (codes "x = 2, y = 1, rule = B3/S23" ∷ codes "bo!" ∷ []) false 4 3 (replicate 6 0 ++ 1 ∷ replicate 5 0)
eight = refl

eight_on_a_torus : IsLife 1000 (codes "x = 2, y = 1, rule = b33/s32:t5,5" ∷ codes "bo!" ∷ []) true 5 5 (0 ∷ 1 ∷ replicate 23 0)
eight_on_a_torus = refl

-- each digit that a cell of eight neighbours may count
all_digits : rle_of 0 (ended (codes "x = 1, y = 1, rule = B012345678/S8" ∷ codes "!" ∷ [])) ≡ Ok (Eight (record { degree = 8; birth = replicate 9 true; survival = slice_set (replicate 9 false) 8 true }) (plain Square 1 1) (0 ∷ []))
all_digits = refl

five_of_four : HasFault (codes "x = 1, y = 1, rule = B5/SV" ∷ codes "o!" ∷ []) (faults.RuleForm 1)
five_of_four = refl

nine : HasFault (codes "x = 1, y = 1, rule = B9/S" ∷ codes "o!" ∷ []) (faults.RuleForm 1)
nine = refl

outside : HasFault (codes "x = 1, y = 1, rule = B/SV" ∷ codes "2o!" ∷ []) (faults.OutOfBox 2)
outside = refl

below : HasFault (codes "x = 1, y = 1, rule = B/SV" ∷ codes "4294967295$4294967295$o!" ∷ []) (faults.OutOfBox 2)
below = refl

unclosed : HasFault (codes "x = 1, y = 1, rule = B/SV" ∷ codes "o" ∷ []) faults.Unclosed
unclosed = refl

header_alone : HasFault (codes "x = 1, y = 1, rule = B/SV" ∷ []) faults.Unclosed
header_alone = refl

letter : HasFault (codes "x = 1, y = 1, rule = B/SV" ∷ codes "2A!" ∷ []) (faults.BadItem 2)
letter = refl

none_of_them : HasFault (codes "x = 1, y = 1, rule = B/SV" ∷ codes "0o!" ∷ []) (faults.BadItem 2)
none_of_them = refl

too_many : HasFault (codes "x = 1, y = 1, rule = B/SV" ∷ codes "4294967296b!" ∷ []) (faults.BadItem 2)
too_many = refl

-- a count stands beside its letter
count_alone : HasFault (codes "x = 1, y = 1, rule = B/SV" ∷ codes "2" ∷ codes "o!" ∷ []) (faults.BadItem 2)
count_alone = refl

-- the first fault in the text
outside_first : HasFault (codes "x = 1, y = 1, rule = B/SV" ∷ codes "2oA!" ∷ []) (faults.OutOfBox 2)
outside_first = refl

letter_first : HasFault (codes "x = 1, y = 1, rule = B/SV" ∷ codes "A2o!" ∷ []) (faults.BadItem 2)
letter_first = refl

rule_first : HasFault (codes "x = 0, y = 1, rule = B/" ∷ codes "!" ∷ []) (faults.RuleForm 1)
rule_first = refl

empty_side : HasFault (codes "x = 0, y = 1, rule = B/SV" ∷ codes "!" ∷ []) faults.EmptyGrid
empty_side = refl

too_large : HasFault (codes "x = 1001, y = 1000, rule = B/SV" ∷ codes "!" ∷ []) (faults.GridTooLarge 1001000)
too_large = refl

no_text : HasFault [] (faults.BadHeader 1)
no_text = refl

no_header : HasFault (codes "#C" ∷ codes "" ∷ []) (faults.BadHeader 3)
no_header = refl

cut_header : HasFault (codes "x = 1, y" ∷ []) (faults.BadHeader 1)
cut_header = refl

cut_rule : HasFault (codes "x = 1, y = 1, rule = B/" ∷ []) (faults.RuleForm 1)
cut_rule = refl

empty_rule : HasFault (codes "x = 1, y = 1, rule =" ∷ []) (faults.RuleForm 1)
empty_rule = refl

-- ---- tori

torus : Joins 0 (codes "x = 5, y = 5, rule = B1/SV:T5,5" ∷ codes "o!" ∷ []) Square 5 5 (slice_set no 1 true) no (1 ∷ replicate 24 0)
torus = refl

-- a box at the upper left corner, for which the margin counts nothing
smaller_box : Joins 1000 (codes "x=2,y = 1 , rule=B1/Sv:t10,5" ∷ codes "bo!" ∷ []) Square 10 5 (slice_set no 1 true) no (0 ∷ 1 ∷ replicate 48 0)
smaller_box = refl

six_on_a_torus : Joins 3 (codes "x = 7, y = 7, rule = B2/SH:T07,7" ∷ codes "$o!" ∷ []) Hex 7 7 (slice_set no 2 true) no (replicate 7 0 ++ 1 ∷ replicate 41 0)
six_on_a_torus = refl

five_by_six : HasFault (codes "x = 5, y = 5, rule = B1/SV:T5,6" ∷ codes "o!" ∷ []) (faults.TorusSize 1)
five_by_six = refl

no_width : HasFault (codes "x = 5, y = 5, rule = B1/SV:T0,5" ∷ codes "o!" ∷ []) (faults.TorusSize 1)
no_width = refl

too_narrow : HasFault (codes "x = 11, y = 5, rule = B1/SV:T10,5" ∷ codes "o!" ∷ []) (faults.TorusSize 1)
too_narrow = refl

five_of_seven : HasFault (codes "x = 1, y = 1, rule = B1/SH:T5,7" ∷ codes "o!" ∷ []) (faults.TorusSize 1)
five_of_seven = refl

another_letter : HasFault (codes "x = 5, y = 5, rule = B1/SV:P5,5" ∷ codes "o!" ∷ []) (faults.RuleForm 1)
another_letter = refl

blank_side : HasFault (codes "x = 5, y = 5, rule = B1/SV:T5, 5" ∷ codes "o!" ∷ []) (faults.RuleForm 1)
blank_side = refl

-- the rule before the torus, and the torus before the box
wrong_rule_first : HasFault (codes "x = 5, y = 5, rule = B5/SV:T0,0" ∷ codes "o!" ∷ []) (faults.RuleForm 1)
wrong_rule_first = refl

eight_by_seven : HasFault (codes "x = 5, y = 5, rule = B3/S23:T7,7" ∷ codes "o!" ∷ []) (faults.TorusSize 1)
eight_by_seven = refl

nine_first : HasFault (codes "x = 5, y = 5, rule = B9/S23:T0,0" ∷ codes "o!" ∷ []) (faults.RuleForm 1)
nine_first = refl

torus_before_box : HasFault (codes "x = 0, y = 5, rule = B1/SV:T5,6" ∷ codes "o!" ∷ []) (faults.TorusSize 1)
torus_before_box = refl

empty_on_a_torus : HasFault (codes "x = 0, y = 5, rule = B1/SV:T5,5" ∷ codes "o!" ∷ []) faults.EmptyGrid
empty_on_a_torus = refl

large_torus : HasFault (codes "x = 1, y = 1, rule = B1/SV:T1005,1000" ∷ codes "o!" ∷ []) (faults.GridTooLarge 1005000)
large_torus = refl
