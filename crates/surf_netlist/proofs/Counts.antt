-- How many gates an equation makes.
use Rattle.std.proofs.Common.{◌≡◌, ℕ, suc, ◌+◌, ◌-◌, max, Bool, true, false, cond, List, [], ◌∷◌, ◌++◌, length, refl, ap, ◌∙◌, arith}
use Rattle.std.specs.List.{list_any}
use Rattle.std.proofs.lemmas.List.{length-append}
use Rattle.surf_tiles.specs.declared.netlist.Gate.{Gate}
use Rattle.surf_tiles.specs.declared.netlist.Gate.TheVariants.{Constant}
use Rattle.surf_netlist.specs.declared.signed.Signed.{Signed}
use Rattle.surf_netlist.specs.Gates.{plain, Made, and_chain, or_chain, finished, is_empty, cover_gates}
use Rattle.surf_netlist.proofs.Values.{complement_long}

-- how many signed nets stand in rows
abbrev pub literals_in : List (List Signed) → ℕ
literals_in [] = 0
literals_in (row ∷ rows) = length row + literals_in rows

and_long : (next : ℕ) (so_far : Signed) (row : List Signed) → length (and_chain next so_far row).gates ≡ length row
and_long next so_far [] = refl
and_long next so_far (s ∷ row) = ap suc (and_long (next + 1) _ row)

or_long : (next : ℕ) (so_far : Signed) (rows : List (List Signed)) → list_any is_empty rows ≡ false → length (or_chain next so_far rows).gates ≡ literals_in rows
or_long next so_far [] e = refl
or_long next so_far ([] ∷ rows) e = absurd cc
or_long next so_far ((s ∷ row) ∷ rows) e =
    let r : Made = and_chain next s row in
    let a = and_long next s row in
    let b = or_long (next + length r.gates + 1) (plain (next + length r.gates)) rows e in
    let y : length (or_chain next so_far ((s ∷ row) ∷ rows)).gates ≡ length r.gates + suc (length (or_chain (next + length r.gates + 1) (plain (next + length r.gates)) rows).gates) = length-append r.gates _ in
    omega (arith, a, b, y)

finished_long : (polarity : Bool) (gates : List Gate) (s : Signed) → length (finished polarity gates s) ≡ max 1 (length gates)
finished_long polarity [] s = refl
finished_long true (g ∷ gates) s = omega arith
finished_long false (g ∷ gates) s = let a = complement_long g gates in omega (arith, a)

pub rows_long : (next : ℕ) (rows : List (List Signed)) (polarity : Bool) → list_any is_empty rows ≡ false → length (cover_gates next rows polarity) ≡ max 1 (literals_in rows - 1)
rows_long next [] polarity e = omega arith
rows_long next ([] ∷ rows) polarity e = absurd cc
rows_long next ((s ∷ row) ∷ rows) polarity e =
    let r : Made = and_chain next s row in
    let m : Made = or_chain (next + length r.gates) r.result rows in
    let a = and_long next s row in
    let b = or_long (next + length r.gates) r.result rows e in
    let z = length-append r.gates m.gates in
    ap (λ (x : Bool). length (cond x (Constant polarity ∷ []) (finished polarity (r.gates ++ m.gates) m.result))) e ∙ finished_long polarity (r.gates ++ m.gates) m.result ∙ ap (max 1) (omega (arith, a, b, z))

pub rows_one : (next : ℕ) (rows : List (List Signed)) (polarity : Bool) → list_any is_empty rows ≡ true → length (cover_gates next rows polarity) ≡ 1
rows_one next [] polarity e = absurd cc
rows_one next ([] ∷ rows) polarity e = refl
rows_one next ((s ∷ row) ∷ rows) polarity e =
    let r : Made = and_chain next s row in
    let m : Made = or_chain (next + length r.gates) r.result rows in ap (λ (x : Bool). length (cond x (Constant polarity ∷ []) (finished polarity (r.gates ++ m.gates) m.result))) e
