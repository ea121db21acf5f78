-- The slots in which the numbers of names at the start are kept.
use Rattle.std.specs.Prelude.{if◌then◌else◌, slice_get, unwrap_or, replicate}
use Rattle.std.proofs.Common.{◌≡◌, ℕ, zero, suc, ◌/◌, ◌%◌, ◌<◌, ◌≤◌, Bool, true, false, List, ◌++◌, set, take, drop, length, Option, Some, None, sym, refl, ap, ◌∙◌, inl, inr, arith}
use Rattle.std.proofs.lemmas.Bool.{cases_eq}
use Rattle.std.proofs.lemmas.Grind.{common_steps}
use Rattle.std.proofs.lemmas.Nat.{div-mul-add, mod-mul-add, mod_below, mul-add-lt}
use Rattle.surf_lattice.specs.declared.site.Site.{Site}
use Rattle.surf_lattice.specs.Grids.{colour, colours}
use Rattle.surf_auto.specs.Sync.{Universe, IsUniverse, state_at}
use Rattle.surf_sync.specs.Codes.{Mark}
use Rattle.surf_sync.specs.Codes.Mark.{Frame, Cell}
use Rattle.surf_sync.specs.Listing.{Keeps}
use Rattle.surf_sync.specs.Spelling.{spell}
use Rattle.surf_colony.specs.Colonies.{back, first_mark, framed, in_box}
use Rattle.surf_colony.specs.Numbers.{SlotsName, cell_state, name_slot, slot_count}
use Rattle.surf_colony.proofs.Places.{get-set_same, get-set_other}
use Rattle.surf_colony.proofs.Starts.{state_within}

-- ---- each site has a slot

row_within : (b : Bool) (x d : ℕ) → (b ≡ true → x < d) → unwrap_or (if b then Some x else None) d ≤ d
row_within true x d h = let lt = h refl in omega (arith, lt)
row_within false x d h = omega arith

colour_within : (U : Universe) (s : Site) → colour (framed U.grid) s < colours (framed U.grid)
colour_within U s = mod_below _ _ (omega arith)

pub slot_within : (U : Universe) → IsUniverse U → (s : Site) → name_slot U s < slot_count U
slot_within U is s =
    let d = U.rule.states 0 in
    let row = row_within (in_box U.grid s) (state_at U (back U.grid s)) d (state_within U is s) in
    let at = mul-add-lt (unwrap_or (cell_state U s) d) (colours (framed U.grid)) (colour (framed U.grid) s) (suc d) (omega (arith, row)) (colour_within U s) in
    omega (arith, at)

-- ---- sites of one slot have one name

abbrev mark_by : Bool → ℕ → ℕ → ℕ → Mark
mark_by b x k z = if b then Cell (record { current = x; generation = 0; colour = k; previous = x; reads = 0; acc = z }) else Frame k

same_by : (a b : Bool) (x y d k l z : ℕ) → (a ≡ true → x < d) → (b ≡ true → y < d) → unwrap_or (if a then Some x else None) d ≡ unwrap_or (if b then Some y else None) d → k ≡ l → mark_by a x k z ≡ mark_by b y l z
same_by true true x y d k l z m n e f = let g : x ≡ y = e in rw (g, f) refl
same_by true false x y d k l z m n e f = let g : x ≡ d = e in let lt = m refl in absurd (omega (arith, g, lt))
same_by false true x y d k l z m n e f = let g : d ≡ y = e in let lt = n refl in absurd (omega (arith, g, lt))
same_by false false x y d k l z m n e f = ap Frame f

same_slot : (U : Universe) → IsUniverse U → (s t : Site) → name_slot U s ≡ name_slot U t → first_mark U s ≡ first_mark U t
same_slot U is s t e =
    let d = U.rule.states 0 in
    let n = colours (framed U.grid) in
    let p = unwrap_or (cell_state U s) d in
    let q = unwrap_or (cell_state U t) d in
    let k = colour (framed U.grid) s in
    let l = colour (framed U.grid) t in
    let rows : p ≡ q = sym (div-mul-add p n k (colour_within U s)) ∙ ap (λ i. i / n) e ∙ div-mul-add q n l (colour_within U t) in
    let shades : k ≡ l = sym (mod-mul-add p n k (colour_within U s)) ∙ ap (λ i. i % n) e ∙ mod-mul-add q n l (colour_within U t) in
    same_by (in_box U.grid s) (in_box U.grid t) (state_at U (back U.grid s)) (state_at U (back U.grid t)) d k l (U.rule.start 0) (state_within U is s) (state_within U is t) rows shades

-- ---- slots are filled

none_there : (n k i : ℕ) → slice_get (replicate n None) k ≡ Some (Some i) → ⊥
none_there zero k i e = absurd cc
none_there (suc n) zero i e = absurd cc
none_there (suc n) (suc k) i e = none_there n k i e

pub slots_none : (U : Universe) (names : List (List ℕ)) (n : ℕ) → SlotsName U names (replicate n None)
slots_none U names n = λ s i e. absurd (none_there n (name_slot U s) i e)

filled : (U : Universe) → IsUniverse U → (names : List (List ℕ)) (slots : List (Option ℕ)) (s t : Site) (n i : ℕ) → name_slot U s < length slots → slice_get names n ≡ Some (spell (first_mark U s)) → name_slot U t ≡ name_slot U s →
    slice_get (set slots (name_slot U s) (Some n)) (name_slot U t) ≡ Some (Some i) → slice_get names i ≡ Some (spell (first_mark U t))
filled U is names slots s t n i within here same e =
    let at : slice_get (set slots (name_slot U s) (Some n)) (name_slot U t) ≡ Some (Some n) = ap (λ k. slice_get (set slots (name_slot U s) (Some n)) k) same ∙ get-set_same slots (name_slot U s) (Some n) within in
    let is_n : i ≡ n = (let f : Some (Some i) ≡ Some (Some n) = sym e ∙ at in cc) in
    ap (slice_get names) is_n ∙ here ∙ ap (λ m. Some (spell m)) (same_slot U is s t (sym same))

pub slots_set : (U : Universe) → IsUniverse U → (old new : List (List ℕ)) (slots : List (Option ℕ)) (s : Site) (n : ℕ) → Keeps old new → SlotsName U old slots → name_slot U s < length slots → slice_get new n ≡ Some (spell (first_mark U s)) → SlotsName U new (set slots (name_slot U s) (Some n))
slots_set U is old new slots s n keeps named within here = λ t i e. elim (cases_eq (name_slot U t) (name_slot U s)) [
  | inl same ↦ filled U is new slots s t n i within here same e
  | inr other ↦ keeps i (spell (first_mark U t)) (named t i (sym (get-set_other slots (name_slot U s) (name_slot U t) (Some n) other) ∙ e))
]

-- a list that was written in place
pub whole_again : {X : Type 0} (n : ℕ) (new old : List X) → n ≡ length old → length new ≡ length old → take n (new ++ drop (length new) old) ≡ new
whole_again n new old is same = grind (arith, common_steps)
