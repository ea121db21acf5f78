-- A table of works, filled from the models that are left first.
use Rattle.std.proofs.Common.{ℕ, ◌≡◌, ◌+◌, ◌-◌, ◌<◌, Bool, true, false, nat_eq, List, [], ◌∷◌, length, map, sum, refl, sym, ◌∙◌, ap, subst, arith, zero, suc, get_or, drop}
use Rattle.std.proofs.Math.ListN.{set}
use Rattle.std.specs.List.{All}
use Rattle.std.proofs.lemmas.List.Elements.{All-get_or}
use Rattle.surf_logic.specs.Equations.{capped}
use Rattle.surf_logic.specs.Order.{has}
use Rattle.surf_logic.proofs.Gathering.{get_any}
use Rattle.surf_logic.proofs.Solving.{map_same}
use Rattle.surf_flatten.specs.declared.models.Item.{Item}
use Rattle.surf_flatten.specs.declared.models.Item.TheVariants.{Cover, Place}
use Rattle.surf_flatten.specs.declared.places.Places.{Places as Table}
use Rattle.surf_flatten.specs.Designs.{Design}
use Rattle.surf_flatten.specs.Reaching.{items_at}
use Rattle.surf_flatten.specs.Laws.{worth, item_work, work_by, HasWorks, ArePlacedIn, Settled}
use Rattle.surf_flatten.specs.Tables.{Finds, place_in}
use Rattle.surf_flatten.specs.Works.{work_in}
use Rattle.surf_flatten.proofs.Finding.{rest_at}
use Rattle.surf_flatten.proofs.Searching.{table_grows}

work_same : (models : List Design) (library : Table) (table : List ℕ) (inside : Bool) (i : Item) → Finds models library → work_in (place_in library) table inside i ≡ item_work models table inside i
work_same models library table inside (Cover q) f = refl
work_same models library table inside (Place p) f = ap (λ o. 1 + worth table o) (f.is p.model)

pub works_same : (models : List Design) (library : Table) (table : List ℕ) (inside : Bool) (is : List Item) → Finds models library
    → capped (sum (map (work_in (place_in library) table inside) is)) ≡ work_by models table inside is
works_same models library table inside is f =
    ap (λ v. capped (sum v)) (map_same (work_in (place_in library) table inside) (item_work models table inside) is (λ i at. work_same models library table inside i f))

settled_at : (models : List Design) (done : List ℕ) (k : ℕ) → Settled models done → k < length done → ArePlacedIn models (items_at models (get_or done k 0)) (drop (k + 1) done)
settled_at models [] k s lt = absurd (omega (arith, lt))
settled_at models (d ∷ done) zero s lt = s.0
settled_at models (d ∷ done) (suc k) s lt =
    let next : suc (k + 1) ≡ suc k + 1 = omega arith in
    subst (λ v. ArePlacedIn models (items_at models (get_or done k 0)) (drop v (d ∷ done))) next (settled_at models done k s.1 (omega (arith, lt)))

-- one model more
pub works_step : (models : List Design) (table done : List ℕ) (count p w : ℕ) → HasWorks models table (drop (length done - count) done) → count < length done → p ≡ get_or done (length done - 1 - count) 0
    → length table ≡ length models → All (λ k. k < length models) done → Settled models done → w ≡ work_by models table true (items_at models p)
    → HasWorks models (set table p w) (drop (length done - (count + 1)) done)
works_step models table done count p w works lt is long within settled work =
    let k = length done - 1 - count in
    let inside : k < length done = omega (arith, lt) in
    let after : k + 1 ≡ length done - count = omega (arith, lt) in
    let here : length done - (count + 1) ≡ k = omega (arith, lt) in
    let split : drop (length done - (count + 1)) done ≡ p ∷ drop (length done - count) done =
    ap (λ v. drop v done) here ∙ rest_at done k p inside (is ∙ get_any done k 0 p inside) ∙ ap (λ v. p ∷ drop v done) after in
    let placed : ArePlacedIn models (items_at models p) (drop (length done - count) done) =
    subst (λ v. ArePlacedIn models (items_at models v) (drop (length done - count) done)) (sym is)
    (subst (λ v. ArePlacedIn models (items_at models (get_or done k 0)) (drop v done)) after (settled_at models done k settled inside)) in
    let fits : p < length models = subst (λ v. v < length models) (sym is) (All-get_or (λ v. v < length models) done k 0 inside within) in
    subst (HasWorks models (set table p w)) (sym split)
    (subst (λ v. HasWorks models (set table p v) (p ∷ drop (length done - count) done)) (sym work)
    (table_grows models table (drop (length done - count) done) p works placed (omega (arith, fits, long))))

pub no_works : (models : List Design) (table done : List ℕ) → HasWorks models table (drop (length done) done)
no_works models table done = record { is = λ i t h u. absurd (none done i h) }
  where
    none : (done : List ℕ) (i : ℕ) → has nat_eq (drop (length done) done) i ≡ true → ⊥
    none [] i h = let bad : false ≡ true = h in cc
    none (d ∷ done) i h = none done i h
