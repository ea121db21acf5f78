-- The rules of a phase, one loop for each factor.
use Rattle.std.specs.Prelude.{slice_get}
use Rattle.std.specs.List.{flat_map}
use Rattle.std.proofs.Common.{◌≡◌, ℕ, suc, ◌+◌, ◌*◌, ◌<◌, List, [], ◌∷◌, ◌++◌, map, length, take, get_or, append-nil, refl, sym, ap, ◌∙◌, subst}
use Rattle.std.specs.Option.{option_map}
use Rattle.std.proofs.lemmas.List.{take_more}
use Rattle.std.proofs.lemmas.Grind.{flat_map-append}
use Rattle.std.proofs.lemmas.Option.{slice_get-map}
use Rattle.surf_auto.specs.Locals.{preceding}
use Rattle.surf_sync.specs.declared.code.Code.{Code}
use Rattle.surf_sync.specs.Codes.{Protocol, IsCode}
use Rattle.surf_sync.specs.Moved.{moved}
use Rattle.surf_sync.specs.Phases.{AreListed, colour_rules, current_rules, row_rules, turn_rules}
use Rattle.surf_sync.specs.Rules.{below, code_of, places_of, readers_of, rules_of, turns_of}
use Rattle.surf_sync.specs.Shapes.{by_previous, by_reads}
use Rattle.surf_sync.proofs.Listed.{listed_at, place_has}
use Rattle.surf_sync.proofs.Loops.{flat_same, map_flat, map_map, place_codes}
use Rattle.surf_sync.proofs.Members.{Has, flat_has, map_has, below_has}

pub flat_flat : {X Y Z : Type 0} (g : Y → List Z) (h : X → List Y) (xs : List X) → flat_map g (flat_map h xs) ≡ flat_map (λ x. flat_map g (h x)) xs
flat_flat g h [] = refl
flat_flat g h (x ∷ xs) = flat_map-append g (h x) (flat_map h xs) ∙ ap (λ ys. flat_map g (h x) ++ ys) (flat_flat g h xs)

flat_of_map : {X Y Z : Type 0} (g : Y → List Z) (h : X → Y) (xs : List X) → flat_map g (map h xs) ≡ flat_map (λ x. g (h x)) xs
flat_of_map g h [] = refl
flat_of_map g h (x ∷ xs) = ap (λ ys. g (h x) ++ ys) (flat_of_map g h xs)

pub flat_take_more : {X Y : Type 0} (f : X → List Y) (xs : List X) (i : ℕ) (d : X) → i < length xs → flat_map f (take (i + 1) xs) ≡ flat_map f (take i xs) ++ f (get_or xs i d)
flat_take_more f xs i d h =
    ap (flat_map f) (take_more xs i d h) ∙ flat_map-append f (take i xs) (get_or xs i d ∷ []) ∙ ap (λ ys. flat_map f (take i xs) ++ ys) (append-nil (f (get_or xs i d)))

-- a row at a generation and colour
moved_row : (P : Protocol) (f g k current : ℕ) → map (moved g k) (by_previous P.rule f current) ≡ flat_map (λ previous. map (code_of current g k previous) (places_of P f)) (below (P.rule.states (preceding P.rule.phases f)))
moved_row P f g k current =
    map_flat (moved g k) (by_reads P.rule f current) (below (P.rule.states (preceding P.rule.phases f)))
    ∙ flat_same _ _ (λ previous. ap (map (moved g k)) (sym (place_codes P f current previous)) ∙ map_map (moved g k) (code_of current 0 0 previous) (places_of P f)) (below (P.rule.states (preceding P.rule.phases f)))

row_is : (P : Protocol) (f g k current : ℕ) → flat_map (rules_of P f) (flat_map (λ previous. map (code_of current g k previous) (places_of P f)) (below (P.rule.states (preceding P.rule.phases f)))) ≡ row_rules P f (by_previous P.rule f current) g k
row_is P f g k current = ap (flat_map (rules_of P f)) (sym (moved_row P f g k current)) ∙ flat_of_map (rules_of P f) (moved g k) (by_previous P.rule f current)

-- the loops make the rules of the readers of a phase
pub phase_is : (P : Protocol) (f : ℕ) → flat_map (rules_of P f) (readers_of P f) ≡ current_rules P f
phase_is P f =
    let row : ℕ → ℕ → ℕ → List Code = λ current g k. flat_map (λ previous. map (code_of current g k previous) (places_of P f)) (below (P.rule.states (preceding P.rule.phases f))) in
    let by_colour : ℕ → ℕ → List Code = λ current turn. flat_map (row current (turn * P.rule.phases + f)) (below (suc P.rule.degree)) in
    let by_turn : ℕ → List Code = λ current. flat_map (by_colour current) (below (turns_of P)) in
    flat_flat (rules_of P f) by_turn (below (P.rule.states f))
    ∙ flat_same (λ current. flat_map (rules_of P f) (by_turn current)) (λ current. turn_rules P f (by_previous P.rule f current)) (λ current.
    flat_flat (rules_of P f) (by_colour current) (below (turns_of P))
    ∙ flat_same (λ turn. flat_map (rules_of P f) (by_colour current turn)) (λ turn. colour_rules P f (by_previous P.rule f current) (turn * P.rule.phases + f)) (λ turn.
    flat_flat (rules_of P f) (row current (turn * P.rule.phases + f)) (below (suc P.rule.degree))
    ∙ flat_same (λ k. flat_map (rules_of P f) (row current (turn * P.rule.phases + f) k)) (row_rules P f (by_previous P.rule f current) (turn * P.rule.phases + f)) (λ k. row_is P f (turn * P.rule.phases + f) k current) (below (suc P.rule.degree))) (below (turns_of P))) (below (P.rule.states f))

-- the codes of a row are listed
pub row_listed : (P : Protocol) (f current : ℕ) → current < P.rule.states f → AreListed P f (by_previous P.rule f current)
row_listed P f current cw g k i c gw phase kw at =
    let row : ℕ → List Code = λ previous. map (code_of current g k previous) (places_of P f) in
    let there : Has (flat_map row (below (P.rule.states (preceding P.rule.phases f)))) (moved g k c) =
    (i, ap (λ xs. slice_get xs i) (sym (moved_row P f g k current)) ∙ (slice_get-map (moved g k) (by_previous P.rule f current) i ∙ ap (option_map (moved g k)) at)) in
    let v = flat_has row (below (P.rule.states (preceding P.rule.phases f))) (moved g k c) there in
    let w = map_has (code_of current g k v.0) (places_of P f) (moved g k c) v.2 in
    subst (IsCode P.rule P.last) {x = code_of current g k v.0 w.0} (sym w.2)
    (listed_at P f current g k v.0 w.0 gw phase cw kw (below_has (P.rule.states (preceding P.rule.phases f)) v.0 v.1) (place_has P f w.0 w.1))
