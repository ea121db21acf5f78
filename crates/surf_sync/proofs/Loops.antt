-- One turn more of a loop that adds to a list.
use Rattle.std.specs.List.{flat_map}
use Rattle.std.proofs.Common.{◌≡◌, ℕ, ◌+◌, List, [], ◌∷◌, ◌++◌, map, append_assoc, append-nil, sym, refl, ap, ◌∙◌, arith}
use Rattle.std.proofs.lemmas.List.{map-append}
use Rattle.std.proofs.lemmas.List.FromFn.{map-range_with_len_more}
use Rattle.std.proofs.lemmas.Grind.{flat_map-append}
use Rattle.surf_sync.specs.Codes.{Protocol}
use Rattle.surf_sync.specs.Rules.{below, Place, places_of, code_of, codes_of}
use Rattle.surf_sync.specs.Shapes.{by_acc, by_reads, by_previous}

pub map_more : {Y : Type 0} (f : ℕ → Y) (bs : List Y) (n : ℕ) → bs ++ map f (below (n + 1)) ≡ (bs ++ map f (below n)) ++ f n ∷ []
map_more f bs n = ap (λ ys. bs ++ ys) (map-range_with_len_more f 0 n n (omega arith)) ∙ sym (append_assoc bs (map f (below n)) (f n ∷ []))

pub map_one_more : {Y : Type 0} (f : ℕ → Y) (n : ℕ) → map f (below (n + 1)) ≡ map f (below n) ++ f n ∷ []
map_one_more f n = map-range_with_len_more f 0 n n (omega arith)

same : (xs : List ℕ) → map (λ x. x) xs ≡ xs
same [] = refl
same (x ∷ xs) = ap (λ ys. x ∷ ys) (same xs)

pub range_more : (n : ℕ) → below (n + 1) ≡ below n ++ n ∷ []
range_more n = sym (same _) ∙ map-range_with_len_more (λ x. x) 0 n n (omega arith) ∙ ap (λ xs. xs ++ n ∷ []) (same _)

pub flat_one_more : {Y : Type 0} (f : ℕ → List Y) (n : ℕ) → flat_map f (below (n + 1)) ≡ flat_map f (below n) ++ f n
flat_one_more f n = ap (flat_map f) (range_more n) ∙ flat_map-append f (below n) (n ∷ []) ∙ ap (λ ys. flat_map f (below n) ++ ys) (append-nil (f n))

pub flat_more : {Y : Type 0} (f : ℕ → List Y) (bs : List Y) (n : ℕ) → bs ++ flat_map f (below (n + 1)) ≡ (bs ++ flat_map f (below n)) ++ f n
flat_more f bs n = ap (λ ys. bs ++ ys) (flat_one_more f n) ∙ sym (append_assoc bs (flat_map f (below n)) (f n))

-- ---- the loops make the listed codes

pub map_map : {X Y Z : Type 0} (g : Y → Z) (f : X → Y) (xs : List X) → map g (map f xs) ≡ map (λ x. g (f x)) xs
map_map g f [] = refl
map_map g f (x ∷ xs) = ap (λ ys. g (f x) ∷ ys) (map_map g f xs)

pub map_flat : {X Y Z : Type 0} (g : Y → Z) (h : X → List Y) (xs : List X) → map g (flat_map h xs) ≡ flat_map (λ x. map g (h x)) xs
map_flat g h [] = refl
map_flat g h (x ∷ xs) = map-append g (h x) (flat_map h xs) ∙ ap (λ ys. map g (h x) ++ ys) (map_flat g h xs)

pub flat_same : {X Y : Type 0} (f g : X → List Y) → ((x : X) → f x ≡ g x) → (xs : List X) → flat_map f xs ≡ flat_map g xs
flat_same f g h [] = refl
flat_same f g h (x ∷ xs) = ap (λ ys. ys ++ flat_map f xs) (h x) ∙ ap (λ ys. g x ++ ys) (flat_same f g h xs)

pub place_codes : (P : Protocol) (f current previous : ℕ) → map (code_of current 0 0 previous) (places_of P f) ≡ by_reads P.rule f current previous
place_codes P f current previous =
    map_flat (code_of current 0 0 previous) (λ r. map (λ (a : ℕ). let p : Place = record { reads = r; acc = a } in p) (below (P.rule.accs f r))) (below P.rule.degree)
    ∙ flat_same _ (by_acc P.rule f current previous) (λ r. map_map (code_of current 0 0 previous) (λ (a : ℕ). let p : Place = record { reads = r; acc = a } in p) (below (P.rule.accs f r))) (below P.rule.degree)

-- the codes of a phase
pub phase_codes : (P : Protocol) (f : ℕ) → flat_map (by_previous P.rule f) (below (P.rule.states f)) ≡ codes_of P f 0 0
phase_codes P f = flat_same (by_previous P.rule f) _ (λ current. flat_same (by_reads P.rule f current) _ (λ previous. sym (place_codes P f current previous)) _) (below (P.rule.states f))
