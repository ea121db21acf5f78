-- Places that are listed one after another.
use Rattle.std.proofs.Common.{ℕ, ◌≡◌, ◌+◌, ◌<◌, List, [], ◌∷◌, ◌++◌, map, length, take, get_or, slice_get, Some, refl, sym, ◌∙◌, ap, arith}
use Rattle.std.proofs.lemmas.List.{length-map, length-take-le, take_more}
use Rattle.std.proofs.lemmas.Option.{get_or_from_slice_get}
use Rattle.surf_lattice.specs.declared.site.Site.{Site}
use Rattle.surf_rules.specs.Names.{text_of}
use Rattle.surf_manifest_print.specs.declared.legend.Place.{Place}
use Rattle.surf_circuit.specs.Surfaces.{places}

mapped_more : (f : ℕ → List ℕ) (xs : List ℕ) (x : ℕ) → map f (xs ++ x ∷ []) ≡ map f xs ++ f x ∷ []
mapped_more f [] x = refl
mapped_more f (y ∷ ys) x = ap (λ v. f y ∷ v) (mapped_more f ys x)

places_more : (ns : List (List ℕ)) (ss : List Site) (n : List ℕ) (s : Site) → length ns ≡ length ss → places (ns ++ n ∷ []) (ss ++ s ∷ []) ≡ places ns ss ++ record { name = n; site = s } ∷ []
places_more [] [] n s e = refl
places_more [] (t ∷ ss) n s e = absurd (omega (arith, e))
places_more (m ∷ ns) [] n s e = absurd (omega (arith, e))
places_more (m ∷ ns) (t ∷ ss) n s e = ap (λ v. record { name = m; site = t } ∷ v) (places_more ns ss n s (omega (arith, e)))

-- one more name and its site
pub listed_more : (texts : List (List ℕ)) (names : List ℕ) (sites : List Site) (i k : ℕ) (s : Site) (found new : List Place)
    → i < length names → length names ≡ length sites → k ≡ get_or names i 0 → slice_get sites i ≡ Some s
    → found ≡ places (map (text_of texts) (take i names)) (take i sites) → new ≡ found ++ record { name = text_of texts k; site = s } ∷ []
    → new ≡ places (map (text_of texts) (take (i + 1) names)) (take (i + 1) sites)
listed_more texts names sites i k s found new lt same is at before now =
    let within : i < length sites = omega (arith, lt, same) in
    let some_names : take (i + 1) names ≡ take i names ++ k ∷ [] = take_more names i 0 lt ∙ ap (λ v. take i names ++ v ∷ []) (sym is) in
    let some_sites : take (i + 1) sites ≡ take i sites ++ s ∷ [] = take_more sites i s within ∙ ap (λ v. take i sites ++ v ∷ []) (get_or_from_slice_get sites i s s at) in
    let long : length (map (text_of texts) (take i names)) ≡ length (take i sites) =
    length-map (take i names) (text_of texts) ∙ (length-take-le i names (omega (arith, lt)) ∙ sym (length-take-le i sites (omega (arith, within)))) in
    now
    ∙ (ap (λ v. v ++ record { name = text_of texts k; site = s } ∷ []) before
    ∙ (sym (places_more (map (text_of texts) (take i names)) (take i sites) (text_of texts k) s long)
    ∙ (ap (λ v. places v (take i sites ++ s ∷ [])) (sym (mapped_more (text_of texts) (take i names) k))
    ∙ (ap (λ v. places (map (text_of texts) v) (take i sites ++ s ∷ [])) (sym some_names) ∙ ap (places (map (text_of texts) (take (i + 1) names))) (sym some_sites)))))
