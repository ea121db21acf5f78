-- Drafts with a rule or a site more.
use Rattle.std.proofs.Common.{ℕ, zero, suc, ◌≡◌, ◌-◌, ◌<◌, ◌≤◌, nat_lt, if◌then◌else◌, List, [], ◌∷◌, ◌++◌, length, take, map, refl, sym, ◌∙◌, ap, arith, length-append}
use Rattle.std.proofs.lemmas.List.{length-map, map-append, take_all}
use Rattle.std.proofs.lemmas.Bool.{lt-ltb, le-ltb}
use Rattle.surf_rules.specs.Names.{text_of, with_text}
use Rattle.surf_rules.specs.declared.rule.Rule.{Rule}
use Rattle.surf_world.specs.Systems as systems
use Rattle.surf_manifest.specs.Drafts.{IsGrown, named_rule, RulesBelow, NamesBelow}
use Rattle.surf_manifest.specs.Naming.{with_texts}
use Rattle.surf_manifest.proofs.Growth.{rules_kept, names_kept}
use Rattle.surf_manifest.proofs.LimitLemmas.{take_nil}

pub take_full : {X : Type 0} (n : ℕ) (xs ys : List X) → length xs ≡ n → take n (xs ++ ys) ≡ xs
take_full zero [] ys e = refl
take_full zero (x ∷ xs) ys e = absurd (omega (arith, e))
take_full (suc n) [] ys e = absurd (omega (arith, e))
take_full (suc n) (x ∷ xs) ys e = ap (λ v. x ∷ v) (take_full n xs ys (omega (arith, e)))

pub rules_full : (f : Rule → systems.Rule (List ℕ)) (rs : List Rule) (t : systems.Rule (List ℕ)) → length rs ≤ 1048576 → 1048576 ≤ length rs
    → map f rs ≡ take 1048576 (map f rs ++ t ∷ [])
rules_full f rs t most least = sym (take_full 1048576 (map f rs) (t ∷ []) (length-map rs f ∙ (let e : length rs ≡ 1048576 = omega (arith, most, least) in e)))

pub rules_with : (n : ℕ) (a b : List (List ℕ)) (rs new : List Rule) (r : Rule) (t : systems.Rule (List ℕ)) → IsGrown n a b → RulesBelow (length a) rs → length rs < 1048576
    → new ≡ rs ++ r ∷ [] → named_rule b r ≡ t → map (named_rule b) new ≡ take 1048576 (map (named_rule a) rs ++ t ∷ [])
rules_with n a b rs new r t g h lt is named =
    let e : length (map (named_rule a) rs ++ t ∷ []) ≤ 1048576 = omega (arith, length-append (map (named_rule a) rs) (t ∷ []), length-map rs (named_rule a), lt) in
    ap (λ v. map (named_rule b) v) is
    ∙ map-append (named_rule b) rs (r ∷ [])
    ∙ (ap (λ v. v ++ named_rule b r ∷ []) (rules_kept n a b rs g h)
    ∙ (ap (λ v. map (named_rule a) rs ++ v ∷ []) named
    ∙ sym (take_all 1048576 (map (named_rule a) rs ++ t ∷ []) e)))

-- sites
pub sites_full : (a : List (List ℕ)) (ks : List ℕ) (t : List ℕ) → length ks ≤ 33554432 → 33554432 ≤ length ks
    → map (text_of a) ks ≡ take 33554432 (map (text_of a) ks ++ t ∷ [])
sites_full a ks t most least = sym (take_full 33554432 (map (text_of a) ks) (t ∷ []) (length-map ks (text_of a) ∙ (let e : length ks ≡ 33554432 = omega (arith, most, least) in e)))

pub sites_with : (n : ℕ) (a b : List (List ℕ)) (ks new : List ℕ) (k : ℕ) (t : List ℕ) → IsGrown n a b → NamesBelow (length a) ks → length ks < 33554432
    → new ≡ ks ++ k ∷ [] → text_of b k ≡ t → map (text_of b) new ≡ take 33554432 (map (text_of a) ks ++ t ∷ [])
sites_with n a b ks new k t g h lt is named =
    let e : length (map (text_of a) ks ++ t ∷ []) ≤ 33554432 = omega (arith, length-append (map (text_of a) ks) (t ∷ []), length-map ks (text_of a), lt) in
    ap (λ v. map (text_of b) v) is
    ∙ map-append (text_of b) ks (k ∷ [])
    ∙ (ap (λ v. v ++ text_of b k ∷ []) (names_kept n a b ks g h)
    ∙ (ap (λ v. map (text_of a) ks ++ v ∷ []) named
    ∙ sym (take_all 33554432 (map (text_of a) ks ++ t ∷ []) e)))

pub site_more : (a : List (List ℕ)) (ks new : List ℕ) (k : ℕ) → length ks < 33554432 → new ≡ ks ++ k ∷ [] → map (text_of a) new ≡ take 33554432 (map (text_of a) ks ++ text_of a k ∷ [])
site_more a ks new k lt is =
    let e : length (map (text_of a) ks ++ text_of a k ∷ []) ≤ 33554432 = omega (arith, length-append (map (text_of a) ks) (text_of a k ∷ []), length-map ks (text_of a), lt) in
    ap (λ v. map (text_of a) v) is ∙ (map-append (text_of a) ks (k ∷ []) ∙ sym (take_all 33554432 (map (text_of a) ks ++ text_of a k ∷ []) e))

-- the names of a rule or of a site more, where there is room, and where there is none
pub rule_named : (a b : List (List ℕ)) (f : Rule → systems.Rule (List ℕ)) (rs : List Rule) (ts : List (List ℕ)) → length rs < 1048576 → b ≡ with_texts a ts → b ≡ (if nat_lt (length (map f rs)) 1048576 then with_texts a ts else a)
rule_named a b f rs ts lt is = rw (length-map rs f, lt-ltb (length rs) 1048576 lt) is

pub rule_unnamed : (a : List (List ℕ)) (f : Rule → systems.Rule (List ℕ)) (rs : List Rule) (ts : List (List ℕ)) → 1048576 ≤ length rs → a ≡ (if nat_lt (length (map f rs)) 1048576 then with_texts a ts else a)
rule_unnamed a f rs ts le = rw (length-map rs f, le-ltb (length rs) 1048576 le) refl

take_some : (n : ℕ) (t : List ℕ) → 0 < n → take n (t ∷ []) ≡ t ∷ []
take_some zero t lt = absurd (omega (arith, lt))
take_some (suc n) t lt = ap (λ v. t ∷ v) (take_nil n [] refl)

pub site_named : (a b : List (List ℕ)) (f : ℕ → List ℕ) (ks : List ℕ) (t : List ℕ) → length ks < 33554432 → b ≡ with_text a t → b ≡ with_texts a (take (33554432 - length (map f ks)) (t ∷ []))
site_named a b f ks t lt is =
    is ∙ ap (λ v. with_texts a v) (sym (take_some (33554432 - length (map f ks)) t (omega (arith, length-map ks f, lt))))

pub site_unnamed : (a : List (List ℕ)) (f : ℕ → List ℕ) (ks : List ℕ) (t : List ℕ) → 33554432 ≤ length ks → a ≡ with_texts a (take (33554432 - length (map f ks)) (t ∷ []))
site_unnamed a f ks t le =
    let none : 33554432 - length (map f ks) ≡ 0 = omega (arith, length-map ks f, le) in
    ap (λ n. with_texts a (take n (t ∷ []))) (sym none)
