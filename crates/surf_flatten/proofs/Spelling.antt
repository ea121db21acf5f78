-- Placed signals have names of their own.
use Rattle.std.proofs.Common.{ℕ, ◌≡◌, ◌<◌, ◌^◌, ◌⊎◌, inl, Bool, true, false, not, ◌==◌, List, [], ◌∷◌, ◌++◌, refl, sym, ◌∙◌, ap, ⊎_elim, arith, Some, None, if◌then◌else◌}
use Rattle.std.specs.Prelude.{decimal}
use Rattle.std.specs.List.{All}
use Rattle.std.specs.Str.Parse.{AllDigits}
use Rattle.std.proofs.lemmas.Bool.{cases_Bool, and_parts, and_from, eqb-true, eq-eqb, false≢true}
use Rattle.std.proofs.lemmas.Str.Parse.{digit_from_value}
use Rattle.std.proofs.lemmas.Fmt.{decimal_is_IsNumeral, decimal_injective}
use Rattle.std.proofs.lemmas.List.Elements.{All-head, All-tail}
use Rattle.surf_text.specs.Bytes.{before, after, lacks}
use Rattle.surf_flatten.specs.Substituted.{Signal, way_text, below_way, spelled}
use Rattle.surf_flatten.specs.Laws.{IsShort}

same_byte : (c : ℕ) → (c == c) ≡ true
same_byte c = eq-eqb c c refl

not_true : (b : Bool) → not b ≡ true → b ≡ false
not_true true e = absurd (false≢true e)
not_true false e = refl

before_at : (c : ℕ) (xs ys : List ℕ) → lacks c xs ≡ true → before c (xs ++ c ∷ ys) ≡ xs
before_at c [] ys l = ap (λ b. if b then [] else c ∷ before c ys) (same_byte c)
before_at c (x ∷ xs) ys l =
    let h = and_parts _ _ l in
    ap (λ b. if b then [] else x ∷ before c (xs ++ c ∷ ys)) (not_true _ h.0) ∙ ap (λ v. x ∷ v) (before_at c xs ys h.1)

after_at : (c : ℕ) (xs ys : List ℕ) → lacks c xs ≡ true → after c (xs ++ c ∷ ys) ≡ Some ys
after_at c [] ys l = ap (λ b. if b then Some ys else after c ys) (same_byte c)
after_at c (x ∷ xs) ys l =
    let h = and_parts _ _ l in
    ap (λ b. if b then Some (xs ++ c ∷ ys) else after c (xs ++ c ∷ ys)) (not_true _ h.0) ∙ after_at c xs ys h.1

after_none : (c : ℕ) (xs : List ℕ) → lacks c xs ≡ true → after c xs ≡ None
after_none c [] l = refl
after_none c (x ∷ xs) l = let h = and_parts _ _ l in ap (λ b. if b then Some xs else after c xs) (not_true _ h.0) ∙ after_none c xs h.1

-- where a byte first stands, both sides are the same
pub cut_same : (c : ℕ) (xs ys us vs : List ℕ) → lacks c xs ≡ true → lacks c ys ≡ true → xs ++ c ∷ us ≡ ys ++ c ∷ vs → (xs ≡ ys) × (us ≡ vs)
cut_same c xs ys us vs lx ly e =
    let one : xs ≡ ys = sym (before_at c xs us lx) ∙ ap (before c) e ∙ before_at c ys vs ly in
    let two : Some us ≡ Some vs = sym (after_at c xs us lx) ∙ ap (after c) e ∙ after_at c ys vs ly in
    (one, cc)

pub cut_never : (c : ℕ) (xs ys us : List ℕ) → lacks c xs ≡ true → lacks c ys ≡ true → xs ≡ ys ++ c ∷ us → ⊥
cut_never c xs ys us lx ly e =
    let bad : None ≡ Some us = sym (after_none c xs lx) ∙ ap (after c) e ∙ after_at c ys us ly in
    cc

pub lacks_more : (c : ℕ) (xs ys : List ℕ) → lacks c xs ≡ true → lacks c ys ≡ true → lacks c (xs ++ ys) ≡ true
lacks_more c [] ys lx ly = ly
lacks_more c (x ∷ xs) ys lx ly = let h = and_parts _ _ lx in and_from _ _ h.0 (lacks_more c xs ys h.1 ly)

pub digits_lack : (c : ℕ) (ds : List ℕ) → (c < 48) ⊎ (57 < c) → AllDigits 10 ds → lacks c ds ≡ true
digits_lack c [] below a = refl
digits_lack c (d ∷ ds) below a = and_from _ _ (here (cases_Bool (d == c))) (digits_lack c ds below a.1)
  where
    here : ((d == c) ≡ true) ⊎ ((d == c) ≡ false) → not (d == c) ≡ true
    here s = ⊎_elim (λ t. absurd (⊎_elim (λ l. omega (arith, eqb-true d c t, digit_from_value d a.0)) (λ h. omega (arith, eqb-true d c t, digit_from_value d a.0)) below)) (λ f. ap not f) s

pub decimal_lacks : (c n : ℕ) → (c < 48) ⊎ (57 < c) → n < 2 ^ 64 → lacks c (decimal n) ≡ true
decimal_lacks c n below h = digits_lack c (decimal n) below (decimal_is_IsNumeral n h).0.1

way_lacks : (ks : List ℕ) → All (λ k. k < 2 ^ 64) ks → lacks 32 (way_text ks) ≡ true
way_lacks [] a = refl
way_lacks (k ∷ []) a = decimal_lacks 32 k (inl (omega arith)) (All-head (λ k. k < 2 ^ 64) k [] a)
way_lacks (k ∷ l ∷ ls) a =
    lacks_more 32 (decimal k) (46 ∷ way_text (l ∷ ls)) (decimal_lacks 32 k (inl (omega arith)) (All-head (λ k. k < 2 ^ 64) k (l ∷ ls) a)) (way_lacks (l ∷ ls) (All-tail (λ k. k < 2 ^ 64) k (l ∷ ls) a))

way_same : (ks ls : List ℕ) → All (λ k. k < 2 ^ 64) ks → All (λ k. k < 2 ^ 64) ls → (k l : ℕ) → k < 2 ^ 64 → l < 2 ^ 64 → way_text (k ∷ ks) ≡ way_text (l ∷ ls) → k ∷ ks ≡ l ∷ ls
way_same [] [] a b k l p q e = ap (λ v. v ∷ []) (decimal_injective k l p q e)
way_same [] (m ∷ ls) a b k l p q e = absurd (cut_never 46 (decimal k) (decimal l) (way_text (m ∷ ls)) (decimal_lacks 46 k (inl (omega arith)) p) (decimal_lacks 46 l (inl (omega arith)) q) e)
way_same (j ∷ ks) [] a b k l p q e = absurd (cut_never 46 (decimal l) (decimal k) (way_text (j ∷ ks)) (decimal_lacks 46 l (inl (omega arith)) q) (decimal_lacks 46 k (inl (omega arith)) p) (sym e))
way_same (j ∷ ks) (m ∷ ls) a b k l p q e =
    let c = cut_same 46 (decimal k) (decimal l) (way_text (j ∷ ks)) (way_text (m ∷ ls)) (decimal_lacks 46 k (inl (omega arith)) p) (decimal_lacks 46 l (inl (omega arith)) q) e in
    let here : k ≡ l = decimal_injective k l p q c.0 in
    let rest : j ∷ ks ≡ m ∷ ls = way_same ks ls (All-tail (λ k. k < 2 ^ 64) j ks a) (All-tail (λ k. k < 2 ^ 64) m ls b) j m (All-head (λ k. k < 2 ^ 64) j ks a) (All-head (λ k. k < 2 ^ 64) m ls b) c.1 in
    cc

below_same : (ks ls s t : List ℕ) → All (λ k. k < 2 ^ 64) ks → All (λ k. k < 2 ^ 64) ls → lacks 32 s ≡ true → lacks 32 t ≡ true → below_way ks s ≡ below_way ls t → (ks ≡ ls) × (s ≡ t)
below_same [] [] s t a b x y e = (refl, e)
below_same [] (l ∷ ls) s t a b x y e = absurd (cut_never 32 s (way_text (l ∷ ls)) t x (way_lacks (l ∷ ls) b) e)
below_same (k ∷ ks) [] s t a b x y e = absurd (cut_never 32 t (way_text (k ∷ ks)) s y (way_lacks (k ∷ ks) a) (sym e))
below_same (k ∷ ks) (l ∷ ls) s t a b x y e =
    let c = cut_same 32 (way_text (k ∷ ks)) (way_text (l ∷ ls)) s t (way_lacks (k ∷ ks) a) (way_lacks (l ∷ ls) b) e in
    (way_same ks ls (All-tail (λ k. k < 2 ^ 64) k ks a) (All-tail (λ k. k < 2 ^ 64) l ls b) k l (All-head (λ k. k < 2 ^ 64) k ks a) (All-head (λ k. k < 2 ^ 64) l ls b) c.0, c.1)

pub names_differ : (a b : Signal) → lacks 32 a.name ≡ true → lacks 32 b.name ≡ true → IsShort a → IsShort b → spelled a ≡ spelled b → a ≡ b
names_differ a b x y p q e =
    let c = below_same a.path b.path a.name b.name p q x y e in
    let here : a.path ≡ b.path = c.0 in
    let there : a.name ≡ b.name = c.1 in
    ap (λ (v : List ℕ). record { path = v; name = a.name }) here ∙ ap (λ (v : List ℕ). record { path = b.path; name = v }) there
