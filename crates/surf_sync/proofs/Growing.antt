-- Texts that are numbered one after another.
use Rattle.std.specs.Prelude.{slice_get, if◌then◌else◌}
use Rattle.std.specs.List.{list_any}
use Rattle.std.specs.Str.{bytes_eq}
use Rattle.std.proofs.Common.{◌≡◌, ℕ, ◌+◌, ◌≤◌, Bool, true, false, List, [], ◌∷◌, ◌++◌, map, length, length-append, Some, append_assoc, append-nil, sym, refl, ap, ◌∙◌, subst, arith}
use Rattle.std.proofs.lemmas.List.{map-append}
use Rattle.std.proofs.lemmas.Option.{slice_get_within}
use Rattle.surf_rules.specs.Names.{with_text}
use Rattle.surf_sync.specs.Listing.{with_texts, Keeps, Name, Numbers}
use Rattle.surf_sync.proofs.Members.{get-append_left}

pub keeps_same : (old : List (List ℕ)) → Keeps old old
keeps_same old k t h = h

pub keeps_then : (a b c : List (List ℕ)) → Keeps a b → Keeps b c → Keeps a c
keeps_then a b c h g k t e = g k t (h k t e)

keeps_end : (old : List (List ℕ)) (t : List ℕ) → Keeps old (old ++ t ∷ [])
keeps_end old t k u e = get-append_left old (t ∷ []) k (slice_get_within old k u e) ∙ e

keeps_if : (b : Bool) (old : List (List ℕ)) (t : List ℕ) → Keeps old (if b then old else old ++ t ∷ [])
keeps_if true old t = keeps_same old
keeps_if false old t = keeps_end old t

pub keeps_with : (old : List (List ℕ)) (t : List ℕ) → Keeps old (with_text old t)
keeps_with old t = keeps_if (list_any (bytes_eq t) old) old t

pub keeps_all : (old ts : List (List ℕ)) → Keeps old (with_texts old ts)
keeps_all old [] = keeps_same old
keeps_all old (t ∷ ts) = keeps_then old (with_text old t) (with_texts (with_text old t) ts) (keeps_with old t) (keeps_all (with_text old t) ts)

few_if : (b : Bool) (old : List (List ℕ)) (t : List ℕ) → length (if b then old else old ++ t ∷ []) ≤ length old + 1
few_if true old t = omega arith
few_if false old t = omega (arith, length-append old (t ∷ []))

pub few_all : (old ts : List (List ℕ)) → length (with_texts old ts) ≤ length old + length ts
few_all old [] = omega arith
few_all old (t ∷ ts) = omega (arith, few_all (with_text old t) ts, few_if (list_any (bytes_eq t) old) old t)

with_texts-append : (old xs ys : List (List ℕ)) → with_texts old (xs ++ ys) ≡ with_texts (with_texts old xs) ys
with_texts-append old [] ys = refl
with_texts-append old (x ∷ xs) ys = with_texts-append (with_text old x) xs ys

-- numbers keep their texts as names are added
pub name_kept : (old new : List (List ℕ)) → Keeps old new → (numbers : List ℕ) (ts : List (List ℕ)) → Name old numbers ts → Name new numbers ts
name_kept old new keeps [] [] e = refl
name_kept old new keeps [] (t ∷ ts) e = absurd cc
name_kept old new keeps (n ∷ ns) [] e = absurd cc
name_kept old new keeps (n ∷ ns) (t ∷ ts) e =
    let h : slice_get old n ≡ Some t = cc in
    let r : map (slice_get old) ns ≡ map Some ts = cc in
    ap (λ x. x ∷ map (slice_get new) ns) (keeps n t h) ∙ ap (λ xs. Some t ∷ xs) (name_kept old new keeps ns ts r)

pub numbers_none : (names : List (List ℕ)) (numbers : List ℕ) → Numbers names numbers [] names numbers
numbers_none names numbers = record { names = refl; numbers = λ known e. subst (Name names numbers) (sym (append-nil known)) e }

pub numbers_then : (a : List (List ℕ)) (b : List ℕ) (xs : List (List ℕ)) (c : List (List ℕ)) (d : List ℕ) (ys : List (List ℕ)) (e : List (List ℕ)) (f : List ℕ) → Numbers a b xs c d → Numbers c d ys e f → Numbers a b (xs ++ ys) e f
numbers_then a b xs c d ys e f m n = record {
  names = n.names ∙ ap (λ old. with_texts old ys) m.names ∙ sym (with_texts-append a xs ys);
  numbers = λ known h. subst (Name e f) (append_assoc known xs ys) (n.numbers (known ++ xs) (m.numbers known h));
}

pub numbers_one : (old : List (List ℕ)) (before : List ℕ) (t : List ℕ) (new : List (List ℕ)) (after : List ℕ) (k : ℕ) → new ≡ with_text old t → slice_get new k ≡ Some t → after ≡ before ++ k ∷ [] → Numbers old before (t ∷ []) new after
numbers_one old before t new after k grown found pushed = record {
  names = grown;
  numbers = λ known h.
      ap (map (slice_get new)) pushed
      ∙ map-append (slice_get new) before (k ∷ [])
      ∙ ap (λ xs. xs ++ slice_get new k ∷ []) (name_kept old new (subst (Keeps old) (sym grown) (keeps_with old t)) before known h)
      ∙ ap (λ x. map Some known ++ x ∷ []) found
      ∙ sym (map-append Some known (t ∷ []));
}

pub numbers_few : (a : List (List ℕ)) (b : List ℕ) (ts : List (List ℕ)) (c : List (List ℕ)) (d : List ℕ) → Numbers a b ts c d → length c ≤ length a + length ts
numbers_few a b ts c d n = subst (λ new. length new ≤ length a + length ts) (sym n.names) (few_all a ts)

-- one turn more
pub numbers_more : (a : List (List ℕ)) (b : List ℕ) (xs ys zs : List (List ℕ)) (c : List (List ℕ)) (d : List ℕ) (e : List (List ℕ)) (f : List ℕ) → Numbers a b xs c d → Numbers c d ys e f → zs ≡ xs ++ ys → Numbers a b zs e f
numbers_more a b xs ys zs c d e f m n is = subst (λ ts. Numbers a b ts e f) (sym is) (numbers_then a b xs c d ys e f m n)

pub numbers_push : (a : List (List ℕ)) (b : List ℕ) (xs zs : List (List ℕ)) (c : List (List ℕ)) (d : List ℕ) (t u : List ℕ) (e : List (List ℕ)) (f : List ℕ) → Numbers a b xs c d → Numbers c d (t ∷ []) e f → t ≡ u → zs ≡ xs ++ u ∷ [] → Numbers a b zs e f
numbers_push a b xs zs c d t u e f m n same is = numbers_more a b xs (t ∷ []) zs c d e f m n (is ∙ ap (λ v. xs ++ v ∷ []) (sym same))
