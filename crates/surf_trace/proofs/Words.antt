-- Words with one blank between them, as a line that is read.
use Rattle.std.proofs.Common.{ℕ, ◌≡◌, ◌<◌, List, [], ◌∷◌, ◌++◌, filter, refl, sym, ◌∙◌, ap, arith, Bool, true, false, not, ◌&&◌, ◌==◌, nat_le, append-nil}
use Rattle.std.specs.List.{list_all, slice_split}
use Rattle.std.proofs.lemmas.Bool.{and_parts, not-true, ne_eqb, leb-true}
use Rattle.std.proofs.lemmas.List.Folds.{list_all-append}
use Rattle.surf_text.specs.Bytes.{lines_of, is_blank, is_filled, tokens_of, trimmed, without_front, without_end, unless_last, is_plain, is_word, lacks, spaced}

pub both : (a b : Bool) → a ≡ true → b ≡ true → (a && b) ≡ true
both a b p q = rw (p, q) refl

pub line_first : (t rest : List ℕ) → lacks 10 t ≡ true → lines_of (t ++ 10 ∷ rest) ≡ t ∷ lines_of rest
line_first [] rest h = refl
line_first (b ∷ bs) rest h =
    let p = and_parts (not (b == 10)) (lacks 10 bs) h in
    rw (not-true (b == 10) p.0, line_first bs rest p.1) refl

-- words
plain_not : (c b : ℕ) → c < 33 → is_plain b ≡ true → (b == c) ≡ false
plain_not c b small h =
    let p = and_parts (nat_le 33 b) (nat_le b 126) h in
    ne_eqb b c (λ e. absurd (omega (arith, leb-true 33 b p.0, e)))

plain_filled : (b : ℕ) → is_plain b ≡ true → is_blank b ≡ false
plain_filled b h = rw (plain_not 32 b (omega arith) h, plain_not 9 b (omega arith) h, plain_not 13 b (omega arith) h) refl

plain_lacks : (t : List ℕ) → list_all is_plain t ≡ true → lacks 10 t ≡ true
plain_lacks [] h = refl
plain_lacks (b ∷ bs) h =
    let p = and_parts (is_plain b) (list_all is_plain bs) h in
    rw (plain_not 10 b (omega arith) p.0, plain_lacks bs p.1) refl

word_plain : (xs : List ℕ) → is_word xs ≡ true → list_all is_plain xs ≡ true
word_plain xs h = (and_parts (is_filled xs) (list_all is_plain xs) h).1

word_filled : (xs : List ℕ) → is_word xs ≡ true → is_filled xs ≡ true
word_filled xs h = (and_parts (is_filled xs) (list_all is_plain xs) h).0

filled_more : (xs ys : List ℕ) → is_filled xs ≡ true → is_filled (xs ++ ys) ≡ true
filled_more [] ys h = cc
filled_more (x ∷ xs) ys h = refl

spaced_filled : (t : List ℕ) (ts : List (List ℕ)) → is_word t ≡ true → is_filled (spaced (t ∷ ts)) ≡ true
spaced_filled t [] h = word_filled t h
spaced_filled t (u ∷ ts) h = filled_more t (32 ∷ spaced (u ∷ ts)) (word_filled t h)

-- no blanks are at the ends
end_more : (xs ys : List ℕ) → is_filled ys ≡ true → without_end is_blank ys ≡ ys → without_end is_blank (xs ++ ys) ≡ xs ++ ys
end_more [] ys some h = h
end_more (x ∷ []) [] some h = cc
end_more (x ∷ []) (y ∷ ys) some h = ap (unless_last is_blank x) h
end_more (x ∷ z ∷ xs) ys some h = ap (unless_last is_blank x) (end_more (z ∷ xs) ys some h)

end_plain : (xs : List ℕ) → list_all is_plain xs ≡ true → without_end is_blank xs ≡ xs
end_plain [] h = refl
end_plain (x ∷ []) h = rw (plain_filled x (and_parts (is_plain x) true h).0) refl
end_plain (x ∷ y ∷ xs) h = ap (unless_last is_blank x) (end_plain (y ∷ xs) (and_parts (is_plain x) (list_all is_plain (y ∷ xs)) h).1)

spaced_end : (ts : List (List ℕ)) → list_all is_word ts ≡ true → without_end is_blank (spaced ts) ≡ spaced ts
spaced_end [] h = refl
spaced_end (t ∷ []) h = end_plain t (word_plain t (and_parts (is_word t) true h).0)
spaced_end (t ∷ u ∷ ts) h =
    let p = and_parts (is_word t) (list_all is_word (u ∷ ts)) h in
    let q = and_parts (is_word u) (list_all is_word ts) p.1 in
    end_more t (32 ∷ spaced (u ∷ ts)) refl (end_more (32 ∷ []) (spaced (u ∷ ts)) (spaced_filled u ts q.0) (spaced_end (u ∷ ts) p.1))

word_front : (xs ys : List ℕ) → is_word xs ≡ true → without_front is_blank (xs ++ ys) ≡ xs ++ ys
word_front [] ys h = cc
word_front (x ∷ xs) ys h = rw (plain_filled x (and_parts (is_plain x) (list_all is_plain xs) h).0) refl

spaced_front : (t : List ℕ) (ts : List (List ℕ)) → is_word t ≡ true → without_front is_blank (spaced (t ∷ ts)) ≡ spaced (t ∷ ts)
spaced_front t [] h = ap (without_front is_blank) (sym (append-nil t)) ∙ (word_front t [] h ∙ append-nil t)
spaced_front t (u ∷ ts) h = word_front t (32 ∷ spaced (u ∷ ts)) h

pub spaced_trimmed : (t : List ℕ) (ts : List (List ℕ)) → list_all is_word (t ∷ ts) ≡ true → trimmed (spaced (t ∷ ts)) ≡ spaced (t ∷ ts)
spaced_trimmed t ts h = ap (without_end is_blank) (spaced_front t ts (and_parts (is_word t) (list_all is_word ts) h).0) ∙ spaced_end (t ∷ ts) h

-- the text is one line
pub spaced_line : (ts : List (List ℕ)) → list_all is_word ts ≡ true → lacks 10 (spaced ts) ≡ true
spaced_line [] h = refl
spaced_line (t ∷ []) h = plain_lacks t (word_plain t (and_parts (is_word t) true h).0)
spaced_line (t ∷ u ∷ ts) h =
    let p = and_parts (is_word t) (list_all is_word (u ∷ ts)) h in
    list_all-append (λ b. not (b == 10)) t (32 ∷ spaced (u ∷ ts)) ∙ both (lacks 10 t) (lacks 10 (spaced (u ∷ ts))) (plain_lacks t (word_plain t p.0)) (spaced_line (u ∷ ts) p.1)

-- and its tokens are the words
split_word : (xs ys : List ℕ) → list_all is_plain xs ≡ true → slice_split is_blank (xs ++ 32 ∷ ys) ≡ xs ∷ slice_split is_blank ys
split_word [] ys h = refl
split_word (x ∷ xs) ys h =
    let p = and_parts (is_plain x) (list_all is_plain xs) h in
    rw (plain_filled x p.0, split_word xs ys p.1) refl

split_last : (xs : List ℕ) → list_all is_plain xs ≡ true → slice_split is_blank xs ≡ xs ∷ []
split_last [] h = refl
split_last (x ∷ xs) h =
    let p = and_parts (is_plain x) (list_all is_plain xs) h in
    rw (plain_filled x p.0, split_last xs p.1) refl

filled_first : (x : List ℕ) (xs : List (List ℕ)) → is_filled x ≡ true → filter is_filled (x ∷ xs) ≡ x ∷ filter is_filled xs
filled_first x xs h = rw h refl

pub spaced_tokens : (ts : List (List ℕ)) → list_all is_word ts ≡ true → tokens_of (spaced ts) ≡ ts
spaced_tokens [] h = refl
spaced_tokens (t ∷ []) h =
    let w = (and_parts (is_word t) true h).0 in
    ap (filter is_filled) (split_last t (word_plain t w)) ∙ filled_first t [] (word_filled t w)
spaced_tokens (t ∷ u ∷ ts) h =
    let p = and_parts (is_word t) (list_all is_word (u ∷ ts)) h in
    ap (filter is_filled) (split_word t (spaced (u ∷ ts)) (word_plain t p.0))
    ∙ (filled_first t (slice_split is_blank (spaced (u ∷ ts))) (word_filled t p.0) ∙ ap (λ v. t ∷ v) (spaced_tokens (u ∷ ts) p.1))
