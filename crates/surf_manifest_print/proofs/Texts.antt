-- Lines, tokens and cuts of printed texts.
use Rattle.std.proofs.Common.{ℕ, ◌≡◌, ◌<◌, List, [], ◌∷◌, ◌++◌, filter, refl, sym, ◌∙◌, ap, arith, Bool, true, false, not, ◌&&◌, ◌||◌, ◌==◌, nat_le, if◌then◌else◌, append-nil}
use Rattle.std.specs.List.{list_all, slice_split}
use Rattle.std.proofs.lemmas.Bool.{and_parts, not-true, ne_eqb, leb-true}
use Rattle.std.proofs.lemmas.List.Folds.{list_all-append}
use Rattle.surf_text.specs.Bytes.{lines_of, is_blank, is_filled, tokens_of, without_front, without_end, unless_last, before, after, is_plain, is_word, lacks, ended, spaced}
use Rattle.surf_manifest_lines.specs.Line.{Skipped, Content, line_of, line_of_text, mark_of, is_comment_sign}
use Rattle.surf_manifest_lines.specs.WellFormed.{begins_content}

pub both : (a b : Bool) → a ≡ true → b ≡ true → (a && b) ≡ true
both a b p q = rw (p, q) refl

-- lines
pub line_first : (t rest : List ℕ) → lacks 10 t ≡ true → lines_of (t ++ 10 ∷ rest) ≡ t ∷ lines_of rest
line_first [] rest h = refl
line_first (b ∷ bs) rest h =
    let p = and_parts (not (b == 10)) (lacks 10 bs) h in
    rw (not-true (b == 10) p.0, line_first bs rest p.1) refl

pub lines_ended : (ts : List (List ℕ)) → list_all (lacks 10) ts ≡ true → lines_of (ended ts) ≡ ts
lines_ended [] h = refl
lines_ended (t ∷ ts) h =
    let p = and_parts (lacks 10 t) (list_all (lacks 10) ts) h in
    line_first t (ended ts) p.0 ∙ ap (λ v. t ∷ v) (lines_ended ts p.1)

-- plain bytes
plain_not : (c b : ℕ) → c < 33 → is_plain b ≡ true → (b == c) ≡ false
plain_not c b small h =
    let p = and_parts (nat_le 33 b) (nat_le b 126) h in
    ne_eqb b c (λ e. absurd (omega (arith, leb-true 33 b p.0, e)))

pub plain_filled : (b : ℕ) → is_plain b ≡ true → is_blank b ≡ false
plain_filled b h = rw (plain_not 32 b (omega arith) h, plain_not 9 b (omega arith) h, plain_not 13 b (omega arith) h) refl

pub plain_lacks : (c : ℕ) (t : List ℕ) → c < 33 → list_all is_plain t ≡ true → lacks c t ≡ true
plain_lacks c [] small h = refl
plain_lacks c (b ∷ bs) small h =
    let p = and_parts (is_plain b) (list_all is_plain bs) h in
    rw (plain_not c b small p.0, plain_lacks c bs small p.1) refl

pub lacks_more : (c : ℕ) (xs ys : List ℕ) → lacks c xs ≡ true → lacks c ys ≡ true → lacks c (xs ++ ys) ≡ true
lacks_more c xs ys p q = list_all-append (λ b. not (b == c)) xs ys ∙ both (lacks c xs) (lacks c ys) p q

-- blanks at the ends
pub end_more : (p : ℕ → Bool) (xs ys : List ℕ) → is_filled ys ≡ true → without_end p ys ≡ ys → without_end p (xs ++ ys) ≡ xs ++ ys
end_more p [] ys some h = h
end_more p (x ∷ []) [] some h = cc
end_more p (x ∷ []) (y ∷ ys) some h = ap (unless_last p x) h
end_more p (x ∷ z ∷ xs) ys some h = ap (unless_last p x) (end_more p (z ∷ xs) ys some h)

pub end_plain : (xs : List ℕ) → list_all is_plain xs ≡ true → without_end is_blank xs ≡ xs
end_plain [] h = refl
end_plain (x ∷ []) h = rw (plain_filled x (and_parts (is_plain x) true h).0) refl
end_plain (x ∷ y ∷ xs) h = ap (unless_last is_blank x) (end_plain (y ∷ xs) (and_parts (is_plain x) (list_all is_plain (y ∷ xs)) h).1)

pub end_blank : (xs : List ℕ) → list_all is_plain xs ≡ true → without_end is_blank (xs ++ 32 ∷ []) ≡ xs
end_blank [] h = refl
end_blank (x ∷ []) h = rw (plain_filled x (and_parts (is_plain x) true h).0) refl
end_blank (x ∷ y ∷ xs) h = ap (unless_last is_blank x) (end_blank (y ∷ xs) (and_parts (is_plain x) (list_all is_plain (y ∷ xs)) h).1)

pub word_front : (xs ys : List ℕ) → is_word xs ≡ true → without_front is_blank (xs ++ ys) ≡ xs ++ ys
word_front [] ys h = cc
word_front (x ∷ xs) ys h = rw (plain_filled x (and_parts (is_plain x) (list_all is_plain xs) h).0) refl

pub word_plain : (xs : List ℕ) → is_word xs ≡ true → list_all is_plain xs ≡ true
word_plain xs h = (and_parts (is_filled xs) (list_all is_plain xs) h).1

pub word_filled : (xs : List ℕ) → is_word xs ≡ true → is_filled xs ≡ true
word_filled xs h = (and_parts (is_filled xs) (list_all is_plain xs) h).0

-- cuts
pub before_more : (c : ℕ) (xs ys : List ℕ) → lacks c xs ≡ true → before c (xs ++ ys) ≡ xs ++ before c ys
before_more c [] ys h = refl
before_more c (x ∷ xs) ys h =
    let p = and_parts (not (x == c)) (lacks c xs) h in
    rw (not-true (x == c) p.0, before_more c xs ys p.1) refl

pub after_more : (c : ℕ) (xs ys : List ℕ) → lacks c xs ≡ true → after c (xs ++ ys) ≡ after c ys
after_more c [] ys h = refl
after_more c (x ∷ xs) ys h =
    let p = and_parts (not (x == c)) (lacks c xs) h in
    rw (not-true (x == c) p.0, after_more c xs ys p.1) refl

-- tokens
split_word : (xs ys : List ℕ) → list_all is_plain xs ≡ true → slice_split is_blank (xs ++ 32 ∷ ys) ≡ xs ∷ slice_split is_blank ys
split_word [] ys h = refl
split_word (x ∷ xs) ys h =
    let p = and_parts (is_plain x) (list_all is_plain xs) h in
    rw (plain_filled x p.0, split_word xs ys p.1) refl

split_last : (xs : List ℕ) → list_all is_plain xs ≡ true → slice_split is_blank xs ≡ xs ∷ []
split_last [] h = refl
split_last (x ∷ xs) h =
    let p = and_parts (is_plain x) (list_all is_plain xs) h in
    rw (plain_filled x p.0, split_last xs p.1) refl

filled_first : (x : List ℕ) (xs : List (List ℕ)) → is_filled x ≡ true → filter is_filled (x ∷ xs) ≡ x ∷ filter is_filled xs
filled_first x xs h = rw h refl

pub tokens_spaced : (ts : List (List ℕ)) → list_all is_word ts ≡ true → tokens_of (spaced ts) ≡ ts
tokens_spaced [] h = refl
tokens_spaced (t ∷ []) h =
    let w = (and_parts (is_word t) true h).0 in
    ap (filter is_filled) (split_last t (word_plain t w)) ∙ filled_first t [] (word_filled t w)
tokens_spaced (t ∷ u ∷ ts) h =
    let p = and_parts (is_word t) (list_all is_word (u ∷ ts)) h in
    ap (filter is_filled) (split_word t (spaced (u ∷ ts)) (word_plain t p.0))
    ∙ (filled_first t (slice_split is_blank (spaced (u ∷ ts))) (word_filled t p.0) ∙ ap (λ v. t ∷ v) (tokens_spaced (u ∷ ts) p.1))

pub filled_more : (xs ys : List ℕ) → is_filled xs ≡ true → is_filled (xs ++ ys) ≡ true
filled_more [] ys h = cc
filled_more (x ∷ xs) ys h = refl

pub spaced_filled : (t : List ℕ) (ts : List (List ℕ)) → is_word t ≡ true → is_filled (spaced (t ∷ ts)) ≡ true
spaced_filled t [] h = word_filled t h
spaced_filled t (u ∷ ts) h = filled_more t (32 ∷ spaced (u ∷ ts)) (word_filled t h)

pub spaced_end : (ts : List (List ℕ)) → list_all is_word ts ≡ true → without_end is_blank (spaced ts) ≡ spaced ts
spaced_end [] h = refl
spaced_end (t ∷ []) h = end_plain t (word_plain t (and_parts (is_word t) true h).0)
spaced_end (t ∷ u ∷ ts) h =
    let p = and_parts (is_word t) (list_all is_word (u ∷ ts)) h in
    let q = and_parts (is_word u) (list_all is_word ts) p.1 in
    end_more is_blank t (32 ∷ spaced (u ∷ ts)) refl (end_more is_blank (32 ∷ []) (spaced (u ∷ ts)) (spaced_filled u ts q.0) (spaced_end (u ∷ ts) p.1))

pub spaced_front : (t : List ℕ) (ts : List (List ℕ)) → is_word t ≡ true → without_front is_blank (spaced (t ∷ ts)) ≡ spaced (t ∷ ts)
spaced_front t [] h = ap (without_front is_blank) (sym (append-nil t)) ∙ (word_front t [] h ∙ append-nil t)
spaced_front t (u ∷ ts) h = word_front t (32 ∷ spaced (u ∷ ts)) h

pub spaced_lacks : (c : ℕ) (ts : List (List ℕ)) → c < 32 → list_all is_word ts ≡ true → lacks c (spaced ts) ≡ true
spaced_lacks c [] small h = refl
spaced_lacks c (t ∷ []) small h = plain_lacks c t (omega arith) (word_plain t (and_parts (is_word t) true h).0)
spaced_lacks c (t ∷ u ∷ ts) small h =
    let p = and_parts (is_word t) (list_all is_word (u ∷ ts)) h in
    lacks_more c t (32 ∷ spaced (u ∷ ts)) (plain_lacks c t (omega arith) (word_plain t p.0))
    (rw (ne_eqb 32 c (λ e. absurd (omega (arith, e))), spaced_lacks c (u ∷ ts) small p.1) refl)

-- what a line is
both_false : (u v : Bool) (t : List ℕ) → not (u || v) ≡ true → (if u then Skipped else (if v then mark_of t else Content t)) ≡ Content t
both_false true v t h = cc
both_false false true t h = cc
both_false false false t h = refl

text_content : (t : List ℕ) → begins_content t ≡ true → line_of_text t ≡ Content t
text_content [] h = cc
text_content (b ∷ bs) h = both_false (is_comment_sign b) (b == 33) (b ∷ bs) h

pub content_line : (t : List ℕ) → begins_content t ≡ true → without_front is_blank t ≡ t → without_end is_blank t ≡ t → line_of t ≡ Content t
content_line t begins front back = ap line_of_text (ap (without_end is_blank) front ∙ back) ∙ text_content t begins

comment_text : (ds : List ℕ) → line_of_text (unless_last is_blank 35 ds) ≡ Skipped
comment_text [] = refl
comment_text (d ∷ ds) = refl

pub comment_line : (bs : List ℕ) → line_of (35 ∷ bs) ≡ Skipped
comment_line bs = comment_text (without_end is_blank bs)

pub begins_more : (xs ys : List ℕ) → begins_content xs ≡ true → begins_content (xs ++ ys) ≡ true
begins_more [] ys h = cc
begins_more (x ∷ xs) ys h = h
