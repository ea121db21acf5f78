-- Short names with a blank before each, and bytes that wait before others.
use Rattle.std.proofs.Common.{ℕ, zero, suc, ◌≡◌, ◌+◌, ◌==◌, Bool, true, false, if◌then◌else◌, nat_lt, List, [], ◌∷◌, ◌++◌, length, map, take, Some, slice_get, sym, ◌∙◌, add-one, ap, append_assoc}
use Rattle.std.proofs.lemmas.Bool.{false≢true}
use Rattle.std.proofs.lemmas.List.{map-append}
use Rattle.surf_rules.specs.Names.{text_of}
use Rattle.surf_manifest_print.specs.Rows.{short_text, short_texts}

if_short : (b : Bool) (t s : List ℕ) → (if b then 32 ∷ t else []) ≡ s → (length s == 0) ≡ false → s ≡ 32 ∷ t
if_short true t s is some = sym is
if_short false t s is some =
    let none : (length s == 0) ≡ true = ap (λ v. length v == 0) (sym is) in
    absurd (false≢true (sym some ∙ none))

short_from : (n : ℕ) (names : List (List ℕ)) (k : ℕ) (s : List ℕ) → slice_get (map short_text (take n names)) k ≡ Some s → (length s == 0) ≡ false → s ≡ 32 ∷ text_of names k
short_from zero names k s at some = cc
short_from (suc n) [] k s at some = cc
short_from (suc n) (t ∷ ts) zero s at some = if_short (nat_lt (length t) 16) t s (let e : short_text t ≡ s = cc in e) some
short_from (suc n) (t ∷ ts) (suc k) s at some = short_from n ts k s at some

-- what stands in the table is the name with its blank
pub short_at : (names : List (List ℕ)) (k : ℕ) (s : List ℕ) → slice_get (short_texts names) k ≡ Some s → (length s == 0) ≡ false → s ≡ 32 ∷ text_of names k
short_at names k s at some = short_from 256 names k s at some

take_more : (xs : List (List ℕ)) (n : ℕ) (t : List ℕ) → slice_get xs n ≡ Some t → take (suc n) xs ≡ take n xs ++ t ∷ []
take_more [] n t at = cc
take_more (x ∷ xs) zero t at = let e : x ≡ t = cc in ap (λ v. v ∷ []) e
take_more (x ∷ xs) (suc n) t at = ap (λ v. x ∷ v) (take_more xs n t at)

-- the table gets one name more
pub shorts_more : (names : List (List ℕ)) (n : ℕ) (t : List ℕ) (old new : List (List ℕ)) → slice_get names n ≡ Some t → old ≡ map short_text (take n names) → new ≡ old ++ short_text t ∷ []
    → new ≡ map short_text (take (n + 1) names)
shorts_more names n t old new at so_far put =
    put ∙ ap (λ v. v ++ short_text t ∷ []) so_far
    ∙ sym (ap (λ v. map short_text v) (ap (λ k. take k names) (add-one n) ∙ take_more names n t at) ∙ map-append short_text (take n names) (t ∷ []))

-- a blank and a name are put behind what waits
pub waits_on : (old held t rest new whole : List ℕ) → new ≡ old ++ (held ++ 32 ∷ t) → (old ++ held) ++ (32 ∷ t ++ rest) ≡ whole → new ++ rest ≡ whole
waits_on old held t rest new whole is e =
    ap (λ v. v ++ rest) (is ∙ sym (append_assoc old held (32 ∷ t))) ∙ (append_assoc (old ++ held) (32 ∷ t) rest ∙ e)
