-- Lines up to a line feed.
use Rattle.std.proofs.Common.{ℕ, zero, suc, ◌≡◌, ◌+◌, ◌-◌, ◌<◌, Bool, true, false, List, [], ◌∷◌, ◌++◌, length, get_or, take, drop, refl, sym, ◌∙◌, ap, subst, arith, length-drop}
use Rattle.std.proofs.lemmas.List.{take_all, append-nil, append_assoc, take-append-drop, drop-drop}
use Rattle.std.proofs.lemmas.Bool.{ne_eqb, eq-eqb}
use Rattle.surf_text.specs.Bytes.{lines_of}
use Rattle.surf_trace.specs.Splits.{opens_trace, before_trace}

pub rest_of : (text : List ℕ) (i : ℕ) → take (length text - i) (drop i text) ≡ drop i text
rest_of text i = take_all (length text - i) (drop i text) (omega (arith, length-drop i text))

-- the text up to its first line feed is a line, whatever follows it
pub line_up_to : (text : List ℕ) (i : ℕ) → i < length text → ((k : ℕ) → k < i → get_or text k 0 ≡ 10 → ⊥) → get_or text i 0 ≡ 10 → (after : List ℕ) → lines_of (take (suc i) text ++ after) ≡ take i text ∷ lines_of after
line_up_to [] i lt none at after = absurd (omega arith)
line_up_to (b ∷ bs) zero lt none at after = rw (eq-eqb b 10 at) refl
line_up_to (b ∷ bs) (suc i) lt none at after =
    rw (ne_eqb b 10 (λ e. none zero (omega arith) e), line_up_to bs i (omega arith) (λ k h e. none (suc k) (omega arith) e) at after) refl

pub line_alone : (text : List ℕ) → 0 < length text → ((k : ℕ) → k < length text → get_or text k 0 ≡ 10 → ⊥) → lines_of text ≡ text ∷ []
line_alone [] lt none = absurd (omega arith)
line_alone (b ∷ []) lt none = rw (ne_eqb b 10 (λ e. none zero (omega arith) e)) refl
line_alone (b ∷ d ∷ bs) lt none =
    rw (ne_eqb b 10 (λ e. none zero (omega arith) e), line_alone (d ∷ bs) (omega arith) (λ k h e. none (suc k) (omega arith) e)) refl

pub take_add : (t : List ℕ) (s m : ℕ) → take (s + m) t ≡ take s t ++ take m (drop s t)
take_add t zero m = let e : 0 + m ≡ m = omega arith in rw e refl
take_add [] (suc s) zero = let e : suc s + 0 ≡ suc s = omega arith in rw e refl
take_add [] (suc s) (suc m) = let e : suc s + suc m ≡ suc (s + suc m) = omega arith in rw e refl
take_add (b ∷ bs) (suc s) m = let e : suc s + m ≡ suc (s + m) = omega arith in rw e (ap (λ v. b ∷ v) (take_add bs s m))

before_opening : (l : List ℕ) (ls : List (List ℕ)) → opens_trace l ≡ true → before_trace (l ∷ ls) ≡ []
before_opening l ls at = rw at refl

before_other : (l : List ℕ) (ls : List (List ℕ)) → opens_trace l ≡ false → before_trace (l ∷ ls) ≡ l ∷ before_trace ls
before_other l ls at = rw at refl

-- the same of a slice of the text
pub line_in : (t : List ℕ) (s i : ℕ) → ((after : List ℕ) → lines_of (take (i + 1) (take (length t - s) (drop s t)) ++ after) ≡ take i (take (length t - s) (drop s t)) ∷ lines_of after) → (after : List ℕ) → lines_of (take (i + 1) (drop s t) ++ after) ≡ take i (drop s t) ∷ lines_of after
line_in t s i line after =
    let P : List ℕ → Type 0 = λ (r : List ℕ). lines_of (take (i + 1) r ++ after) ≡ take i r ∷ lines_of after in
    subst P (rest_of t s) (line after)

pub opening_in : (t : List ℕ) (s i : ℕ) (b v : Bool) → b ≡ opens_trace (take (s + i - s) (drop s t)) → b ≡ v → opens_trace (take i (drop s t)) ≡ v
opening_in t s i b v is at =
    let e : s + i - s ≡ i = omega arith in
    ap (λ n. opens_trace (take n (drop s t))) (sym e) ∙ sym is ∙ at

-- what is known where the bytes before place s are whole lines, none of which opens a trace
module _ (t : List ℕ) (s : ℕ) (closed : (after : List ℕ) → lines_of (take s t ++ after) ≡ lines_of (take s t) ++ lines_of after) (read : before_trace (lines_of t) ≡ lines_of (take s t) ++ before_trace (lines_of (drop s t))) where
  -- the rest has no lines before a trace
  stopped : before_trace (lines_of (drop s t)) ≡ [] → lines_of (take s t) ≡ before_trace (lines_of t)
  stopped none = sym (read ∙ ap (λ v. lines_of (take s t) ++ v) none ∙ append-nil (lines_of (take s t)))

  module _ (i : ℕ) (line : (after : List ℕ) → lines_of (take (i + 1) (drop s t) ++ after) ≡ take i (drop s t) ∷ lines_of after) where
    here : lines_of (drop s t) ≡ take i (drop s t) ∷ lines_of (drop (i + 1) (drop s t))
    here = ap lines_of (sym (take-append-drop (i + 1) (drop s t))) ∙ line (drop (i + 1) (drop s t))

    pub ends_here : opens_trace (take i (drop s t)) ≡ true → lines_of (take s t) ≡ before_trace (lines_of t)
    ends_here at = stopped (ap before_trace here ∙ before_opening (take i (drop s t)) (lines_of (drop (i + 1) (drop s t))) at)

    one_more : lines_of (take (s + (i + 1)) t) ≡ lines_of (take s t) ++ take i (drop s t) ∷ []
    one_more =
        ap lines_of (take_add t s (i + 1))
        ∙ closed (take (i + 1) (drop s t))
        ∙ ap (λ v. lines_of (take s t) ++ v) (ap lines_of (sym (append-nil (take (i + 1) (drop s t)))) ∙ line [])

    with_more : (ls : List (List ℕ)) → lines_of (take s t) ++ (take i (drop s t) ∷ ls) ≡ lines_of (take (s + (i + 1)) t) ++ ls
    with_more ls = sym (ap (λ v. v ++ ls) one_more ∙ append_assoc (lines_of (take s t)) (take i (drop s t) ∷ []) ls)

    pub closed_next : (after : List ℕ) → lines_of (take (s + (i + 1)) t ++ after) ≡ lines_of (take (s + (i + 1)) t) ++ lines_of after
    closed_next after =
        ap (λ v. lines_of (v ++ after)) (take_add t s (i + 1))
        ∙ ap lines_of (append_assoc (take s t) (take (i + 1) (drop s t)) after)
        ∙ closed (take (i + 1) (drop s t) ++ after)
        ∙ ap (λ v. lines_of (take s t) ++ v) (line after)
        ∙ with_more (lines_of after)

    pub read_next : opens_trace (take i (drop s t)) ≡ false → before_trace (lines_of t) ≡ lines_of (take (s + (i + 1)) t) ++ before_trace (lines_of (drop (s + (i + 1)) t))
    read_next at =
        read
        ∙ ap (λ v. lines_of (take s t) ++ v) (ap before_trace here ∙ before_other (take i (drop s t)) (lines_of (drop (i + 1) (drop s t))) at)
        ∙ with_more (before_trace (lines_of (drop (i + 1) (drop s t))))
        ∙ ap (λ v. lines_of (take (s + (i + 1)) t) ++ before_trace (lines_of v)) (drop-drop (i + 1) s t)
