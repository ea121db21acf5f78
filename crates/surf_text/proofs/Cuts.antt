-- Cuts at a place.
use Rattle.std.proofs.Common.{ℕ, zero, suc, ◌≡◌, ◌+◌, ◌-◌, ◌<◌, ◌≤◌, Bool, true, false, List, [], ◌∷◌, ◌++◌, length, get_or, take, drop, refl, sym, ◌∙◌, ap, arith, Some, None, drop-cons, add-one}
use Rattle.std.proofs.lemmas.Bool.{ne_eqb, eq-eqb}
use Rattle.surf_text.specs.Bytes.{without_front, without_end, unless_last, before, after}

pub front_step : (p : ℕ → Bool) (line : List ℕ) (i : ℕ) → i < length line → p (get_or line i 0) ≡ true → without_front p (drop i line) ≡ without_front p (drop (i + 1) line)
front_step p line i lt at = ap (without_front p) (drop-cons line i 0 lt) ∙ rw (at, add-one) refl

pub front_stop : (p : ℕ → Bool) (line : List ℕ) (i : ℕ) → i < length line → p (get_or line i 0) ≡ false → without_front p (drop i line) ≡ drop i line
front_stop p line i lt at = ap (without_front p) (drop-cons line i 0 lt) ∙ (rw at refl ∙ sym (drop-cons line i 0 lt))

pub end_step : (p : ℕ → Bool) (xs : List ℕ) (b : ℕ) → p b ≡ true → without_end p (xs ++ b ∷ []) ≡ without_end p xs
end_step p [] b at = rw at refl
end_step p (x ∷ xs) b at = ap (unless_last p x) (end_step p xs b at)

pub end_stop : (p : ℕ → Bool) (xs : List ℕ) (b : ℕ) → p b ≡ false → without_end p (xs ++ b ∷ []) ≡ xs ++ b ∷ []
end_stop p [] b at = rw at refl
end_stop p (x ∷ []) b at = ap (unless_last p x) (end_stop p [] b at)
end_stop p (x ∷ y ∷ xs) b at = ap (unless_last p x) (end_stop p (y ∷ xs) b at)

pub before_at : (c : ℕ) (text : List ℕ) (i : ℕ) → i < length text → ((k : ℕ) → k < i → get_or text k 0 ≡ c → ⊥) → get_or text i 0 ≡ c → before c text ≡ take i text
before_at c [] i lt none at = absurd (omega arith)
before_at c (b ∷ bs) zero lt none at = rw (eq-eqb b c at) refl
before_at c (b ∷ bs) (suc i) lt none at =
    rw (ne_eqb b c (λ e. none zero (omega arith) e), before_at c bs i (omega arith) (λ k h e. none (suc k) (omega arith) e) at) refl

pub after_at : (c : ℕ) (text : List ℕ) (i : ℕ) → i < length text → ((k : ℕ) → k < i → get_or text k 0 ≡ c → ⊥) → get_or text i 0 ≡ c → after c text ≡ Some (drop (suc i) text)
after_at c [] i lt none at = absurd (omega arith)
after_at c (b ∷ bs) zero lt none at = rw (eq-eqb b c at) refl
after_at c (b ∷ bs) (suc i) lt none at =
    rw (ne_eqb b c (λ e. none zero (omega arith) e), after_at c bs i (omega arith) (λ k h e. none (suc k) (omega arith) e) at) refl

pub before_none : (c : ℕ) (text : List ℕ) → ((k : ℕ) → k < length text → get_or text k 0 ≡ c → ⊥) → before c text ≡ text
before_none c [] none = refl
before_none c (b ∷ bs) none = rw (ne_eqb b c (λ e. none zero (omega arith) e), before_none c bs (λ k h e. none (suc k) (omega arith) e)) refl

pub after_none : (c : ℕ) (text : List ℕ) → ((k : ℕ) → k < length text → get_or text k 0 ≡ c → ⊥) → after c text ≡ None
after_none c [] none = refl
after_none c (b ∷ bs) none = rw (ne_eqb b c (λ e. none zero (omega arith) e), after_none c bs (λ k h e. none (suc k) (omega arith) e)) refl

take_one : (line : List ℕ) (k : ℕ) → k < length line → take (suc k) line ≡ take k line ++ get_or line k 0 ∷ []
take_one [] k lt = absurd (omega arith)
take_one (b ∷ bs) zero lt = refl
take_one (b ∷ bs) (suc k) lt = ap (λ v. b ∷ v) (take_one bs k (omega arith))

take_before : (line : List ℕ) (k e : ℕ) → e ≡ k + 1 → k < length line → take e line ≡ take k line ++ get_or line k 0 ∷ []
take_before line k e is lt = ap (λ n. take n line) (is ∙ add-one k) ∙ take_one line k lt

pub end_here : (p : ℕ → Bool) (line : List ℕ) (e : ℕ) → 0 < e → e ≤ length line → p (get_or line (e - 1) 0) ≡ false → without_end p (take e line) ≡ take e line
end_here p line e pos le at =
    let t = take_before line (e - 1) e (omega arith) (omega arith) in
    ap (without_end p) t ∙ (end_stop p (take (e - 1) line) (get_or line (e - 1) 0) at ∙ sym t)

pub end_down : (p : ℕ → Bool) (line : List ℕ) (e : ℕ) → 0 < e → e ≤ length line → p (get_or line (e - 1) 0) ≡ true → without_end p (take e line) ≡ without_end p (take (e - 1) line)
end_down p line e pos le at =
    let t = take_before line (e - 1) e (omega arith) (omega arith) in
    ap (without_end p) t ∙ end_step p (take (e - 1) line) (get_or line (e - 1) 0) at
