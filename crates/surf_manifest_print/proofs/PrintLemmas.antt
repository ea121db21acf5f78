-- Texts that grow by lines, by names and by sides of rules.
use Rattle.std.proofs.Common.{ℕ, suc, ◌≡◌, ◌+◌, ◌-◌, ◌*◌, ◌<◌, List, [], ◌∷◌, ◌++◌, map, drop, take, codes, Option, Some, None, Result, Ok, Err, OnOk, MatchOption, Bor, refl, sym, ◌∙◌, ap, arith, append-nil, append_assoc, subst, All}
use Rattle.std.proofs.lemmas.List.{take-map, drop-map}
use Rattle.std.proofs.lemmas.List.Elements.{All-drop}
use Rattle.std.specs.Option.{option_copied}
use Rattle.std.proofs.Math.Nat.{mul-suc}
use Rattle.surf_world.specs.Systems as systems
use Rattle.surf_text.specs.Bytes.{ended, spaced, rows_of}
use Rattle.surf_manifest_print.specs.Prints.{side_tokens, rule_tokens, geometry_text, wrap_text, option_text, rule_block, state_block, colour_lines, print_of}
use Rattle.surf_manifest.specs.Grammar.{ManifestText}
use Rattle.surf_manifest_print.specs.Rows.{after_blanks}

-- lines
pub line_on : (t : List ℕ) (rest : List (List ℕ)) (old new whole : List ℕ) → new ≡ old ++ (t ++ 10 ∷ []) → old ++ ended (t ∷ rest) ≡ whole → new ++ ended rest ≡ whole
line_on t rest old new whole is e =
    ap (λ v. v ++ ended rest) is ∙ (append_assoc old (t ++ 10 ∷ []) (ended rest) ∙ (ap (λ v. old ++ v) (append_assoc t (10 ∷ []) (ended rest)) ∙ e))

pub ended_more : (ts us : List (List ℕ)) → ended (ts ++ us) ≡ ended ts ++ ended us
ended_more [] us = refl
ended_more (t ∷ ts) us = ap (λ v. t ++ 10 ∷ v) (ended_more ts us) ∙ sym (append_assoc t (10 ∷ ended ts) (ended us))

-- names
pub spaced_first : (t : List ℕ) (ts : List (List ℕ)) → spaced (t ∷ ts) ≡ t ++ after_blanks ts
spaced_first t [] = sym (append-nil t)
spaced_first t (u ∷ ts) = ap (λ v. t ++ 32 ∷ v) (spaced_first u ts)

-- rules
sides_spaced : (a : List ℕ) (o : Option (List ℕ)) (c : List ℕ) (p : Option (List ℕ))
    → spaced (side_tokens a o ++ (codes "->" ∷ side_tokens c p)) ≡ spaced (side_tokens a o) ++ (codes " -> " ++ spaced (side_tokens c p))
sides_spaced a None c None = refl
sides_spaced a None c (Some d) = refl
sides_spaced a (Some b) c None = sym (append_assoc a (32 ∷ 43 ∷ 32 ∷ b) (codes " -> " ++ c))
sides_spaced a (Some b) c (Some d) = sym (append_assoc a (32 ∷ 43 ∷ 32 ∷ b) (codes " -> " ++ (c ++ 32 ∷ 43 ∷ 32 ∷ d)))

pub sides_put : (r : systems.Rule (List ℕ)) (old a b new : List ℕ) → a ≡ old ++ spaced (side_tokens r.left r.right) → b ≡ a ++ codes " -> "
    → new ≡ b ++ spaced (side_tokens r.left_after r.right_after) → new ≡ old ++ spaced (rule_tokens r)
sides_put r old a b new first arrow second =
    let x = spaced (side_tokens r.left r.right) in
    let y = spaced (side_tokens r.left_after r.right_after) in
    second ∙ (ap (λ v. v ++ y) (arrow ∙ ap (λ v. v ++ codes " -> ") first)
    ∙ (append_assoc (old ++ x) (codes " -> ") y ∙ (append_assoc old x (codes " -> " ++ y) ∙ ap (λ v. old ++ v) (sym (sides_spaced r.left r.right r.left_after r.right_after)))))

-- three pieces, one after another
pub three : (old x y z a b new : List ℕ) → a ≡ old ++ x → b ≡ a ++ y → new ≡ b ++ z → new ≡ old ++ (x ++ (y ++ z))
three old x y z a b new first second third =
    third ∙ (ap (λ v. v ++ z) (second ∙ ap (λ v. v ++ y) first) ∙ (append_assoc (old ++ x) y z ∙ append_assoc old x (y ++ z)))

pub block : (start : List ℕ) (ts : List (List ℕ)) (end old a b new : List ℕ) → a ≡ old ++ (start ++ 10 ∷ []) → b ≡ a ++ ended ts → new ≡ b ++ (end ++ 10 ∷ [])
    → new ≡ old ++ ended (start ∷ (ts ++ end ∷ []))
block start ts end old a b new first second third =
    three old (start ++ 10 ∷ []) (ended ts) (end ++ 10 ∷ []) a b new first second third
    ∙ ap (λ v. old ++ v) (append_assoc start (10 ∷ []) (ended ts ++ (end ++ 10 ∷ [])) ∙ ap (λ v. start ++ 10 ∷ v) (sym (ended_more ts (end ∷ []))))

pub on_ok : {T E : Type 0} {P Q : Type 0} (r : Result T E) → (P → Q) → OnOk r P → OnOk r Q
on_ok (Ok x) f p = f p
on_ok (Err e) f p = tt

-- rows
pub first_row : {A : Type 0} (w h k : ℕ) (f : A → List ℕ) (ks : List A) → k < h → rows_of w (h - k) (map f ks) ≡ map f (take w ks) ∷ rows_of w (h - (k + 1)) (map f (drop w ks))
first_row w h k f ks lt =
    let e : h - k ≡ suc (h - (k + 1)) = omega arith in
    ap (λ n. rows_of w n (map f ks)) e
    ∙ (ap (λ v. v ∷ rows_of w (h - (k + 1)) (drop w (map f ks))) (take-map f w ks)
    ∙ ap (λ v. map f (take w ks) ∷ rows_of w (h - (k + 1)) v) (drop-map f w ks))

pub rows_on : {A : Type 0} (w h k : ℕ) (f : A → List ℕ) (ks row after : List A) (old new whole : List ℕ) → k < h → row ≡ take w ks → after ≡ drop w ks → new ≡ old ++ (spaced (map f row) ++ 10 ∷ [])
    → old ++ ended (map spaced (rows_of w (h - k) (map f ks))) ≡ whole → new ++ ended (map spaced (rows_of w (h - (k + 1)) (map f after))) ≡ whole
rows_on w h k f ks row after old new whole lt front back is e =
    let here : rows_of w (h - k) (map f ks) ≡ map f row ∷ rows_of w (h - (k + 1)) (map f after) =
    first_row w h k f ks lt ∙ (ap (λ v. map f v ∷ rows_of w (h - (k + 1)) (map f (drop w ks))) (sym front) ∙ ap (λ v. map f row ∷ rows_of w (h - (k + 1)) (map f v)) (sym back)) in
    line_on (spaced (map f row)) (map spaced (rows_of w (h - (k + 1)) (map f after))) old new whole is (ap (λ v. old ++ ended (map spaced v)) (sym here) ∙ e)

pub sites_on : (w h k a b : ℕ) → k < h → b ≡ w * (h - k) → a + w ≡ b → a ≡ w * (h - (k + 1))
sites_on w h k a b lt is e =
    let n = h - (k + 1) in
    let s : h - k ≡ suc n = omega arith in
    let t : w * (h - k) ≡ w * n + w = ap (λ v. w * v) s ∙ mul-suc w n in
    omega (arith, is, e, t)

pub below_on : (n w : ℕ) (ks after : List ℕ) → after ≡ drop w ks → All (λ k. k < n) ks → All (λ k. k < n) after
below_on n w ks after back h = subst (λ v. All (λ k. k < n) v) (sym back) (All-drop (λ k. k < n) w ks h)

pub names_put : {A : Type 0} (f : A → List ℕ) (x : A) (ks row : List A) (old a new : List ℕ) → row ≡ x ∷ ks → a ≡ old ++ f x → new ≡ a ++ after_blanks (map f ks) → new ≡ old ++ spaced (map f row)
names_put f x ks row old a new whole first others =
    let rest = after_blanks (map f ks) in
    others ∙ (ap (λ v. v ++ rest) first ∙ (append_assoc old (f x) rest
    ∙ (ap (λ v. old ++ v) (sym (spaced_first (f x) (map f ks))) ∙ ap (λ v. old ++ spaced (map f v)) (sym whole))))

-- legends
pub legend_put : (ins outs : List (List ℕ)) (events old a b new : List ℕ) → a ≡ old ++ ended ins → b ≡ a ++ ended outs → new ≡ b ++ (events ++ 10 ∷ [])
    → new ≡ old ++ ended (ins ++ (outs ++ events ∷ []))
legend_put ins outs events old a b new first second third =
    three old (ended ins) (ended outs) (events ++ 10 ∷ []) a b new first second third
    ∙ ap (λ v. old ++ v) (ap (λ v. ended ins ++ v) (sym (ended_more outs (events ∷ []))) ∙ sym (ended_more ins (outs ++ events ∷ [])))

-- manifests
pub then_lines : (xs ys : List (List ℕ)) (old a new : List ℕ) → a ≡ old ++ ended xs → new ≡ a ++ ended ys → new ≡ old ++ ended (xs ++ ys)
then_lines xs ys old a new first second =
    second ∙ (ap (λ v. v ++ ended ys) first ∙ (append_assoc old (ended xs) (ended ys) ∙ ap (λ v. old ++ v) (sym (ended_more xs ys))))

pub manifest_put : (m : ManifestText) (old a b c d e new : List ℕ) → a ≡ old ++ (geometry_text m.system.surface.grid.kind ++ 10 ∷ []) → b ≡ a ++ (wrap_text m.system.surface.grid.wrap ++ 10 ∷ [])
    → c ≡ b ++ ended (map option_text m.options) → d ≡ c ++ ended (rule_block m) → e ≡ d ++ ended (state_block m) → new ≡ e ++ ended (colour_lines m.colormap) → new ≡ old ++ print_of m None
manifest_put m old a b c d e new p q r s t u =
    let cs = colour_lines m.colormap in
    let ss = state_block m in
    let rs = rule_block m in
    let os = map option_text m.options in
    then_lines (geometry_text m.system.surface.grid.kind ∷ []) (wrap_text m.system.surface.grid.wrap ∷ (os ++ (rs ++ (ss ++ cs)))) old a new p
    (then_lines (wrap_text m.system.surface.grid.wrap ∷ []) (os ++ (rs ++ (ss ++ cs))) a b new q
    (then_lines os (rs ++ (ss ++ cs)) b c new r
    (then_lines rs (ss ++ cs) c d new s (then_lines ss cs d e new t u))))

pub copied_is : {X : Type 0} (r : Option (Bor X)) (o : Option X) → MatchOption r (o ≡ None) (λ x. o ≡ Some x.now) → option_copied r ≡ o
copied_is None o h = sym h
copied_is (Some x) o h = sym h
