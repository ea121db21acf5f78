-- Lists of texts that grow keep what their numbers name.
use Rattle.std.proofs.Common.{ℕ, zero, suc, ◌≡◌, ◌+◌, ◌<◌, ◌≤◌, List, [], ◌∷◌, ◌++◌, length, map, refl, sym, subst, ◌∙◌, ap, arith, Bool, true, false, Option, Some, None, slice_get, unwrap_or, if◌then◌else◌, length-append, All, IfSome, get_or, ◌&&◌}
use Rattle.std.specs.List.{list_all, list_any}
use Rattle.std.proofs.lemmas.List.Folds.{list_all-append}
use Rattle.std.specs.Option.{is_none, option_map}
use Rattle.std.specs.Str.{bytes_eq}
use Rattle.std.proofs.lemmas.Option.{slice_get_within}
use Rattle.std.proofs.lemmas.Bool.{and_parts, false≢true}
use Rattle.std.proofs.lemmas.Slice.Eq.{bytes_eq-Decides}
use Rattle.std.proofs.Math.Bool.{or-true}
use Rattle.surf_rules.specs.Names.{text_of, with_text}
use Rattle.surf_rules.specs.declared.rule.Rule.{Rule}
use Rattle.surf_world.specs.Renamings.{RuleBelow}
use Rattle.surf_world.specs.Worlds.{rule_of}
use Rattle.surf_manifest_lines.specs.Item.{is_name}
use Rattle.surf_manifest_lines.proofs.WellFormed.{both}
use Rattle.surf_manifest.specs.Drafts.{IsGrown, named_rule, RulesBelow, NamesBelow}

front_kept : (ts us : List (List ℕ)) (k : ℕ) → k < length ts → slice_get (ts ++ us) k ≡ slice_get ts k
front_kept [] us k lt = absurd (omega (arith, lt))
front_kept (t ∷ ts) us zero lt = refl
front_kept (t ∷ ts) us (suc k) lt = front_kept ts us k (omega (arith, lt))

grown_if : (b : Bool) (ts : List (List ℕ)) (t : List ℕ) → IsGrown 1 ts (if b then ts else ts ++ t ∷ [])
grown_if true ts t = record { longer = omega arith; most = omega arith; kept = λ k lt. refl }
grown_if false ts t = record { longer = omega (arith, length-append ts (t ∷ [])); most = omega (arith, length-append ts (t ∷ [])); kept = λ k lt. front_kept ts (t ∷ []) k lt }

pub grown_with : (ts : List (List ℕ)) (t : List ℕ) → IsGrown 1 ts (with_text ts t)
grown_with ts t = grown_if (list_any (bytes_eq t) ts) ts t

pub grown_by : (a b : List (List ℕ)) (t : List ℕ) → b ≡ with_text a t → IsGrown 1 a b
grown_by a b t is = subst (λ v. IsGrown 1 a v) (sym is) (grown_with a t)

pub grown_then : (m n : ℕ) (a b c : List (List ℕ)) → IsGrown m a b → IsGrown n b c → IsGrown (m + n) a c
grown_then m n a b c g h = record {
  longer = omega (arith, g.longer, h.longer);
  most = omega (arith, g.most, h.most);
  kept = λ k lt. h.kept k (omega (arith, lt, g.longer)) ∙ g.kept k lt;
}

pub text_kept : (n : ℕ) (a b : List (List ℕ)) (k : ℕ) → IsGrown n a b → k < length a → text_of b k ≡ text_of a k
text_kept n a b k g lt = ap (λ o. unwrap_or o []) (g.kept k lt)

pub text_at : (ts : List (List ℕ)) (k : ℕ) (t : List ℕ) → slice_get ts k ≡ Some t → text_of ts k ≡ t
text_at ts k t is = ap (λ o. unwrap_or o []) is

pub at_kept : (n : ℕ) (a b : List (List ℕ)) (k : ℕ) (t : List ℕ) → IsGrown n a b → slice_get a k ≡ Some t → slice_get b k ≡ Some t
at_kept n a b k t g is = g.kept k (slice_get_within a k t is) ∙ is

pub all_head : {X : Type 0} (P : X → Type 0) (x : X) (xs : List X) → All P (x ∷ xs) → P x
all_head P x xs h = h zero x (omega arith)

pub all_tail : {X : Type 0} (P : X → Type 0) (x : X) (xs : List X) → All P (x ∷ xs) → All P xs
all_tail P x xs h = λ k d lt. h (suc k) d (omega (arith, lt))

-- names
pub names_kept : (n : ℕ) (a b : List (List ℕ)) (ks : List ℕ) → IsGrown n a b → NamesBelow (length a) ks → map (text_of b) ks ≡ map (text_of a) ks
names_kept n a b [] g h = refl
names_kept n a b (k ∷ ks) g h =
    rw (text_kept n a b k g (all_head (λ k. k < length a) k ks h), names_kept n a b ks g (all_tail (λ k. k < length a) k ks h)) refl

pub names_below : (m n : ℕ) (ks : List ℕ) → m ≤ n → NamesBelow m ks → NamesBelow n ks
names_below m n ks le h = λ k d lt. omega (arith, le, h k d lt)

-- rules
some_below : (m n : ℕ) (o : Option ℕ) → m ≤ n → IfSome o (λ k. k < m) → IfSome o (λ k. k < n)
some_below m n None le h = tt
some_below m n (Some k) le h = omega (arith, le, h)

rule_below : (m n : ℕ) (r : Rule) → m ≤ n → RuleBelow m (rule_of r) → RuleBelow n (rule_of r)
rule_below m n r le h = record {
  left = omega (arith, le, h.left);
  right = some_below m n r.right le h.right;
  left_after = omega (arith, le, h.left_after);
  right_after = some_below m n r.right_after le h.right_after;
}

pub rules_below : (m n : ℕ) (rs : List Rule) → m ≤ n → RulesBelow m rs → RulesBelow n rs
rules_below m n rs le h = λ k d lt. rule_below m n (get_or rs k d) le (h k d lt)

some_kept : (n : ℕ) (a b : List (List ℕ)) (o : Option ℕ) → IsGrown n a b → IfSome o (λ k. k < length a) → option_map (text_of b) o ≡ option_map (text_of a) o
some_kept n a b None g h = refl
some_kept n a b (Some k) g h = ap (λ (t : List ℕ). Some t) (text_kept n a b k g h)

rule_kept : (n : ℕ) (a b : List (List ℕ)) (r : Rule) → IsGrown n a b → RuleBelow (length a) (rule_of r) → named_rule b r ≡ named_rule a r
rule_kept n a b r g h =
    rw (text_kept n a b r.left g h.left, some_kept n a b r.right g h.right, text_kept n a b r.left_after g h.left_after, some_kept n a b r.right_after g h.right_after) refl

pub rules_kept : (n : ℕ) (a b : List (List ℕ)) (rs : List Rule) → IsGrown n a b → RulesBelow (length a) rs → map (named_rule b) rs ≡ map (named_rule a) rs
rules_kept n a b [] g h = refl
rules_kept n a b (r ∷ rs) g h =
    rw (rule_kept n a b r g (all_head (λ r. RuleBelow (length a) (rule_of r)) r rs h), rules_kept n a b rs g (all_tail (λ r. RuleBelow (length a) (rule_of r)) r rs h)) refl

-- texts that are names
texts_if : (b : Bool) (ts : List (List ℕ)) (t : List ℕ) → list_all is_name ts ≡ true → is_name t ≡ true → list_all is_name (if b then ts else ts ++ t ∷ []) ≡ true
texts_if true ts t h e = h
texts_if false ts t h e = list_all-append is_name ts (t ∷ []) ∙ both (list_all is_name ts) (is_name t && true) h (both (is_name t) true e refl)

pub texts_with : (ts : List (List ℕ)) (t : List ℕ) → list_all is_name ts ≡ true → is_name t ≡ true → list_all is_name (with_text ts t) ≡ true
texts_with ts t h e = texts_if (list_any (bytes_eq t) ts) ts t h e

-- a text that is there
text_any : (p : List ℕ → Bool) (ts : List (List ℕ)) (k : ℕ) (t : List ℕ) → slice_get ts k ≡ Some t → p t ≡ true → list_any p ts ≡ true
text_any p [] k t at is = cc
text_any p (u ∷ ts) zero t at is = let same : u ≡ t = cc in rw (same, is) refl
text_any p (u ∷ ts) (suc k) t at is = rw (text_any p ts k t at is, or-true) refl

pub known_text : (ts : List (List ℕ)) (k : ℕ) (t : List ℕ) → slice_get ts k ≡ Some t → with_text ts t ≡ ts
known_text ts k t at = ap (λ b. if b then ts else ts ++ t ∷ []) (text_any (bytes_eq t) ts k t at ((bytes_eq-Decides t t).1 refl))

pub known_here : (ts us : List (List ℕ)) (k : ℕ) (s t : List ℕ) → slice_get ts k ≡ Some s → s ≡ t → ts ≡ us → with_text us t ≡ us
known_here ts us k s t at same is = subst (λ vs. with_text vs t ≡ vs) is (known_text ts k t (at ∙ ap (λ v. Some v) same))

pub name_there : (ts : List (List ℕ)) (k : ℕ) (t : List ℕ) → list_all is_name ts ≡ true → slice_get ts k ≡ Some t → is_name t ≡ true
name_there [] k t all at = cc
name_there (u ∷ ts) zero t all at =
    let p = and_parts (is_name u) (list_all is_name ts) all in
    subst (λ v. is_name v ≡ true) (let e : u ≡ t = cc in e) p.0
name_there (u ∷ ts) (suc k) t all at = name_there ts k t (and_parts (is_name u) (list_all is_name ts) all).1 at

pub name_known : (ts : List (List ℕ)) (t : List ℕ) (o : Option ℕ) → list_all is_name ts ≡ true → is_none o ≡ false → IfSome o (λ k. slice_get ts k ≡ Some t) → is_name t ≡ true
name_known ts t None all some at = absurd (false≢true (sym some))
name_known ts t (Some k) all some at = name_there ts k t all at

pub text_there : (ts : List (List ℕ)) (k : ℕ) → k < length ts → slice_get ts k ≡ Some (text_of ts k)
text_there [] k lt = absurd (omega (arith, lt))
text_there (t ∷ ts) zero lt = refl
text_there (t ∷ ts) (suc k) lt = text_there ts k (omega (arith, lt))
