-- The fields of a manifest: names, rates and changes.
use Rattle.std.proofs.Common.{ℕ, zero, suc, ◌≡◌, ◌<◌, ◌≤◌, List, [], ◌∷◌, length, map, refl, sym, subst, ◌∙◌, ap, arith, true, ◌&&◌, nat_le, Option, Some, None, Result, Ok, Err, is_some, OnOk, OnErr, All, IfSome, get_or}
use Rattle.std.specs.List.{list_all}
use Rattle.std.specs.Option.{option_map}
use Rattle.std.proofs.lemmas.Bool.{and_parts, le-leb, leb-true}
use Rattle.std.proofs.lemmas.List.Elements.{All-map}
use Rattle.surf_base.specs.declared.outside.NoMemory.{NoMemory}
use Rattle.surf_lattice.specs.Grids.{Grid}
use Rattle.surf_rules.specs.Names.{text_of, with_text, AreDistinct}
use Rattle.surf_rules.specs.declared.rule.Rule.{Rule}
use Rattle.surf_world.specs.Renamings.{RuleBelow, renamed_rule}
use Rattle.surf_world.specs.Worlds.{rule_of}
use Rattle.surf_manifest.specs.Drafts.{IsGrown, named_rule, RulesBelow, NamesBelow}
use Rattle.surf_manifest_lines.specs.Item.{is_name}
use Rattle.surf_manifest.specs.declared.manifest.Manifest.TheInside.{Inside}
use Rattle.surf_manifest.specs.Manifests.{IsManifest, text_by}
use Rattle.surf_manifest.specs.Numbered.{IsNumbered}
use Rattle.surf_manifest_lines.specs.WellFormed.{is_rule, are_seconds}
use Rattle.surf_manifest.proofs.Growth.{all_head, all_tail, grown_by, names_kept, rules_kept, texts_with}
use Rattle.surf_manifest_lines.proofs.WellFormed.{both}

-- numbers in range stand for names
pub text_good : (ts : List (List ℕ)) (k : ℕ) → list_all is_name ts ≡ true → k < length ts → is_name (text_of ts k) ≡ true
text_good [] k h lt = absurd (omega (arith, lt))
text_good (t ∷ ts) zero h lt = (and_parts (is_name t) (list_all is_name ts) h).0
text_good (t ∷ ts) (suc k) h lt = text_good ts k (and_parts (is_name t) (list_all is_name ts) h).1 (omega (arith, lt))

pub names_good : (ts : List (List ℕ)) (ks : List ℕ) → list_all is_name ts ≡ true → NamesBelow (length ts) ks → list_all is_name (map (text_of ts) ks) ≡ true
names_good ts [] h below = refl
names_good ts (k ∷ ks) h below =
    both (is_name (text_of ts k)) (list_all is_name (map (text_of ts) ks)) (text_good ts k h (all_head (λ k. k < length ts) k ks below)) (names_good ts ks h (all_tail (λ k. k < length ts) k ks below))

seconds_good : (ts : List (List ℕ)) (o p : Option ℕ) → is_some o ≡ is_some p → list_all is_name ts ≡ true → IfSome o (λ k. k < length ts) → IfSome p (λ k. k < length ts)
    → are_seconds (option_map (text_of ts) o) (option_map (text_of ts) p) ≡ true
seconds_good ts None None e h a b = refl
seconds_good ts None (Some k) e h a b = cc
seconds_good ts (Some j) None e h a b = cc
seconds_good ts (Some j) (Some k) e h a b = both (is_name (text_of ts j)) (is_name (text_of ts k)) (text_good ts j h a) (text_good ts k h b)

rule_good : (ts : List (List ℕ)) (r : Rule) → list_all is_name ts ≡ true → RuleBelow (length ts) (rule_of r) → r.rate ≤ 1000000000000 → is_rule (named_rule ts r) ≡ true
rule_good ts r h b le =
    let seconds = are_seconds (option_map (text_of ts) r.right) (option_map (text_of ts) r.right_after) in
    both (nat_le r.rate 1000000000000) (is_name (text_of ts r.left) && (is_name (text_of ts r.left_after) && seconds)) (le-leb r.rate 1000000000000 le)
    (both (is_name (text_of ts r.left)) (is_name (text_of ts r.left_after) && seconds) (text_good ts r.left h b.left)
    (both (is_name (text_of ts r.left_after)) seconds (text_good ts r.left_after h b.left_after)
    (seconds_good ts r.right r.right_after r.paired h b.right b.right_after)))

pub rules_good : (ts : List (List ℕ)) (rs : List Rule) → list_all is_name ts ≡ true → RulesBelow (length ts) rs → All (λ r. r.rate ≤ 1000000000000) rs → list_all is_rule (map (named_rule ts) rs) ≡ true
rules_good ts [] h below rates = refl
rules_good ts (r ∷ rs) h below rates =
    both (is_rule (named_rule ts r)) (list_all is_rule (map (named_rule ts) rs))
    (rule_good ts r h (all_head (λ r. RuleBelow (length ts) (rule_of r)) r rs below) (all_head (λ r. r.rate ≤ 1000000000000) r rs rates))
    (rules_good ts rs h (all_tail (λ r. RuleBelow (length ts) (rule_of r)) r rs below) (all_tail (λ r. r.rate ≤ 1000000000000) r rs rates))

-- rates of good rules
one : (ts : List (List ℕ)) (r : Rule) (rs : List Rule) (k : ℕ) (d : Rule) → list_all is_rule (map (named_rule ts) (r ∷ rs)) ≡ true → k < length (r ∷ rs) → (get_or (r ∷ rs) k d).rate ≤ 1000000000000
one ts r rs zero d h lt = leb-true r.rate 1000000000000 (and_parts _ _ (and_parts (is_rule (named_rule ts r)) (list_all is_rule (map (named_rule ts) rs)) h).0).0
one ts r [] (suc k) d h lt = absurd (omega (arith, lt))
one ts r (q ∷ rs) (suc k) d h lt = one ts q rs k d (and_parts (is_rule (named_rule ts r)) (list_all is_rule (map (named_rule ts) (q ∷ rs))) h).1 (omega (arith, lt))

pub rates_from : (ts : List (List ℕ)) (rs : List Rule) → list_all is_rule (map (named_rule ts) rs) ≡ true → All (λ r. r.rate ≤ 1000000000000) rs
rates_from ts [] h = λ k d lt. absurd (omega (arith, lt))
rates_from ts (r ∷ rs) h = λ k d lt. one ts r rs k d h lt

-- the same manifest over more names
pub text_interned : (n : ℕ) (a : Inside) (b : List (List ℕ)) → IsManifest a → IsGrown n a.names b → text_by (record a { names = b }) ≡ text_by a
text_interned n a b m g = rw (rules_kept n a.names b a.rules.items g m.rules, names_kept n a.names b a.start.items g m.start) refl

-- an interned text
pub interned : (r : Result ℕ NoMemory) (a b : List (List ℕ)) (t : List ℕ) → OnOk r (b ≡ with_text a t) → OnErr r (b ≡ a) → IsGrown 1 a b
interned (Ok k) a b t ok err = grown_by a b t ok
interned (Err e) a b t ok err = subst (λ v. IsGrown 1 a v) (sym err) (record { longer = omega arith; most = omega arith; kept = λ k lt. refl })

pub interned_texts : (r : Result ℕ NoMemory) (a b : List (List ℕ)) (t : List ℕ) → OnOk r (b ≡ with_text a t) → OnErr r (b ≡ a) → list_all is_name a ≡ true → is_name t ≡ true → list_all is_name b ≡ true
interned_texts (Ok k) a b t ok err h e = ap (λ v. list_all is_name v) ok ∙ texts_with a t h e
interned_texts (Err e) a b t ok err h n = ap (λ v. list_all is_name v) err ∙ h

-- rules over numbers
named_twice : (ts : List (List ℕ)) (rs : List Rule) → map (renamed_rule (text_of ts)) (map rule_of rs) ≡ map (named_rule ts) rs
named_twice ts [] = refl
named_twice ts (r ∷ rs) = ap (λ v. named_rule ts r ∷ v) (named_twice ts rs)

pub numbered : (g : Grid) (rs : List Rule) (ks : List ℕ) (ts : List (List ℕ)) → AreDistinct ts → RulesBelow (length ts) rs → NamesBelow (length ts) ks
    → IsNumbered (record { surface = record { grid = g; rules = map (named_rule ts) rs }; start = map (text_of ts) ks }) (record { surface = record { grid = g; rules = map rule_of rs }; names = ks }) ts
numbered g rs ks ts distinct rules names = record {
  named = ap (λ v. record { surface = record { grid = g; rules = v }; start = map (text_of ts) ks }) (named_twice ts rs);
  distinct = distinct;
  below = record { in_rules = All-map (RuleBelow (length ts)) rule_of rs rules; in_names = names };
}
