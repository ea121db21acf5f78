-- What the grammar reads is well formed.
use Rattle.std.proofs.Common.{ℕ, ◌≡◌, ◌<◌, ◌≤◌, List, [], ◌∷◌, length, map, filter, codes, refl, sym, ◌∙◌, ap, arith, Bool, true, false, not, ◌&&◌, ◌||◌, ◌==◌, nat_le, Option, Some, None, Result, Ok, Err, if◌then◌else◌, subst, ⊎_elim}
use Rattle.std.specs.List.{list_all, slice_split, onto_first}
use Rattle.std.specs.Char.{to_ascii_lowercase}
use Rattle.std.specs.Str.{bytes_eq}
use Rattle.std.proofs.lemmas.Bool.{and_parts, leb-true, le-leb, cases_Bool, not_from_false, false≢true}
use Rattle.std.proofs.lemmas.Slice.Eq.{bytes_eq-Decides}
use Rattle.surf_manifest_lines.specs.declared.error.ManifestError.{ManifestError}
use Rattle.surf_manifest_lines.specs.declared.error.ManifestError.TheVariants.{BadLine, BadOption}
use Rattle.surf_lattice.specs.declared.site.GridKind.TheVariants.{Square, Hex}
use Rattle.surf_text.specs.Bytes.{is_blank, is_filled, is_word, tokens_of, without_front, without_end, unless_last, trimmed, before, after, lacks}
use Rattle.surf_manifest_lines.specs.Line.{Line, Skipped, Opens, Closes, Includes, Unknown, Content, is_comment_sign, is_include, mark_of, line_of_text, line_of}
use Rattle.surf_manifest_lines.specs.Item.{Item, Geometry, Wrap, Kept, Rule, Row, Colour, is_name, item_of, option_from, setting_of, geometry_of, wrap_of, bracketed_rule, rated_rule, rule_of_tokens, rule_found, rule_from, rate_of, rule_line_of, one_test, two_test}
use Rattle.surf_manifest_lines.specs.WellFormed.{begins_content, is_text, is_option, is_colour, is_rule}
use Rattle.surf_manifest_lines.specs.declared.line.BlockKind.{BlockKind}
use Rattle.surf_world.specs.Systems as systems
use Rattle.surf_manifest_lines.specs.declared.line.BlockKind.TheVariants.{Rules, State, Colormap}

pub both : (a b : Bool) → a ≡ true → b ≡ true → (a && b) ≡ true
both a b p q = rw (p, q) refl

all_last : (p q : ℕ → Bool) (d : ℕ) (ds : List ℕ) → q d ≡ true → list_all q ds ≡ true → list_all q (unless_last p d ds) ≡ true
all_last p q d (e ∷ ds) x y = both (q d) (list_all q (e ∷ ds)) x y
all_last p q d [] x y = ⊎_elim (λ z. rw z refl) (λ z. rw z (both (q d) true x refl)) (cases_Bool (p d))

all_kept : (p q : ℕ → Bool) (ds : List ℕ) → list_all q ds ≡ true → list_all q (without_end p ds) ≡ true
all_kept p q [] h = refl
all_kept p q (d ∷ ds) h =
    let x = and_parts (q d) (list_all q ds) h in
    all_last p q d (without_end p ds) x.0 (all_kept p q ds x.1)

-- trimmed texts
front_kept : (p q : ℕ → Bool) (ds : List ℕ) → list_all q ds ≡ true → list_all q (without_front p ds) ≡ true
front_kept p q [] h = refl
front_kept p q (d ∷ ds) h = ⊎_elim (λ z. rw z (front_kept p q ds (and_parts (q d) (list_all q ds) h).1)) (λ z. rw z h) (cases_Bool (p d))

trim_kept : (q : ℕ → Bool) (ds : List ℕ) → list_all q ds ≡ true → list_all q (trimmed ds) ≡ true
trim_kept q ds h = all_kept is_blank q (without_front is_blank ds) (front_kept is_blank q ds h)

end_one : (p : ℕ → Bool) (x : ℕ) (b : Bool) → p x ≡ b → without_end p (if b then [] else x ∷ []) ≡ (if b then [] else x ∷ [])
end_one p x true h = refl
end_one p x false h = rw h refl

end_last : (p : ℕ → Bool) (x : ℕ) (ys : List ℕ) → without_end p ys ≡ ys → without_end p (unless_last p x ys) ≡ unless_last p x ys
end_last p x (y ∷ ys) h = ap (unless_last p x) h
end_last p x [] h = end_one p x (p x) refl

end_end : (p : ℕ → Bool) (xs : List ℕ) → without_end p (without_end p xs) ≡ without_end p xs
end_end p [] = refl
end_end p (x ∷ xs) = end_last p x (without_end p xs) (end_end p xs)

front_last : (p : ℕ → Bool) (b : ℕ) (ds : List ℕ) → p b ≡ false → without_front p (unless_last p b ds) ≡ unless_last p b ds
front_last p b [] h = rw (h, h) refl
front_last p b (d ∷ ds) h = rw h refl

front_end : (p : ℕ → Bool) (xs : List ℕ) → without_front p (without_end p (without_front p xs)) ≡ without_end p (without_front p xs)
front_end p [] = refl
front_end p (x ∷ xs) = ⊎_elim (λ z. rw z (front_end p xs)) (λ z. rw z (front_last p x (without_end p xs) z)) (cases_Bool (p x))

pub front_shorter : (p : ℕ → Bool) (xs : List ℕ) → length (without_front p xs) ≤ length xs
front_shorter p [] = omega arith
front_shorter p (x ∷ xs) = ⊎_elim (λ z. rw z (omega (arith, front_shorter p xs))) (λ z. rw z (omega arith)) (cases_Bool (p x))

front_head : (p : ℕ → Bool) (b : ℕ) (bs : List ℕ) → without_front p (b ∷ bs) ≡ b ∷ bs → p b ≡ false
front_head p b bs h =
    ⊎_elim
    (λ z. let e : without_front p bs ≡ without_front p (b ∷ bs) = rw z refl in
    absurd (omega (arith, front_shorter p bs, ap length (e ∙ h))))
    (λ z. z)
    (cases_Bool (p b))

text_from : (t : List ℕ) → without_front is_blank t ≡ t → without_end is_blank t ≡ t → lacks 10 t ≡ true → is_text t ≡ true
text_from t f e l = both _ _ ((bytes_eq-Decides (without_front is_blank t) t).1 f) (both _ _ ((bytes_eq-Decides (without_end is_blank t) t).1 e) l)

trimmed_text : (raw : List ℕ) → lacks 10 raw ≡ true → is_text (trimmed raw) ≡ true
trimmed_text raw h = text_from (trimmed raw) (front_end is_blank raw) (end_end is_blank (without_front is_blank raw)) (trim_kept (λ b. not (b == 10)) raw h)

-- lines
abbrev pub LineHolds : Line → Type 0
LineHolds Skipped = Unit {0}
LineHolds (Opens p) = Unit {0}
LineHolds (Closes p) = Unit {0}
LineHolds Includes = Unit {0}
LineHolds Unknown = Unit {0}
LineHolds (Content t) = (begins_content t ≡ true) × (is_text t ≡ true)

-- as a record, so that a call's arguments are found from it
pub record LineHeld (l : Line) : Type 0 where
  pub is : LineHolds l

marks_hold : (a b c d e f g : Bool) → LineHeld (if a then Opens Rules else (if b then Closes Rules else (if c then Opens State else (if d then Closes State else (if e then Opens Colormap else (if f then Closes Colormap else (if g then Includes else Unknown)))))))
marks_hold true b c d e f g = record { is = tt }
marks_hold false true c d e f g = record { is = tt }
marks_hold false false true d e f g = record { is = tt }
marks_hold false false false true e f g = record { is = tt }
marks_hold false false false false true f g = record { is = tt }
marks_hold false false false false false true g = record { is = tt }
marks_hold false false false false false false true = record { is = tt }
marks_hold false false false false false false false = record { is = tt }

mark_holds : (t : List ℕ) → LineHeld (mark_of t)
mark_holds t = marks_hold (bytes_eq t (codes "!START_TRANSITION_RULES")) (bytes_eq t (codes "!END_TRANSITION_RULES")) (bytes_eq t (codes "!START_INIT_STATE")) (bytes_eq t (codes "!END_INIT_STATE")) (bytes_eq t (codes "!START_COLORMAP")) (bytes_eq t (codes "!END_COLORMAP")) (is_include (tokens_of t))

content_holds : (u v : Bool) (t : List ℕ) → begins_content t ≡ not (u || v) → is_text t ≡ true → LineHeld (if u then Skipped else (if v then mark_of t else Content t))
content_holds true v t e h = (record { is = tt })
content_holds false true t e h = mark_holds t
content_holds false false t e h = record { is = (e, h) }

text_holds : (t : List ℕ) → is_text t ≡ true → LineHeld (line_of_text t)
text_holds [] h = (record { is = tt })
text_holds (b ∷ bs) h = content_holds (is_comment_sign b) (b == 33) (b ∷ bs) refl h

pub line_holds : (raw : List ℕ) → lacks 10 raw ≡ true → LineHeld (line_of raw)
line_holds raw h = text_holds (trimmed raw) (trimmed_text raw h)

-- items
abbrev pub ItemHolds : Item → Type 0
ItemHolds (Geometry k) = Unit {0}
ItemHolds (Wrap b) = Unit {0}
ItemHolds (Kept o) = is_option o ≡ true
ItemHolds (Rule r) = is_rule r ≡ true
ItemHolds (Row names) = (list_all is_name names ≡ true) × (0 < length names)
ItemHolds (Colour t) = is_colour t ≡ true

abbrev pub ResultHolds : Result Item ManifestError → Type 0
ResultHolds (Ok i) = ItemHolds i
ResultHolds (Err f) = Unit {0}

pub record ResultHeld (r : Result Item ManifestError) : Type 0 where
  pub is : ResultHolds r

if_holds : (b : Bool) (x y : Result Item ManifestError) → (b ≡ true → ResultHeld x) → (b ≡ false → ResultHeld y) → ResultHeld (if b then x else y)
if_holds true x y p q = p refl
if_holds false x y p q = q refl

geometry_holds : (n : ℕ) (v : List ℕ) → ResultHeld (geometry_of n v)
geometry_holds n v = if_holds (bytes_eq v (codes "square")) (Ok (Geometry Square)) _ (λ _. record { is = tt }) (λ _. if_holds (bytes_eq v (codes "hex")) (Ok (Geometry Hex)) (Err (BadOption n)) (λ _. record { is = tt }) (λ _. record { is = tt }))

wrap_holds : (n : ℕ) (v : List ℕ) → ResultHeld (wrap_of n v)
wrap_holds n v = if_holds (bytes_eq v (codes "true")) (Ok (Wrap true)) _ (λ _. record { is = tt }) (λ _. if_holds (bytes_eq v (codes "false")) (Ok (Wrap false)) (Err (BadOption n)) (λ _. record { is = tt }) (λ _. record { is = tt }))

setting_holds : (n : ℕ) (key value : List ℕ) → is_word key ≡ true → begins_content key ≡ true → lacks 61 key ≡ true → is_text value ≡ true → ResultHeld (setting_of n key value)
setting_holds n key value w b l v =
    if_holds (bytes_eq key (codes "geometry")) (geometry_of n (map to_ascii_lowercase value)) _ (λ _. geometry_holds n (map to_ascii_lowercase value)) (λ g. if_holds (bytes_eq key (codes "wrap")) (wrap_of n (map to_ascii_lowercase value)) (Ok (Kept (record { key = key; value = value }))) (λ _. wrap_holds n (map to_ascii_lowercase value))
    (λ r. record {
      is = both (is_word key && (begins_content key && lacks 61 key)) _ (both (is_word key) _ w (both (begins_content key) (lacks 61 key) b l))
          (both (not (bytes_eq key (codes "geometry"))) _ (not_from_false _ g) (both (not (bytes_eq key (codes "wrap"))) (is_text value) (not_from_false _ r) v));
    }))

before_lacks : (c : ℕ) (t : List ℕ) → lacks c (before c t) ≡ true
before_lacks c [] = refl
before_lacks c (b ∷ bs) = ⊎_elim (λ z. rw z refl) (λ z. rw z (both (not (b == c)) (lacks c (before c bs)) (not_from_false (b == c) z) (before_lacks c bs))) (cases_Bool (b == c))

abbrev AfterLacks : Option (List ℕ) → Type 0
AfterLacks None = Unit {0}
AfterLacks (Some t) = lacks 10 t ≡ true

after_lacks : (c : ℕ) (t : List ℕ) → lacks 10 t ≡ true → AfterLacks (after c t)
after_lacks c [] h = tt
after_lacks c (b ∷ bs) h = let p = and_parts (not (b == 10)) (lacks 10 bs) h in ⊎_elim (λ z. rw z p.1) (λ z. rw z (after_lacks c bs p.1)) (cases_Bool (b == c))

last_begins : (b : ℕ) (ds : List ℕ) → is_blank b ≡ false → begins_content (b ∷ []) ≡ true → begins_content (unless_last is_blank b ds) ≡ true
last_begins b [] filled h = rw filled h
last_begins b (d ∷ ds) filled h = h

front_here : (p : ℕ → Bool) (b : ℕ) (ds : List ℕ) → p b ≡ false → without_front p (b ∷ ds) ≡ b ∷ ds
front_here p b ds h = rw h refl

key_begins : (b : ℕ) (bs : List ℕ) → is_blank b ≡ false → begins_content (b ∷ bs) ≡ true → is_word (trimmed (before 61 (b ∷ bs))) ≡ true → begins_content (trimmed (before 61 (b ∷ bs))) ≡ true
key_begins b bs filled h w =
    ⊎_elim
    (λ z. let e : is_word (trimmed (before 61 (b ∷ bs))) ≡ false = rw z refl in absurd (false≢true (sym e ∙ w)))
    (λ z. let e : before 61 (b ∷ bs) ≡ b ∷ before 61 bs = rw z refl in
    ap (λ t. begins_content (trimmed t)) e
    ∙ (ap (λ t. begins_content (without_end is_blank t)) (front_here is_blank b (before 61 bs) filled)
    ∙ last_begins b (without_end is_blank (before 61 bs)) filled h))
    (cases_Bool (b == 61))

option_holds : (n : ℕ) (key : List ℕ) (o : Option (List ℕ)) → (is_word key ≡ true → begins_content key ≡ true) → lacks 61 key ≡ true → AfterLacks o → ResultHeld (option_from n key o)
option_holds n key None b l a = record { is = tt }
option_holds n key (Some v) b l a = if_holds (is_word key) (setting_of n key (trimmed v)) (Err (BadLine n)) (λ w. setting_holds n key (trimmed v) w (b w) l (trimmed_text v a)) (λ _. record { is = tt })

abbrev RateHolds : Option ℕ → Type 0
RateHolds None = Unit {0}
RateHolds (Some r) = r ≤ 1000000000000

if_rate : (b : Bool) (r : ℕ) → (b ≡ true → r ≤ 1000000000000) → RateHolds (if b then Some r else None)
if_rate true r h = h refl
if_rate false r h = tt

rate_holds : (t : List ℕ) → RateHolds (rate_of t)
rate_holds t = if_rate _ _ (λ e. leb-true _ 1000000000000 (and_parts _ _ (and_parts _ _ e).1).1)

names_one : (a c : List ℕ) → (is_name a && is_name c) ≡ true → (is_name a && (is_name c && true)) ≡ true
names_one a c h = let p = and_parts (is_name a) (is_name c) h in both (is_name a) (is_name c && true) p.0 (both (is_name c) true p.1 refl)

names_two : (a b c d : List ℕ) → (is_name a && (is_name b && (is_name c && is_name d))) ≡ true → (is_name a && (is_name c && (is_name b && is_name d))) ≡ true
names_two a b c d h =
    let p = and_parts (is_name a) (is_name b && (is_name c && is_name d)) h in
    let q = and_parts (is_name b) (is_name c && is_name d) p.1 in
    let r = and_parts (is_name c) (is_name d) q.1 in
    both (is_name a) (is_name c && (is_name b && is_name d)) p.0 (both (is_name c) (is_name b && is_name d) r.0 (both (is_name b) (is_name d) q.0 r.1))

abbrev RuleHolds : Option (systems.Rule (List ℕ)) → Type 0
RuleHolds None = Unit {0}
RuleHolds (Some r) = is_rule r ≡ true

if_rule : (b : Bool) (r : systems.Rule (List ℕ)) → (b ≡ true → is_rule r ≡ true) → RuleHolds (if b then Some r else None)
if_rule true r h = h refl
if_rule false r h = tt

tokens_hold : (rate : ℕ) (ts : List (List ℕ)) → rate ≤ 1000000000000 → RuleHolds (rule_of_tokens rate ts)
tokens_hold rate [] le = tt
tokens_hold rate (a ∷ []) le = tt
tokens_hold rate (a ∷ b ∷ []) le = tt
tokens_hold rate (a ∷ arrow ∷ c ∷ []) le =
    if_rule (one_test a arrow c) _
    (λ e. both _ _ (le-leb rate 1000000000000 le) (names_one a c (and_parts (bytes_eq arrow (codes "->")) (is_name a && is_name c) e).1))
tokens_hold rate (a ∷ b ∷ c ∷ d ∷ []) le = tt
tokens_hold rate (a ∷ b ∷ c ∷ d ∷ e ∷ []) le = tt
tokens_hold rate (a ∷ b ∷ c ∷ d ∷ e ∷ f ∷ []) le = tt
tokens_hold rate (a ∷ plus ∷ b ∷ arrow ∷ c ∷ also ∷ d ∷ []) le =
    if_rule (two_test a plus b arrow c also d) _
    (λ e. both _ _ (le-leb rate 1000000000000 le)
    (names_two a b c d (and_parts (bytes_eq plus (codes "+") && (bytes_eq arrow (codes "->") && bytes_eq also (codes "+"))) (is_name a && (is_name b && (is_name c && is_name d))) e).1))
tokens_hold rate (a ∷ b ∷ c ∷ d ∷ e ∷ f ∷ g ∷ h ∷ ts) le = tt

found_holds : (n : ℕ) (o : Option (systems.Rule (List ℕ))) → RuleHolds o → ResultHeld (rule_found n o)
found_holds n None h = record { is = tt }
found_holds n (Some r) h = record { is = h }

rule_holds : (n rate : ℕ) (ts : List (List ℕ)) → rate ≤ 1000000000000 → ResultHeld (rule_from n rate ts)
rule_holds n rate ts le = found_holds n (rule_of_tokens rate ts) (tokens_hold rate ts le)

rated_holds : (n : ℕ) (o : Option ℕ) (ts : List (List ℕ)) → RateHolds o → ResultHeld (rated_rule n o ts)
rated_holds n None ts h = record { is = tt }
rated_holds n (Some r) ts h = rule_holds n r ts h

bracket_holds : (n : ℕ) (inside : List ℕ) (o : Option (List ℕ)) → ResultHeld (bracketed_rule n inside o)
bracket_holds n inside None = record { is = tt }
bracket_holds n inside (Some rest) = rated_holds n (rate_of (trimmed inside)) (tokens_of rest) (rate_holds (trimmed inside))

token_first : (b : ℕ) (parts : List (List ℕ)) → 0 < length (filter is_filled (onto_first b parts))
token_first b [] = omega arith
token_first b (t ∷ ts) = omega arith

some_token : (b : ℕ) (bs : List ℕ) → is_blank b ≡ false → 0 < length (tokens_of (b ∷ bs))
some_token b bs h = rw h (token_first b (slice_split is_blank bs))

-- a rule of a line
rule_line_holds : (n : ℕ) (t : List ℕ) → ResultHeld (rule_line_of n t)
rule_line_holds n [] = record { is = tt }
rule_line_holds n (c ∷ cs) = if_holds (c == 40) _ _ (λ _. bracket_holds n (before 41 cs) (after 41 cs)) (λ _. rule_holds n 1000000 (tokens_of (c ∷ cs)) (omega arith))

held_rule : (r : Result Item ManifestError) (x : systems.Rule (List ℕ)) → r ≡ Ok (Rule x) → ResultHolds r → is_rule x ≡ true
held_rule r x e h = let P : Result Item ManifestError → Type 0 = ResultHolds in subst P e h

pub line_rule : (n : ℕ) (t : List ℕ) (x : systems.Rule (List ℕ)) → rule_line_of n t ≡ Ok (Rule x) → is_rule x ≡ true
line_rule n t x e = held_rule (rule_line_of n t) x e (rule_line_holds n t).is

pub item_holds : (n : ℕ) (block : Option BlockKind) (t : List ℕ) → begins_content t ≡ true → is_text t ≡ true → ResultHeld (item_of n block t)
item_holds n block [] b h = cc
item_holds n None (c ∷ cs) b h =
    let p = and_parts (bytes_eq (without_front is_blank (c ∷ cs)) (c ∷ cs)) (bytes_eq (without_end is_blank (c ∷ cs)) (c ∷ cs) && lacks 10 (c ∷ cs)) h in
    let q = and_parts (bytes_eq (without_end is_blank (c ∷ cs)) (c ∷ cs)) (lacks 10 (c ∷ cs)) p.1 in
    let filled = front_head is_blank c cs ((bytes_eq-Decides (without_front is_blank (c ∷ cs)) (c ∷ cs)).0 p.0) in
    option_holds n (trimmed (before 61 (c ∷ cs))) (after 61 (c ∷ cs)) (λ w. key_begins c cs filled b w) (trim_kept (λ x. not (x == 61)) (before 61 (c ∷ cs)) (before_lacks 61 (c ∷ cs))) (after_lacks 61 (c ∷ cs) q.1)
item_holds n (Some Rules) (c ∷ cs) b h = if_holds (c == 40) _ _ (λ _. bracket_holds n (before 41 cs) (after 41 cs)) (λ _. rule_holds n 1000000 (tokens_of (c ∷ cs)) (omega arith))
item_holds n (Some State) (c ∷ cs) b h =
    let p = and_parts (bytes_eq (without_front is_blank (c ∷ cs)) (c ∷ cs)) (bytes_eq (without_end is_blank (c ∷ cs)) (c ∷ cs) && lacks 10 (c ∷ cs)) h in
    let filled = front_head is_blank c cs ((bytes_eq-Decides (without_front is_blank (c ∷ cs)) (c ∷ cs)).0 p.0) in
    if_holds (list_all is_name (tokens_of (c ∷ cs))) _ _ (λ e. record { is = (e, some_token c cs filled) }) (λ _. record { is = tt })
item_holds n (Some Colormap) (c ∷ cs) b h = record { is = both (begins_content (c ∷ cs)) (is_text (c ∷ cs)) b h }

-- the names of a rule
pub one_names : (rate : ℕ) (a c : List ℕ) → is_rule (record { rate = rate; left = a; right = None; left_after = c; right_after = None }) ≡ true → (is_name a && is_name c) ≡ true
one_names rate a c h =
    let p = and_parts (nat_le rate 1000000000000) (is_name a && (is_name c && true)) h in
    let q = and_parts (is_name a) (is_name c && true) p.1 in
    both (is_name a) (is_name c) q.0 (and_parts (is_name c) true q.1).0

two_parts : (rate : ℕ) (a b c d : List ℕ) → is_rule (record { rate = rate; left = a; right = Some b; left_after = c; right_after = Some d }) ≡ true
    → ((is_name a && is_name b) ≡ true) × ((is_name c && is_name d) ≡ true)
two_parts rate a b c d h =
    let p = and_parts (nat_le rate 1000000000000) (is_name a && (is_name c && (is_name b && is_name d))) h in
    let q = and_parts (is_name a) (is_name c && (is_name b && is_name d)) p.1 in
    let r = and_parts (is_name c) (is_name b && is_name d) q.1 in
    let s = and_parts (is_name b) (is_name d) r.1 in
    (both (is_name a) (is_name b) q.0 s.0, both (is_name c) (is_name d) r.0 s.1)

pub first_names : (rate : ℕ) (a b c d : List ℕ) → is_rule (record { rate = rate; left = a; right = Some b; left_after = c; right_after = Some d }) ≡ true → (is_name a && is_name b) ≡ true
first_names rate a b c d h = (two_parts rate a b c d h).0

pub second_names : (rate : ℕ) (a b c d : List ℕ) → is_rule (record { rate = rate; left = a; right = Some b; left_after = c; right_after = Some d }) ≡ true → (is_name c && is_name d) ≡ true
second_names rate a b c d h = (two_parts rate a b c d h).1
