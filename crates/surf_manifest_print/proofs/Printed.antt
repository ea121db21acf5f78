-- What the printed lines are, each by itself.
use Rattle.std.proofs.Common.{ℕ, ◌≡◌, ◌/◌, ◌%◌, ◌^◌, ◌<◌, ◌≤◌, List, [], ◌∷◌, ◌++◌, length, codes, refl, sym, ◌∙◌, ap, subst, arith, Bool, true, false, not, ◌&&◌, ◌||◌, ◌==◌, nat_lt, Option, Some, None, Ok, append-nil, ⊎_elim, inl}
use Rattle.std.specs.List.{list_all}
use Rattle.std.specs.Str.{bytes_eq}
use Rattle.std.specs.Fmt.{decimal}
use Rattle.std.proofs.lemmas.Bool.{and_parts, not-true, ltb-true, cases_Bool, eqb-false, false≢true}
use Rattle.std.proofs.lemmas.Slice.Eq.{bytes_eq-Decides}
use Rattle.std.proofs.lemmas.List.Folds.{list_all-append}
use Rattle.surf_world.specs.Systems as systems
use Rattle.surf_text.specs.Bytes.{is_filled, is_plain, is_word, is_blank, lacks, after, trimmed, without_front, without_end, tokens_of, spaced}
use Rattle.surf_manifest_lines.specs.Line.{Skipped, Content, line_of, is_comment_sign}
use Rattle.surf_manifest_lines.specs.declared.line.BlockKind.TheVariants.{Rules, State}
use Rattle.surf_manifest_lines.specs.declared.options.OptionLine.{OptionLine}
use Rattle.surf_manifest_lines.specs.Item.{Kept, Rule, Row, is_name, item_of, option_of, option_from, rule_line_of, bracketed_rule, rated_rule, rule_from, rate_of}
use Rattle.surf_manifest_lines.specs.WellFormed.{begins_content, is_text, is_option, is_colour, are_seconds}
use Rattle.surf_manifest_print.specs.declared.legend.Place.{Place}
use Rattle.surf_manifest_print.specs.Legends.{is_place}
use Rattle.surf_manifest_print.specs.Prints.{six_digits, option_text, rate_text, fraction_text, rule_text, rule_tokens, place_text, events_text}
use Rattle.surf_manifest_print.proofs.Texts.{both, plain_lacks, lacks_more, end_more, end_plain, end_blank, word_front, word_plain, word_filled, filled_more, before_more, after_more, tokens_spaced, spaced_filled, spaced_end, spaced_front, spaced_lacks, content_line, comment_line, begins_more}
use Rattle.surf_manifest_print.proofs.Rates.{spells, digits_lack, digits_plain, decimal_word, is_its_fraction, rate_read}

-- a line that is content, with its text
pub record IsContent (t : List ℕ) : Type 0 where
  pub line : line_of t ≡ Content t
  pub one_line : lacks 10 t ≡ true

-- names
sign_parts : (c m p : Bool) → not (c || (m || p)) ≡ true → not (c || m) ≡ true
sign_parts true m p h = cc
sign_parts false true p h = cc
sign_parts false false p h = refl

pub name_begins : (t : List ℕ) → is_name t ≡ true → begins_content t ≡ true
name_begins [] h = cc
name_begins (b ∷ bs) h =
    let p = and_parts (list_all is_plain (b ∷ bs)) _ h in
    let q = and_parts (not (bytes_eq (b ∷ bs) (codes "+"))) _ p.1 in
    let r = and_parts (not (bytes_eq (b ∷ bs) (codes "->"))) _ q.1 in
    sign_parts (is_comment_sign b) (b == 33) (b == 40) r.1

pub name_word : (t : List ℕ) → is_name t ≡ true → is_word t ≡ true
name_word [] h = cc
name_word (b ∷ bs) h = (and_parts (list_all is_plain (b ∷ bs)) _ h).0

pub names_words : (ts : List (List ℕ)) → list_all is_name ts ≡ true → list_all is_word ts ≡ true
names_words [] h = refl
names_words (t ∷ ts) h =
    let p = and_parts (is_name t) (list_all is_name ts) h in
    both (is_word t) (list_all is_word ts) (name_word t p.0) (names_words ts p.1)

-- a row of names
spaced_begins : (t : List ℕ) (ts : List (List ℕ)) → is_name t ≡ true → begins_content (spaced (t ∷ ts)) ≡ true
spaced_begins t [] h = name_begins t h
spaced_begins t (u ∷ ts) h = begins_more t (32 ∷ spaced (u ∷ ts)) (name_begins t h)

pub row_content : (ts : List (List ℕ)) → 0 < length ts → list_all is_name ts ≡ true → IsContent (spaced ts)
row_content [] lt h = absurd (omega arith)
row_content (t ∷ ts) lt h =
    let p = and_parts (is_name t) (list_all is_name ts) h in
    let w = names_words (t ∷ ts) h in
    record {
      line = content_line (spaced (t ∷ ts)) (spaced_begins t ts p.0) (spaced_front t ts (name_word t p.0)) (spaced_end (t ∷ ts) w);
      one_line = spaced_lacks 10 (t ∷ ts) (omega arith) w;
    }

pub row_read : (n : ℕ) (ts : List (List ℕ)) → list_all is_name ts ≡ true → item_of n (Some State) (spaced ts) ≡ Ok (Row ts)
row_read n ts h = rw (tokens_spaced ts (names_words ts h), h) refl

-- texts of the colormap, and values
same_bytes : (xs ys : List ℕ) → bytes_eq xs ys ≡ true → xs ≡ ys
same_bytes xs ys h = (bytes_eq-Decides xs ys).0 h

pub record IsText (t : List ℕ) : Type 0 where
  pub front : without_front is_blank t ≡ t
  pub back : without_end is_blank t ≡ t
  pub one_line : lacks 10 t ≡ true

pub text_parts : (t : List ℕ) → is_text t ≡ true → IsText t
text_parts t h =
    let p = and_parts (bytes_eq (without_front is_blank t) t) (bytes_eq (without_end is_blank t) t && lacks 10 t) h in
    let q = and_parts (bytes_eq (without_end is_blank t) t) (lacks 10 t) p.1 in
    record { front = same_bytes _ t p.0; back = same_bytes _ t q.0; one_line = q.1 }

pub colour_content : (t : List ℕ) → is_colour t ≡ true → IsContent t
colour_content t h =
    let p = and_parts (begins_content t) (is_text t) h in
    let x = text_parts t p.1 in
    record { line = content_line t p.0 x.front x.back; one_line = x.one_line }

-- options
key_front : (key rest : List ℕ) → is_word key ≡ true → trimmed (key ++ 32 ∷ []) ≡ key
key_front key rest h = ap (without_end is_blank) (word_front key (32 ∷ []) h) ∙ end_blank key (word_plain key h)

pub record IsKey (key : List ℕ) : Type 0 where
  pub word : is_word key ≡ true
  pub begins : begins_content key ≡ true
  pub free : lacks 61 key ≡ true
  pub other : bytes_eq key (codes "geometry") ≡ false
  pub another : bytes_eq key (codes "wrap") ≡ false

pub record IsOption (o : OptionLine) : Type 0 where
  pub key : IsKey o.key
  pub value : IsText o.value

pub option_parts : (o : OptionLine) → is_option o ≡ true → IsOption o
option_parts o h =
    let p = and_parts (is_word o.key && (begins_content o.key && lacks 61 o.key)) _ h in
    let q = and_parts (is_word o.key) (begins_content o.key && lacks 61 o.key) p.0 in
    let r = and_parts (begins_content o.key) (lacks 61 o.key) q.1 in
    let s = and_parts (not (bytes_eq o.key (codes "geometry"))) _ p.1 in
    let t = and_parts (not (bytes_eq o.key (codes "wrap"))) (is_text o.value) s.1 in
    record {
      key = record { word = q.0; begins = r.0; free = r.1; other = not-true _ s.0; another = not-true _ t.0 };
      value = text_parts o.value t.1;
    }

option_from_parts : (n : ℕ) (key rest value : List ℕ) → IsKey key → trimmed rest ≡ value
    → option_of n (key ++ 32 ∷ 61 ∷ rest) ≡ Ok (Kept (record { key = key; value = value }))
option_from_parts n key rest value k is =
    ap (λ b. option_from n (trimmed b) (after 61 (key ++ 32 ∷ 61 ∷ rest))) (before_more 61 key (32 ∷ 61 ∷ rest) k.free)
    ∙ (ap (λ b. option_from n b (after 61 (key ++ 32 ∷ 61 ∷ rest))) (key_front key rest k.word)
    ∙ (ap (option_from n key) (after_more 61 key (32 ∷ 61 ∷ rest) k.free)
    ∙ rw (k.word, is, k.other, k.another) refl))

pub option_read : (n : ℕ) (key value : List ℕ) → IsKey key → IsText value
    → item_of n None (option_text (record { key = key; value = value })) ≡ Ok (Kept (record { key = key; value = value }))
option_read n key [] k v = option_from_parts n key [] [] k refl
option_read n key (b ∷ bs) k v = option_from_parts n key (32 ∷ b ∷ bs) (b ∷ bs) k (ap (without_end is_blank) v.front ∙ v.back)

key_content : (key rest : List ℕ) → IsKey key → is_filled rest ≡ true → without_end is_blank rest ≡ rest → lacks 10 rest ≡ true → IsContent (key ++ rest)
key_content key rest k some back one = record {
  line = content_line (key ++ rest) (begins_more key rest k.begins) (word_front key rest k.word) (end_more is_blank key rest some back);
  one_line = lacks_more 10 key rest (plain_lacks 10 key (omega arith) (word_plain key k.word)) one;
}

pub option_content : (key value : List ℕ) → IsKey key → IsText value → IsContent (option_text (record { key = key; value = value }))
option_content key [] k v = key_content key (32 ∷ 61 ∷ []) k refl refl refl
option_content key (b ∷ bs) k v = key_content key (32 ∷ 61 ∷ 32 ∷ b ∷ bs) k refl (end_more is_blank (32 ∷ 61 ∷ 32 ∷ []) (b ∷ bs) refl v.back) v.one_line

-- rules
pub record IsRateText (t : List ℕ) : Type 0 where
  pub word : is_word t ≡ true
  pub free : lacks 41 t ≡ true

with_fraction : (ds fs : List ℕ) → is_word ds ≡ true → lacks 41 ds ≡ true → list_all is_plain fs ≡ true → lacks 41 fs ≡ true → IsRateText (ds ++ 46 ∷ fs)
with_fraction ds fs w free plain none = record {
  word = both (is_filled (ds ++ 46 ∷ fs)) (list_all is_plain (ds ++ 46 ∷ fs)) (filled_more ds (46 ∷ fs) (word_filled ds w))
      (list_all-append is_plain ds (46 ∷ fs) ∙ both (list_all is_plain ds) (list_all is_plain fs) (word_plain ds w) plain);
  free = lacks_more 41 ds (46 ∷ fs) free none;
}

rate_plain : (q m : ℕ) → q < 2 ^ 64 → m < 1000000 → IsRateText (decimal q ++ fraction_text m)
rate_plain q m small lt =
    let s = spells q small in
    let w = decimal_word q small in
    let free = digits_lack 41 (decimal q) (inl (omega arith)) s.digits in
    ⊎_elim
    (λ z. rw z (subst (λ t. IsRateText t) (sym (append-nil (decimal q))) (record { word = w; free = free })))
    (λ z. let f = is_its_fraction m (omega (arith, eqb-false m 0 z)) lt in
    rw z (with_fraction (decimal q) _ w free (digits_plain (without_end (λ d. d == 48) (six_digits m)) f.digits) (digits_lack 41 (without_end (λ d. d == 48) (six_digits m)) (inl (omega arith)) f.digits)))
    (cases_Bool (m == 0))

pub rate_is_text : (rate : ℕ) → rate ≤ 1000000000000 → IsRateText (rate_text rate)
rate_is_text rate le = rate_plain (rate / 1000000) (rate % 1000000) (omega arith) (omega arith)

word_trimmed : (t : List ℕ) → is_word t ≡ true → trimmed t ≡ t
word_trimmed t h = ap (without_end is_blank) (ap (without_front is_blank) (sym (append-nil t)) ∙ (word_front t [] h ∙ append-nil t)) ∙ end_plain t (word_plain t h)

rule_line_parts : (n rate : ℕ) (t : List ℕ) (ts : List (List ℕ)) → IsRateText t → rate_of t ≡ Some rate → list_all is_word ts ≡ true
    → rule_line_of n (40 ∷ (t ++ (41 ∷ 32 ∷ spaced ts))) ≡ rule_from n rate ts
rule_line_parts n rate t ts x is w =
    ap (λ b. bracketed_rule n b (after 41 (t ++ (41 ∷ 32 ∷ spaced ts)))) (before_more 41 t (41 ∷ 32 ∷ spaced ts) x.free ∙ append-nil t)
    ∙ (ap (bracketed_rule n t) (after_more 41 t (41 ∷ 32 ∷ spaced ts) x.free)
    ∙ (ap (λ b. rated_rule n (rate_of b) (tokens_of (32 ∷ spaced ts))) (word_trimmed t x.word)
    ∙ (ap (λ o. rated_rule n o (tokens_of (32 ∷ spaced ts))) is ∙ ap (rule_from n rate) (tokens_spaced ts w))))

rule_content_parts : (t : List ℕ) (ts : List (List ℕ)) → IsRateText t → 0 < length ts → list_all is_word ts ≡ true → IsContent (40 ∷ (t ++ (41 ∷ 32 ∷ spaced ts)))
rule_content_parts t [] x lt w = absurd (omega arith)
rule_content_parts t (u ∷ ts) x lt w =
    let p = and_parts (is_word u) (list_all is_word ts) w in
    let tail = end_more is_blank (41 ∷ 32 ∷ []) (spaced (u ∷ ts)) (spaced_filled u ts p.0) (spaced_end (u ∷ ts) w) in
    record {
      line = content_line _ refl refl (end_more is_blank (40 ∷ []) (t ++ (41 ∷ 32 ∷ spaced (u ∷ ts))) (filled_more t (41 ∷ 32 ∷ spaced (u ∷ ts)) (word_filled t x.word)) (end_more is_blank t (41 ∷ 32 ∷ spaced (u ∷ ts)) refl tail));
      one_line = lacks_more 10 t (41 ∷ 32 ∷ spaced (u ∷ ts)) (plain_lacks 10 t (omega arith) (word_plain t x.word)) (spaced_lacks 10 (u ∷ ts) (omega arith) w);
    }

-- a line of a rule, as it is printed and read
pub record IsRuleLine (r : systems.Rule (List ℕ)) : Type 0 where
  pub content : IsContent (rule_text r)
  pub read : (n : ℕ) → item_of n (Some Rules) (rule_text r) ≡ Ok (Rule r)

rule_line_from : (r : systems.Rule (List ℕ)) (ts : List (List ℕ)) → rule_tokens r ≡ ts → r.rate ≤ 1000000000000 → 0 < length ts
    → list_all is_word ts ≡ true → ((n : ℕ) → rule_from n r.rate ts ≡ Ok (Rule r)) → IsRuleLine r
rule_line_from r ts is le lt w read =
    let t = rate_is_text r.rate le in
    subst (λ us. list_all is_word us ≡ true → 0 < length us → ((n : ℕ) → rule_from n r.rate us ≡ Ok (Rule r)) → IsRuleLine r) is
    (λ v some reads. record {
      content = rule_content_parts (rate_text r.rate) (rule_tokens r) t some v;
      read = λ n. rule_line_parts n r.rate (rate_text r.rate) (rule_tokens r) t (rate_read r.rate le) v ∙ reads n;
    }) w lt read

pub rule_is_line : (rate : ℕ) (a : List ℕ) (o : Option (List ℕ)) (c : List ℕ) (p : Option (List ℕ)) → rate ≤ 1000000000000
    → (is_name a && (is_name c && are_seconds o p)) ≡ true → IsRuleLine (record { rate = rate; left = a; right = o; left_after = c; right_after = p })
rule_is_line rate a None c None le h =
    let p = and_parts (is_name a) (is_name c && true) h in
    let q = and_parts (is_name c) true p.1 in
    rule_line_from _ (a ∷ codes "->" ∷ c ∷ []) refl le (omega arith) (rw (name_word a p.0, name_word c q.0) refl) (λ n. rw (p.0, q.0) refl)
rule_is_line rate a None c (Some d) le h =
    let p = and_parts (is_name a) (is_name c && false) h in
    absurd (false≢true (and_parts (is_name c) false p.1).1)
rule_is_line rate a (Some b) c None le h =
    let p = and_parts (is_name a) (is_name c && false) h in
    absurd (false≢true (and_parts (is_name c) false p.1).1)
rule_is_line rate a (Some b) c (Some d) le h =
    let p = and_parts (is_name a) (is_name c && (is_name b && is_name d)) h in
    let q = and_parts (is_name c) (is_name b && is_name d) p.1 in
    let s = and_parts (is_name b) (is_name d) q.1 in
    rule_line_from _ (a ∷ codes "+" ∷ b ∷ codes "->" ∷ c ∷ codes "+" ∷ d ∷ []) refl le (omega arith)
    (rw (name_word a p.0, name_word b s.0, name_word c q.0, name_word d s.1) refl) (λ n. rw (p.0, s.0, q.0, s.1) refl)

-- legend lines
pub record IsSkipped (t : List ℕ) : Type 0 where
  pub line : line_of t ≡ Skipped
  pub one_line : lacks 10 t ≡ true

words_3 : (a b c : List ℕ) → is_word a ≡ true → is_word b ≡ true → is_word c ≡ true → list_all is_word (a ∷ b ∷ c ∷ []) ≡ true
words_3 a b c p q r = both (is_word a) _ p (both (is_word b) _ q (both (is_word c) true r refl))

pub place_skipped : (word : List ℕ) (p : Place) → is_word word ≡ true → is_place p ≡ true → IsSkipped (place_text word p)
place_skipped word p w h =
    let q = and_parts (is_word p.name) (nat_lt p.site.x (2 ^ 32) && nat_lt p.site.y (2 ^ 32)) h in
    let r = and_parts (nat_lt p.site.x (2 ^ 32)) (nat_lt p.site.y (2 ^ 32)) q.1 in
    let x = decimal_word p.site.x (omega (arith, ltb-true p.site.x (2 ^ 32) r.0)) in
    let y = decimal_word p.site.y (omega (arith, ltb-true p.site.y (2 ^ 32) r.1)) in
    record {
      line = comment_line (32 ∷ (codes "surf" ++ 32 ∷ (word ++ (32 ∷ (p.name ++ (32 ∷ (decimal p.site.x ++ 32 ∷ decimal p.site.y)))))));
      one_line = spaced_lacks 10 (codes "#" ∷ codes "surf" ∷ word ∷ p.name ∷ decimal p.site.x ∷ decimal p.site.y ∷ []) (omega arith)
          (both (is_word word) _ w (words_3 p.name (decimal p.site.x) (decimal p.site.y) q.0 x y));
    }

pub events_skipped : (n : ℕ) → n < 2 ^ 64 → IsSkipped (events_text n)
events_skipped n lt = record {
  line = comment_line (32 ∷ (codes "surf" ++ 32 ∷ (codes "events" ++ 32 ∷ decimal n)));
  one_line = spaced_lacks 10 (codes "#" ∷ codes "surf" ∷ codes "events" ∷ decimal n ∷ []) (omega arith) (both (is_word (decimal n)) true (decimal_word n lt) refl);
}
