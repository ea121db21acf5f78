-- A legend that is read has words for names, and its inputs stand apart.
use Rattle.std.proofs.Common.{ℕ, zero, suc, ◌≡◌, ◌+◌, ◌<◌, List, [], ◌∷◌, ◌++◌, length, refl, sym, ◌∙◌, ap, arith, Bool, true, false, ◌&&◌, ◌||◌, ◌==◌, ◌≤◌, ◌^◌, nat_le, nat_lt, Option, Some, None, Result, Ok, Err, cond, slice_get, ⊎_elim, subst, ◌⊎◌, inl, inr}
use Rattle.std.specs.List.{list_all}
use Rattle.std.specs.Prelude.{bytes_eq, codes, IfOk}
use Rattle.std.proofs.lemmas.Bool.{and_parts, cases_Bool, eqb-true, eq-eqb, false≢true, ltb-true, lt-ltb}
use Rattle.std.proofs.lemmas.Option.{slice_get_past}
use Rattle.std.proofs.lemmas.List.Folds.{list_all-append}
use Rattle.surf_base.specs.Decimal.{decimal_of, decimal_below, if_below, is_digit, value_from}
use Rattle.surf_lattice.specs.Grids.{site_from}
use Rattle.surf_lattice.specs.declared.site.Site.{Site}
use Rattle.surf_text.specs.Bytes.{lines_of, tokens_of, is_word}
use Rattle.surf_manifest_print.specs.declared.legend.Place.{Place}
use Rattle.surf_manifest_print.specs.declared.legend_error.LegendError.{LegendError}
use Rattle.surf_manifest_print.specs.declared.legend_line.LegendLine.{LegendLine}
use Rattle.surf_manifest_print.specs.declared.legend_line.LegendLine.TheVariants.{Other, Input, Output, Events, Faulty}
use Rattle.surf_manifest_print.specs.Legends.{LegendText, has_word, HasWords, is_place, IsLegend, has_site, AreApart}
use Rattle.surf_manifest_print.specs.LegendTexts.{site_of, place_from, place_of, input_line, output_line, number_line, events_line, surf_line, tokens_line, legend_line, LegendParts, with_events, with_line, legend_from, unless_bad, legend_in, legend_of}
use Rattle.surf_manifest_print.proofs.Texts.{both}

-- sites
abbrev pub same_site : Site → Site → Bool
same_site p s = (p.x == s.x) && (p.y == s.y)

site_is : (p s : Site) → same_site p s ≡ true → p ≡ s
site_is p s h =
    let q = and_parts (p.x == s.x) (p.y == s.y) h in
    let x : p.x ≡ s.x = eqb-true p.x s.x q.0 in
    let y : p.y ≡ s.y = eqb-true p.y s.y q.1 in
    let make : ℕ → ℕ → Site = λ a b. record { x = a; y = b } in
    ap (λ a. make a p.y) x ∙ ap (λ b. make s.x b) y

is_site : (p s : Site) → p ≡ s → same_site p s ≡ true
is_site p s e =
    let x : p.x ≡ s.x = ap (λ (v : Site). v.x) e in
    let y : p.y ≡ s.y = ap (λ (v : Site). v.y) e in
    both (p.x == s.x) (p.y == s.y) (eq-eqb p.x s.x x) (eq-eqb p.y s.y y)

-- the i-th of these places has the site
pub record HasAt (ps : List Place) (s : Site) : Type 0 where
  pub index : ℕ
  pub place : Place
  pub listed : slice_get ps index ≡ Some place
  pub there : place.site ≡ s

has_at_next : (p : Place) (ps : List Place) (s : Site) → HasAt ps s → HasAt (p ∷ ps) s
has_at_next p ps s h = record { index = suc h.index; place = h.place; listed = h.listed; there = h.there }

has_at_either : (p : Place) (ps : List Place) (s : Site) (v : Bool) → same_site p.site s ≡ v → (has_site ps s ≡ true → HasAt ps s) → cond v true (has_site ps s) ≡ true → HasAt (p ∷ ps) s
has_at_either p ps s true e more h = record { index = 0; place = p; listed = refl; there = site_is p.site s e }
has_at_either p ps s false e more h = has_at_next p ps s (more h)

pub has_at : (ps : List Place) (s : Site) → has_site ps s ≡ true → HasAt ps s
has_at [] s h = cc
has_at (p ∷ ps) s h =
    ⊎_elim
    (λ e. has_at_either p ps s true e (λ k. has_at ps s k) refl)
    (λ e. has_at_either p ps s false e (λ k. has_at ps s k) (let f : has_site (p ∷ ps) s ≡ has_site ps s = rw e refl in sym f ∙ h))
    (cases_Bool (same_site p.site s))

or_later : (u v : Bool) → v ≡ true → (u || v) ≡ true
or_later true v h = refl
or_later false v h = h

pub at_has : (ps : List Place) (s : Site) (i : ℕ) (p : Place) → slice_get ps i ≡ Some p → p.site ≡ s → has_site ps s ≡ true
at_has [] s i p at e = absurd (cc (sym (slice_get_past [] i (omega arith)) ∙ at))
at_has (q ∷ ps) s zero p at e = let same : q ≡ p = cc in rw (is_site q.site s (ap (λ (v : Place). v.site) same ∙ e)) refl
at_has (q ∷ ps) s (suc i) p at e =
    or_later (same_site q.site s) (has_site ps s) (at_has ps s i p at e)

-- places behind others
pub before_last : (ps more : List Place) (i : ℕ) → i < length ps → slice_get (ps ++ more) i ≡ slice_get ps i
before_last [] more i lt = absurd (omega arith)
before_last (x ∷ ps) more zero lt = refl
before_last (x ∷ ps) more (suc i) lt = before_last ps more i (omega arith)

pub at_last : (ps more : List Place) (p : Place) → slice_get (ps ++ p ∷ more) (length ps) ≡ Some p
at_last [] more p = refl
at_last (x ∷ ps) more p = at_last ps more p

-- one more place, at a new site
ends : (ps : List Place) (p q : Place) (i : ℕ) → slice_get (ps ++ p ∷ []) i ≡ Some q → ((i < length ps) × (slice_get ps i ≡ Some q)) ⊎ ((i ≡ length ps) × (q ≡ p))
ends [] p q zero at = inr (refl, cc)
ends [] p q (suc i) at = absurd (cc (sym (slice_get_past (p ∷ []) (suc i) (omega arith)) ∙ at))
ends (x ∷ ps) p q zero at = inl (omega arith, at)
ends (x ∷ ps) p q (suc i) at = elim (ends ps p q i at) [ inl h ↦ inl (omega (arith, h.0), h.1) | inr h ↦ inr (omega (arith, h.0), h.1) ]

module _ (ps : List Place) (p : Place) (apart : AreApart ps) (new : has_site ps p.site ≡ false) where
  not_there : {T : Type 0} (i : ℕ) (a : Place) → slice_get ps i ≡ Some a → a.site ≡ p.site → T
  not_there i a at e = absurd (false≢true (sym new ∙ at_has ps p.site i a at e))

  pub apart_more : AreApart (ps ++ p ∷ [])
  apart_more i j a b at_i at_j e = elim (ends ps p a i at_i) [
    | inl h ↦ elim (ends ps p b j at_j) [
      | inl k ↦ apart i j a b h.1 k.1 e
      | inr k ↦ not_there i a h.1 (e ∙ ap (λ (v : Place). v.site) k.1)
    ]
    | inr h ↦ elim (ends ps p b j at_j) [
      | inl k ↦ not_there j b k.1 (sym e ∙ ap (λ (v : Place). v.site) h.1)
      | inr k ↦ omega (arith, h.0, k.0)
    ]
  ]

-- what a line says can be printed
abbrev Worded : LegendLine → Type 0
Worded Other = Unit {0}
Worded (Input p) = is_place p ≡ true
Worded (Output p) = is_place p ≡ true
Worded (Events n) = n < 2 ^ 64
Worded Faulty = Unit {0}

either : (b : Bool) (x y : LegendLine) → Worded x → Worded y → Worded (cond b x y)
either true x y h k = h
either false x y h k = k

abbrev NamedWell : Option Place → Type 0
NamedWell None = Unit {0}
NamedWell (Some p) = is_place p ≡ true

-- numbers that are read fit
abbrev Below : ℕ → Option ℕ → Type 0
Below limit None = Unit {0}
Below limit (Some n) = n < limit

if_less : (limit n : ℕ) (b : Bool) → nat_lt n limit ≡ b → Below limit (cond b (Some n) None)
if_less limit n true h = ltb-true n limit h
if_less limit n false h = tt

below_limit : (limit : ℕ) (o : Option ℕ) → Below limit (if_below limit o)
below_limit limit None = tt
below_limit limit (Some n) = if_less limit n (nat_lt n limit) refl

last_test : (a b c d : Bool) → (a && b && c && d) ≡ true → d ≡ true
last_test a b c d h = (and_parts (a && b && c) d h).1

if_digits : (n : ℕ) (b c : Bool) → b ≡ c → (c ≡ true → n < 2 ^ 64) → Below (2 ^ 64) (cond c (Some n) None)
if_digits n b true h below = below refl
if_digits n b false h below = tt

decimal_fits : (t : List ℕ) → Below (2 ^ 64) (decimal_of t)
decimal_fits t =
    let n = value_from 0 t in
    let all = nat_le 1 (length t) && nat_le (length t) 20 && list_all is_digit t && nat_lt n (2 ^ 64) in
    if_digits n all all refl (λ h. ltb-true n (2 ^ 64) (last_test (nat_le 1 (length t)) (nat_le (length t) 20) (list_all is_digit t) (nat_lt n (2 ^ 64)) h))

abbrev Fits : Option Site → Type 0
Fits None = Unit {0}
Fits (Some s) = (s.x < 2 ^ 32) × (s.y < 2 ^ 32)

site_fits : (x y : Option ℕ) → Below (2 ^ 32) x → Below (2 ^ 32) y → Fits (site_from x y)
site_fits None None h k = tt
site_fits None (Some y) h k = tt
site_fits (Some x) None h k = tt
site_fits (Some x) (Some y) h k = (h, k)

named_if : (name : List ℕ) (s : Site) (b : Bool) → is_word name ≡ b → Fits (Some s) → NamedWell (cond b (Some (record { name = name; site = s })) None)
named_if name s true h k = both (is_word name) _ h (both (nat_lt s.x (2 ^ 32)) (nat_lt s.y (2 ^ 32)) (lt-ltb s.x (2 ^ 32) k.0) (lt-ltb s.y (2 ^ 32) k.1))
named_if name s false h k = tt

named_from : (name : List ℕ) (o : Option Site) → Fits o → NamedWell (place_from name o)
named_from name None k = tt
named_from name (Some s) k = named_if name s (is_word name) refl k

named : (ts : List (List ℕ)) → NamedWell (place_of ts)
named [] = tt
named (name ∷ []) = tt
named (name ∷ x ∷ []) = tt
named (name ∷ x ∷ y ∷ []) = named_from name (site_of x y) (site_fits (decimal_below (2 ^ 32) x) (decimal_below (2 ^ 32) y) (below_limit (2 ^ 32) (decimal_of x)) (below_limit (2 ^ 32) (decimal_of y)))
named (name ∷ x ∷ y ∷ t ∷ ts) = tt

input_worded : (o : Option Place) → NamedWell o → Worded (input_line o)
input_worded None h = tt
input_worded (Some p) h = h

output_worded : (o : Option Place) → NamedWell o → Worded (output_line o)
output_worded None h = tt
output_worded (Some p) h = h

number_worded : (o : Option ℕ) → Below (2 ^ 64) o → Worded (number_line o)
number_worded None h = tt
number_worded (Some n) h = h

events_worded : (ts : List (List ℕ)) → Worded (events_line ts)
events_worded [] = tt
events_worded (n ∷ []) = number_worded (decimal_of n) (decimal_fits n)
events_worded (n ∷ t ∷ ts) = tt

surf_worded : (ts : List (List ℕ)) → Worded (surf_line ts)
surf_worded [] = tt
surf_worded (word ∷ ts) =
    either (bytes_eq word (codes "input")) _ _ (input_worded (place_of ts) (named ts))
    (either (bytes_eq word (codes "output")) _ _ (output_worded (place_of ts) (named ts))
    (either (bytes_eq word (codes "events")) _ _ (events_worded ts) tt))

tokens_worded : (ts : List (List ℕ)) → Worded (tokens_line ts)
tokens_worded [] = tt
tokens_worded (hash ∷ []) = tt
tokens_worded (hash ∷ surf ∷ ts) = either (bytes_eq hash (codes "#") && bytes_eq surf (codes "surf")) _ _ (surf_worded ts) tt

-- what the lines so far say
pub record IsGood (inputs outputs : List Place) (events : Option ℕ) : Type 0 where
  pub inputs_fit : list_all is_place inputs ≡ true
  pub outputs_fit : list_all is_place outputs ≡ true
  pub events_fit : Below (2 ^ 64) events
  pub apart : AreApart inputs

abbrev Good : LegendParts → Type 0
Good p = IsGood p.inputs p.outputs p.events

places_more : (ps : List Place) (p : Place) → list_all is_place ps ≡ true → is_place p ≡ true → list_all is_place (ps ++ p ∷ []) ≡ true
places_more ps p h k = list_all-append is_place ps (p ∷ []) ∙ both (list_all is_place ps) (is_place p && true) h (both (is_place p) true k refl)

-- what lines make of good parts, if anything
abbrev GoodParts : Option LegendParts → Type 0
GoodParts None = Unit {0}
GoodParts (Some p) = Good p

good_input : (p : LegendParts) (q : Place) → Good p → is_place q ≡ true → (b : Bool) → has_site p.inputs q.site ≡ b → GoodParts (cond b None (Some (record { inputs = p.inputs ++ q ∷ []; outputs = p.outputs; events = p.events })))
good_input p q g w true h = tt
good_input p q g w false h = record {
  inputs_fit = places_more p.inputs q g.inputs_fit w;
  outputs_fit = g.outputs_fit;
  events_fit = g.events_fit;
  apart = apart_more p.inputs q g.apart h;
}

good_events : (p : LegendParts) (o : Option ℕ) (n : ℕ) → Good p → n < 2 ^ 64 → GoodParts (with_events p o n)
good_events p None n g h = record { inputs_fit = g.inputs_fit; outputs_fit = g.outputs_fit; events_fit = h; apart = g.apart }
good_events p (Some m) n g h = tt

good_line : (p : LegendParts) (l : LegendLine) → Good p → Worded l → GoodParts (with_line p l)
good_line p Other g w = g
good_line p (Input q) g w = good_input p q g w (has_site p.inputs q.site) refl
good_line p (Output q) g w = record {
  inputs_fit = g.inputs_fit;
  outputs_fit = places_more p.outputs q g.outputs_fit w;
  events_fit = g.events_fit;
  apart = g.apart;
}
good_line p (Events n) g w = good_events p p.events n g w
good_line p Faulty g w = tt

-- a legend that can be printed, and whose inputs stand apart
abbrev IsSound : LegendText → Type 0
IsSound l = IsLegend (Some l) × AreApart l.inputs

abbrev GoodResult : Result LegendText LegendError → Type 0
GoodResult (Ok l) = IsSound l
GoodResult (Err f) = Unit {0}

good_from : (inputs outputs : List Place) (o : Option ℕ) → IsGood inputs outputs o → GoodResult (legend_from inputs outputs o)
good_from inputs outputs None g = tt
good_from inputs outputs (Some n) g = ((g.inputs_fit, g.outputs_fit, g.events_fit), g.apart)

good_unless : (o : Option LegendParts) (line : ℕ) (more : LegendParts → Result LegendText LegendError) → GoodParts o → ((q : LegendParts) → Good q → GoodResult (more q)) → GoodResult (unless_bad o line more)
good_unless None line more g next = tt
good_unless (Some q) line more g next = next q g

good_in : (line : ℕ) (p : LegendParts) (ls : List (List ℕ)) → Good p → GoodResult (legend_in line p ls)
good_in line p [] g = good_from p.inputs p.outputs p.events g
good_in line p (l ∷ ls) g =
    good_unless (with_line p (legend_line l)) (line + 1) (λ q. legend_in (line + 1) q ls)
    (good_line p (legend_line l) g (tokens_worded (tokens_of l)))
    (λ q k. good_in (line + 1) q ls k)

none_apart : AreApart []
none_apart i j p q at_i at_j e = absurd (cc (sym (slice_get_past [] i (omega arith)) ∙ at_i))

good_of : (bytes : List ℕ) → GoodResult (legend_of bytes)
good_of bytes = good_in 0 (record { inputs = []; outputs = []; events = None }) (lines_of bytes) (record { inputs_fit = refl; outputs_fit = refl; events_fit = tt; apart = none_apart })

good_at : (bytes : List ℕ) (l : LegendText) → legend_of bytes ≡ Ok l → IsSound l
good_at bytes l is = subst GoodResult is (good_of bytes)

words_in : (ps : List Place) → list_all is_place ps ≡ true → list_all has_word ps ≡ true
words_in [] h = refl
words_in (p ∷ ps) h =
    let q = and_parts (is_place p) (list_all is_place ps) h in
    both (has_word p) (list_all has_word ps) (and_parts (is_word p.name) _ q.0).0 (words_in ps q.1)

pub read_form : (bytes : List ℕ) (r : Result LegendText LegendError) → IfOk r (λ l. legend_of bytes ≡ Ok l) → IfOk r (λ l. IsLegend (Some l))
read_form bytes (Ok l) is = (good_at bytes l is).0
read_form bytes (Err f) is = tt

pub read_words : (bytes : List ℕ) (r : Result LegendText LegendError) → IfOk r (λ l. legend_of bytes ≡ Ok l) → IfOk r HasWords
read_words bytes (Ok l) is = let g = (good_at bytes l is).0 in record { inputs = words_in l.inputs g.0; outputs = words_in l.outputs g.1 }
read_words bytes (Err f) is = tt

pub read_apart : (bytes : List ℕ) (r : Result LegendText LegendError) → IfOk r (λ l. legend_of bytes ≡ Ok l) → IfOk r (λ l. AreApart l.inputs)
read_apart bytes (Ok l) is = (good_at bytes l is).1
read_apart bytes (Err f) is = tt
