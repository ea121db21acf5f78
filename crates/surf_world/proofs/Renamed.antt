-- A surface under other names has the same events, choices and runs.
use Rattle.std.specs.Prelude.{All, IfSome, ◌↔◌, bytes_eq, nat_lt, ◌-◌, if◌then◌else◌}
use Rattle.std.specs.List.{range_with_len}
use Rattle.std.specs.Option.{option_map, option_map_or}
use Rattle.std.proofs.Common.{◌≡◌, ℕ, zero, suc, ◌<◌, inl, inr, Bool, true, List, [], ◌∷◌, length, set, map, Option, Some, None, slice_get, get_or, refl, sym, ◌∙◌, ap, subst, nat_eq}
use Rattle.std.proofs.lemmas.Bool.{cases_Bool, false≢true}
use Rattle.std.proofs.lemmas.List.{length-map}
use Rattle.std.proofs.lemmas.List.Elements.{All-get_or, All-set}
use Rattle.std.proofs.lemmas.Option.{slice_get-get_or, unwrap_or-slice_get, slice_get-map, slice_get_within, get_or_from_slice_get, same_Some}
use Rattle.surf_lattice.specs.declared.site.Site.{Site}
use Rattle.surf_lattice.specs.Grids.{Grid, neighbour, directions, place, sites}
use Rattle.std.proofs.lemmas.Slice.Eq.{bytes_eq-Decides}
use Rattle.surf_rules.specs.Names.{text_of, AreDistinct}
use Rattle.surf_world.specs.declared.event.Event.{Event}
use Rattle.surf_world.specs.Systems.{Rule, Surface, FitsSecond, Fits, Enabled, after, with_rule, with_second, IsRun, left_by, Stuck}
use Rattle.surf_world.specs.Choices.{enabled_test, event_of, events_on, events_toward, events_at, choices_at, choices}
use Rattle.surf_world.specs.Picks.{rate_of, pick, pick_of}
use Rattle.surf_world.specs.Renamings.{renamed_rule, renamed, RuleBelow, AreBelow, IsOneToOne}
use Rattle.surf_world.proofs.Decisions.{enabled_to, enabled_from, number_to, number_from}
use Rattle.surf_world.proofs.Members.{same_filter, same_flat}

map_set : {X Y : Type 0} (f : X → Y) (xs : List X) (i : ℕ) (a : X) → set (map f xs) i (f a) ≡ map f (set xs i a)
map_set f [] i a = refl
map_set f (x ∷ xs) zero a = refl
map_set f (x ∷ xs) (suc i) a = ap (λ ys. f x ∷ ys) (map_set f xs i a)

module _ {M N : Type 0} (f : M → N) (S : Surface M) where
  get_renamed : (c : List M) (p : ℕ) (a : M) → slice_get c p ≡ Some a → slice_get (map f c) p ≡ Some (f a)
  get_renamed c p a e = slice_get-map f c p ∙ ap (option_map f) e

  second_renamed : (c : List M) (p : Site) (b : Option M) (q : Option Site) → FitsSecond S.grid c p b q → FitsSecond S.grid (map f c) p (option_map f b) q
  second_renamed c p None None h = h
  second_renamed c p None (Some q) h = h
  second_renamed c p (Some b) None h = h
  second_renamed c p (Some b) (Some q) h = (h.0, (h.1.0, get_renamed c (place S.grid q) b h.1.1))

  fits_renamed : (c : List M) (e : Event) (o : Option (Rule M)) → Fits S.grid c e o → Fits S.grid (map f c) e (option_map (renamed_rule f) o)
  fits_renamed c e None h = h
  fits_renamed c e (Some r) h = (h.0, (h.1.0, get_renamed c (place S.grid e.first) r.left h.1.1), second_renamed c e.first r.right e.second h.2)

  pub enabled_renamed : (c : List M) (e : Event) → Enabled S c e → Enabled (renamed f S) (map f c) e
  enabled_renamed c e h = subst (Fits S.grid (map f c) e) (sym (slice_get-map (renamed_rule f) S.rules e.rule)) (fits_renamed c e (slice_get S.rules e.rule) h)

  second_after : (g : Grid) (c : List M) (b : Option M) (q : Option Site) → with_second g (map f c) (option_map f b) q ≡ map f (with_second g c b q)
  second_after g c None q = refl
  second_after g c (Some b) None = refl
  second_after g c (Some b) (Some q) = map_set f c (place g q) b

  rule_after : (g : Grid) (c : List M) (e : Event) (o : Option (Rule M)) → with_rule g (map f c) e (option_map (renamed_rule f) o) ≡ map f (with_rule g c e o)
  rule_after g c e None = refl
  rule_after g c e (Some r) = ap (λ d. with_second g d (option_map f r.right_after) e.second) (map_set f c (place g e.first) r.left_after) ∙ second_after g (set c (place g e.first) r.left_after) r.right_after e.second

  pub after_renamed : (c : List M) (e : Event) → after (renamed f S) (map f c) e ≡ map f (after S c e)
  after_renamed c e = ap (with_rule S.grid (map f c) e) (slice_get-map (renamed_rule f) S.rules e.rule) ∙ rule_after S.grid c e (slice_get S.rules e.rule)

  pub left_renamed : (c : List M) (es : List Event) → left_by (renamed f S) (map f c) es ≡ map f (left_by S c es)
  left_renamed c [] = refl
  left_renamed c (e ∷ es) = ap (λ d. left_by (renamed f S) d es) (after_renamed c e) ∙ left_renamed (after S c e) es

  pub run_renamed : (c : List M) (es : List Event) → IsRun S c es → IsRun (renamed f S) (map f c) es
  run_renamed c [] h = tt
  run_renamed c (e ∷ es) h = (enabled_renamed c e h.0, subst (λ d. IsRun (renamed f S) d es) (sym (after_renamed c e)) (run_renamed (after S c e) es h.1))

  rate_renamed_at : (o : Option (Rule M)) → option_map_or (λ r. r.rate) (option_map (renamed_rule f) o) 0 ≡ option_map_or (λ r. r.rate) o 0
  rate_renamed_at None = refl
  rate_renamed_at (Some r) = refl

  pub rate_renamed : (e : Event) → rate_of (renamed f S) e ≡ rate_of S e
  rate_renamed e = ap (λ o. option_map_or (λ r. r.rate) o 0) (slice_get-map (renamed_rule f) S.rules e.rule) ∙ rate_renamed_at (slice_get S.rules e.rule)

-- numbers below n stay below n
all_at : {X : Type 0} (P : X → Type 0) (xs : List X) (k : ℕ) (x : X) → All P xs → slice_get xs k ≡ Some x → P x
all_at P xs k x all is = subst P (get_or_from_slice_get xs k x x is) (All-get_or P xs k x (slice_get_within xs k x is) all)

second_below : (n : ℕ) (g : Grid) (c : List ℕ) (b : Option ℕ) (q : Option Site) → All (λ k. k < n) c → IfSome b (λ k. k < n) → All (λ k. k < n) (with_second g c b q)
second_below n g c None q all h = all
second_below n g c (Some b) None all h = all
second_below n g c (Some b) (Some q) all h = All-set (λ k. k < n) c (place g q) b h all

rule_below : (n : ℕ) (S : Surface ℕ) (c : List ℕ) (e : Event) (o : Option (Rule ℕ)) → slice_get S.rules e.rule ≡ o → AreBelow n S c → All (λ k. k < n) (with_rule S.grid c e o)
rule_below n S c e None is below = below.in_names
rule_below n S c e (Some r) is below =
    let b = all_at (RuleBelow n) S.rules e.rule r below.in_rules is in
    second_below n S.grid (set c (place S.grid e.first) r.left_after) r.right_after e.second (All-set (λ k. k < n) c (place S.grid e.first) r.left_after b.left_after below.in_names) b.right_after

pub after_below : (n : ℕ) (S : Surface ℕ) (c : List ℕ) (e : Event) → AreBelow n S c → AreBelow n S (after S c e)
after_below n S c e below = record { in_rules = below.in_rules; in_names = rule_below n S c e (slice_get S.rules e.rule) refl below }

module _ {N : Type 0} (n : ℕ) (f : ℕ → N) (one : IsOneToOne n f) (S : Surface ℕ) where
  option_back : (o : Option ℕ) (a : ℕ) → ((k : ℕ) → o ≡ Some k → k < n) → a < n → option_map f o ≡ Some (f a) → o ≡ Some a
  option_back None a ok lt e = absurd cc
  option_back (Some k) a ok lt e = ap Some (one k a (ok k refl) lt (same_Some (f k) (f a) e))

  get_back : (c : List ℕ) → All (λ k. k < n) c → (p a : ℕ) → a < n → slice_get (map f c) p ≡ Some (f a) → slice_get c p ≡ Some a
  get_back c all p a lt e = option_back (slice_get c p) a (λ k is. all_at (λ k. k < n) c p k all is) lt (sym (slice_get-map f c p) ∙ e)

  second_back : (c : List ℕ) → All (λ k. k < n) c → (p : Site) (b : Option ℕ) (q : Option Site) → IfSome b (λ k. k < n) → FitsSecond S.grid (map f c) p (option_map f b) q → FitsSecond S.grid c p b q
  second_back c all p None None lt h = h
  second_back c all p None (Some q) lt h = h
  second_back c all p (Some b) None lt h = h
  second_back c all p (Some b) (Some q) lt h = (h.0, (h.1.0, get_back c all (place S.grid q) b lt h.1.1))

  fits_back : (c : List ℕ) → All (λ k. k < n) c → (e : Event) (o : Option (Rule ℕ)) → ((r : Rule ℕ) → o ≡ Some r → RuleBelow n r) → Fits S.grid (map f c) e (option_map (renamed_rule f) o) → Fits S.grid c e o
  fits_back c all e None below h = h
  fits_back c all e (Some r) below h =
      let b = below r refl in
      (h.0, (h.1.0, get_back c all (place S.grid e.first) r.left b.left h.1.1), second_back c all e.first r.right e.second b.right h.2)

  pub enabled_back : (c : List ℕ) (e : Event) → AreBelow n S c → Enabled (renamed f S) (map f c) e → Enabled S c e
  enabled_back c e below h =
      fits_back c below.in_names e (slice_get S.rules e.rule) (λ r is. all_at (RuleBelow n) S.rules e.rule r below.in_rules is)
      (subst (Fits S.grid (map f c) e) (slice_get-map (renamed_rule f) S.rules e.rule) h)

  pub enabled_both : (c : List ℕ) (e : Event) → AreBelow n S c → Enabled S c e ↔ Enabled (renamed f S) (map f c) e
  enabled_both c e below = (enabled_renamed f S c e, enabled_back c e below)

  pub run_back : (c : List ℕ) (es : List Event) → AreBelow n S c → IsRun (renamed f S) (map f c) es → IsRun S c es
  run_back c [] below h = tt
  run_back c (e ∷ es) below h =
      (enabled_back c e below h.0, run_back (after S c e) es (after_below n S c e below) (subst (λ d. IsRun (renamed f S) d es) (after_renamed f S c e) h.1))

  pub run_both : (c : List ℕ) (es : List Event) → AreBelow n S c → IsRun S c es ↔ IsRun (renamed f S) (map f c) es
  run_both c es below = (run_renamed f S c es, run_back c es below)

  pub stuck_both : (c : List ℕ) → AreBelow n S c → Stuck S c ↔ Stuck (renamed f S) (map f c)
  stuck_both c below = (λ s e h. s e (enabled_back c e below h), λ s e h. s e (enabled_renamed f S c e h))

  module _ (eq : N → N → Bool) (to : (a b : N) → eq a b ≡ true → a ≡ b) (from : (a : N) → eq a a ≡ true) where
    test_renamed : (c : List ℕ) → AreBelow n S c → (e : Event) → enabled_test eq (renamed f S) (map f c) e ≡ enabled_test nat_eq S c e
    test_renamed c below e = elim (cases_Bool (enabled_test nat_eq S c e)) [
      | inl t ↦ enabled_from eq to from (renamed f S) (map f c) e (enabled_renamed f S c e (enabled_to nat_eq number_to number_from S c e t)) ∙ sym t
      | inr t ↦ elim (cases_Bool (enabled_test eq (renamed f S) (map f c) e)) [
        | inl u ↦ absurd (false≢true (sym t ∙ enabled_from nat_eq number_to number_from S c e (enabled_back c e below (enabled_to eq to from (renamed f S) (map f c) e u))))
        | inr u ↦ u ∙ sym t
      ]
    ]

    on_renamed : (c : List ℕ) → AreBelow n S c → (m : ℕ) (p : Site) (q : Option Site) → events_on (enabled_test eq (renamed f S) (map f c)) m p q ≡ events_on (enabled_test nat_eq S c) m p q
    on_renamed c below m p q = same_filter (enabled_test eq (renamed f S) (map f c)) (enabled_test nat_eq S c) (map (event_of p q) (range_with_len 0 m)) (test_renamed c below)

    toward_renamed : (c : List ℕ) → AreBelow n S c → (m : ℕ) (p : Site) (q : Option Site) → events_toward (enabled_test eq (renamed f S) (map f c)) m p q ≡ events_toward (enabled_test nat_eq S c) m p q
    toward_renamed c below m p None = refl
    toward_renamed c below m p (Some q) = on_renamed c below m p (Some q)

    at_renamed : (c : List ℕ) → AreBelow n S c → (p : Site) → choices_at eq (renamed f S) (map f c) p ≡ choices_at nat_eq S c p
    at_renamed c below p =
        let long = length-map S.rules (renamed_rule f) in
        let m = length S.rules in
        let alone = on_renamed c below m p None in
        let toward = same_flat (λ i. events_toward (enabled_test eq (renamed f S) (map f c)) m p (neighbour S.grid p i)) (λ i. events_toward (enabled_test nat_eq S c) m p (neighbour S.grid p i)) (directions S.grid) (λ i. toward_renamed c below m p (neighbour S.grid p i)) in
        ap (λ k. events_at (enabled_test eq (renamed f S) (map f c)) S.grid k p) long ∙ cc (alone, toward)

    pub choices_renamed : (c : List ℕ) → AreBelow n S c → choices eq (renamed f S) (map f c) ≡ choices nat_eq S c
    choices_renamed c below = same_flat (choices_at eq (renamed f S) (map f c)) (choices_at nat_eq S c) (sites S.grid) (at_renamed c below)

-- the texts of a list of distinct texts
pub texts_apart : (ts : List (List ℕ)) → AreDistinct ts → IsOneToOne (length ts) (text_of ts)
texts_apart ts distinct i j li lj same =
    let a = slice_get-get_or ts i [] li in
    let b = slice_get-get_or ts j [] lj in
    let e : get_or ts j [] ≡ get_or ts i [] = sym (unwrap_or-slice_get ts j []) ∙ sym same ∙ unwrap_or-slice_get ts i [] in
    distinct i j (get_or ts i []) a (b ∙ ap Some e)

pub bytes_to : (a b : List ℕ) → bytes_eq a b ≡ true → a ≡ b
bytes_to a b t = (bytes_eq-Decides a b).0 t

pub bytes_from : (a : List ℕ) → bytes_eq a a ≡ true
bytes_from a = (bytes_eq-Decides a a).1 refl

pub picks_renamed : (f : ℕ → List ℕ) (n : ℕ) (S : Surface ℕ) (c : List ℕ) (r : ℕ) → IsOneToOne n f → AreBelow n S c → pick_of bytes_eq (renamed f S) (map f c) r ≡ pick_of nat_eq S c r
picks_renamed f n S c r one below =
    ap (λ es. pick (rate_of (renamed f S)) es r) (choices_renamed n f one S bytes_eq bytes_to bytes_from c below)
    ∙ same_pick (rate_of (renamed f S)) (rate_of S) (choices nat_eq S c) r (rate_renamed f S)
  where
    same_pick : {X : Type 0} (a b : X → ℕ) (xs : List X) (r : ℕ) → ((x : X) → a x ≡ b x) → pick a xs r ≡ pick b xs r
    same_pick a b [] r same = refl
    same_pick a b (x ∷ xs) r same = ap (λ n. if nat_lt r n then Some x else pick a xs (r - n)) (same x) ∙ ap (λ o. if nat_lt r (b x) then Some x else o) (same_pick a b xs (r - b x) same)
