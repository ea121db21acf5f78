-- Counts are summed up place by place.
use Rattle.std.specs.Prelude.{filter, if◌then◌else◌, All, cond, nat_lt, unwrap_or}
use Rattle.std.specs.Option.{option_map}
use Rattle.std.proofs.Common.{ℕ, zero, suc, ◌≡◌, ◌+◌, ◌-◌, ◌<◌, ◌≤◌, Bool, true, false, List, [], ◌∷◌, length, map, drop, get_or, Option, Some, None, slice_get, refl, sym, ◌∙◌, ap, subst, arith, add-one}
use Rattle.std.proofs.Math.Path.{fun_ext}
use Rattle.std.proofs.lemmas.Bool.{lt-ltb}
use Rattle.std.proofs.lemmas.List.{drop_all, length-map}
use Rattle.std.proofs.lemmas.List.Elements.{All-head, All-tail}
use Rattle.std.proofs.lemmas.Option.{same_Some, slice_get-map, slice_get-get_or}
use Rattle.surf_world.specs.declared.event.Event.{Event}
use Rattle.surf_world.specs.Systems.{Surface}
use Rattle.surf_sync.specs.declared.code.Code.{Code}
use Rattle.surf_sync.specs.Spelling.{code_in, shown_by}
use Rattle.surf_trace.specs.Generations.{generation, observed}
use Rattle.surf_trace.specs.Observations.{shown_in}
use Rattle.surf_tally.specs.declared.counts.Count.{Count}
use Rattle.surf_tally.specs.declared.shown.Shown.{Shown}
use Rattle.surf_tally.specs.declared.summary.Tally.{Tally}
use Rattle.surf_tally.specs.Counting.{Outcome, ended, first_count, outcome}
use Rattle.surf_tally.specs.Showings.{look, look_some, show_by, showing, shown_of}
use Rattle.surf_tally.specs.Summing.{SummedTo, live_one, reached_at, reached_some, state_at, state_some, summed, with_cell}
use Rattle.surf_tally.specs.Tallies.{greatest, greatest_with, is_live, least, least_with, tally_of}
use Rattle.surf_tally.proofs.Noted.{made}

dropped : {X Y : Type 0} (f : X → Y) (xs : List X) (i : ℕ) (q : X) → slice_get xs i ≡ Some q → drop i (map f xs) ≡ f q ∷ drop (suc i) (map f xs)
dropped f [] i q at = absurd (let no : None ≡ Some q = at in cc)
dropped f (x ∷ xs) zero q at = ap (λ y. f y ∷ map f xs) (same_Some x q at)
dropped f (x ∷ xs) (suc i) q at = dropped f xs i q at

filtered : (o : Option ℕ) (os : List (Option ℕ)) → length (filter is_live (o ∷ os)) ≡ live_one o + length (filter is_live os)
filtered o os = go (is_live o)
  where
    go : (b : Bool) → length (cond b (o ∷ filter is_live os) (filter is_live os)) ≡ (if b then 1 else 0) + length (filter is_live os)
    go true = let same : suc (length (filter is_live os)) ≡ 1 + length (filter is_live os) = omega arith in same
    go false = let same : length (filter is_live os) ≡ 0 + length (filter is_live os) = omega arith in same

one_at_most : (o : Option ℕ) → live_one o ≤ 1
one_at_most o = go (is_live o)
  where
    go : (b : Bool) → (if b then 1 else 0) ≤ 1
    go true = omega arith
    go false = omega arith

abbrev tally_with : ℕ → ℕ → ℕ → ℕ → ℕ → Tally
tally_with cells events least greatest live = record { cells = cells; events = events; least = least; greatest = greatest; live = live }

same_tally : (t : Tally) (cells events low high live : ℕ) → t.cells ≡ cells → t.events ≡ events → t.least ≡ low → t.greatest ≡ high → t.live ≡ live → t ≡ tally_with cells events low high live
same_tally t cells events low high live a b c d e =
    ap (λ n. tally_with n t.events t.least t.greatest t.live) a
    ∙ ap (λ n. tally_with cells n t.least t.greatest t.live) b
    ∙ ap (λ n. tally_with cells events n t.greatest t.live) c
    ∙ ap (λ n. tally_with cells events low n t.live) d
    ∙ ap (λ n. tally_with cells events low high n) e

module _ (counts : List Count) (watched events : ℕ) (places : List ℕ) where
  abbrev reached : List ℕ
  reached = map (reached_at counts) places

  abbrev states : List (Option ℕ)
  states = map (state_at counts watched) places

  pub none_summed : (first : ℕ) → first ≡ get_or reached 0 0 → SummedTo counts watched events places 0 (tally_with (length places) events first first 0)
  none_summed first is = record {
    cells = refl;
    events_are = refl;
    within = omega arith;
    least_is = ap (λ n. least_with n reached) is;
    greatest_is = ap (λ n. greatest_with n reached) is;
    live_is = let same : 0 + length (filter is_live states) ≡ length (filter is_live states) = omega arith in same;
  }

  module _ (i q : ℕ) (x : Count) (t : Tally) (at : slice_get places i ≡ Some q) (here : slice_get counts q ≡ Some x) (so : SummedTo counts watched events places i t) where
    next_reached : drop i reached ≡ x.reached ∷ drop (i + 1) reached
    next_reached =
        dropped (reached_at counts) places i q at
        ∙ ap (λ n. n ∷ drop (suc i) reached) (ap reached_some here)
        ∙ ap (λ k. x.reached ∷ drop k reached) (sym (add-one i))

    next_state : drop i states ≡ state_some watched (Some x) ∷ drop (i + 1) states
    next_state =
        dropped (state_at counts watched) places i q at
        ∙ ap (λ (n : Option ℕ). n ∷ drop (suc i) states) (ap (state_some watched) here)
        ∙ ap (λ k. state_some watched (Some x) ∷ drop k states) (sym (add-one i))

    pub one_summed : SummedTo counts watched events places (i + 1) (with_cell watched x t)
    one_summed = record {
      cells = so.cells;
      events_are = so.events_are;
      within = let le = so.within in let one = one_at_most (state_some watched (Some x)) in omega (arith, le, one);
      least_is = sym (ap (least_with t.least) next_reached) ∙ so.least_is;
      greatest_is = sym (ap (greatest_with t.greatest) next_reached) ∙ so.greatest_is;
      live_is =
          let rest = length (filter is_live (drop (i + 1) states)) in
          let one = live_one (state_some watched (Some x)) in
          let whole : length (filter is_live (drop i states)) ≡ one + rest = ap (λ (os : List (Option ℕ)). length (filter is_live os)) next_state ∙ filtered (state_some watched (Some x)) (drop (i + 1) states) in
          let moved : t.live + one + rest ≡ t.live + (one + rest) = omega arith in
          moved ∙ ap (λ n. t.live + n) (sym whole) ∙ so.live_is;
    }

  pub all_summed : (i : ℕ) (t : Tally) → length places ≤ i → SummedTo counts watched events places i t → t ≡ summed counts watched events places
  all_summed i t le so =
      let none : drop i reached ≡ [] = drop_all i reached (let long = length-map places (reached_at counts) in omega (arith, long, le)) in
      let no : drop i states ≡ [] = drop_all i states (let long = length-map places (state_at counts watched) in omega (arith, long, le)) in
      let empty : length (filter is_live (drop i states)) ≡ 0 = ap (λ (os : List (Option ℕ)). length (filter is_live os)) no in
      let all = so.live_is in
      let live : t.live ≡ length (filter is_live states) = omega (arith, all, empty) in
      same_tally t (length places) events (least reached) (greatest reached) (length (filter is_live states)) so.cells so.events_are
      (sym (ap (least_with t.least) none) ∙ so.least_is) (sym (ap (greatest_with t.greatest) none) ∙ so.greatest_is) live

-- ---- what is counted is what the run shows

map_same : {X Y : Type 0} (P : X → Type 0) (f g : X → Y) (xs : List X) → All P xs → ((x : X) → P x → f x ≡ g x) → map f xs ≡ map g xs
map_same P f g [] all same = refl
map_same P f g (x ∷ xs) all same =
    ap (λ y. y ∷ map f xs) (same x (All-head P x xs all)) ∙ ap (λ ys. g x ∷ ys) (map_same P f g xs (All-tail P x xs all) same)

shown_code : (o : Option Code) → showing (option_map (λ c. record { state = c.current; generation = c.generation }) o) ≡ option_map (λ c. record { state = c.current; generation = c.generation }) o
shown_code None = refl
shown_code (Some c) = refl

looked_up : (o : Option (List ℕ)) → showing (unwrap_or (option_map shown_of o) None) ≡ shown_by (unwrap_or o [])
looked_up None = refl
looked_up (Some t) = shown_code (code_in t)

pub table_shows : (texts : List (List ℕ)) → show_by (map shown_of texts) ≡ shown_in texts
table_shows texts = fun_ext (λ m. ap (λ o. showing (unwrap_or o None)) (slice_get-map shown_of texts m) ∙ looked_up (slice_get texts m))

told_some : (watched : ℕ) (o : Option Count) (r : Outcome) → option_map (ended watched) o ≡ Some r → (reached_some o ≡ r.reached) × (state_some watched o ≡ r.state)
told_some watched None r is = absurd (let no : None ≡ Some r = is in cc)
told_some watched (Some x) r is =
    let same : ended watched x ≡ r = same_Some (ended watched x) r is in
    (ap (λ (s : Outcome). s.reached) same, ap (λ (s : Outcome). s.state) same)

module _ (table : List (Option Shown)) (S : Surface ℕ) (c : List ℕ) (es : List Event) (watched : ℕ) (some : 1 ≤ watched) (first last : List Count) (begun : first ≡ map (λ m. first_count (look table m)) c)
    (told : (p : ℕ) → option_map (ended watched) (slice_get last p) ≡ option_map (outcome (show_by table) S c es watched p) (slice_get first p)) where
  abbrev whole : ℕ → Outcome
  whole p = record { reached = generation (show_by table) S c es p; state = observed (show_by table) S c es p watched }

  from_first : (p : ℕ) (shown : Option Shown) → outcome (show_by table) S c es watched p (first_count shown) ≡ whole p
  from_first p shown =
      let yes = lt-ltb 0 watched some in
      let left : watched - 0 ≡ watched = omega arith in
      let gen : 0 + generation (show_by table) S c es p ≡ generation (show_by table) S c es p = omega arith in
      made (0 + generation (show_by table) S c es p) (generation (show_by table) S c es p) (if nat_lt 0 watched then observed (show_by table) S c es p (watched - 0) else Some 0) (observed (show_by table) S c es p watched) gen
      (ap (λ (b : Bool). if b then observed (show_by table) S c es p (watched - 0) else Some 0) yes ∙ ap (observed (show_by table) S c es p) left)

  told_at : (p : ℕ) → p < length c → option_map (ended watched) (slice_get last p) ≡ Some (whole p)
  told_at p lt =
      let at : slice_get first p ≡ Some (first_count (look table (get_or c p 0))) = ap (λ (xs : List Count). slice_get xs p) begun ∙ slice_get-map (λ m. first_count (look table m)) c p ∙ ap (option_map (λ m. first_count (look table m))) (slice_get-get_or c p 0 lt) in
      told p ∙ ap (option_map (outcome (show_by table) S c es watched p)) at ∙ ap (λ (r : Outcome). Some r) (from_first p (look table (get_or c p 0)))

  pub tallied : (places : List ℕ) → All (λ p. p < length c) places → summed last watched (length es) places ≡ tally_of (show_by table) S c es watched places
  tallied places inside =
      let reached : map (reached_at last) places ≡ map (generation (show_by table) S c es) places = map_same (λ p. p < length c) _ _ places inside (λ p lt. (told_some watched (slice_get last p) (whole p) (told_at p lt)).0) in
      let states : map (state_at last watched) places ≡ map (λ p. observed (show_by table) S c es p watched) places = map_same (λ p. p < length c) _ _ places inside (λ p lt. (told_some watched (slice_get last p) (whole p) (told_at p lt)).1) in
      same_tally (summed last watched (length es) places) (length places) (length es) (least (map (generation (show_by table) S c es) places)) (greatest (map (generation (show_by table) S c es) places)) (length (filter is_live (map (λ p. observed (show_by table) S c es p watched) places))) refl refl
      (ap least reached) (ap greatest reached) (ap (λ (os : List (Option ℕ)). length (filter is_live os)) states)

firsts_at : (f : ℕ → Count) (P : ℕ → Count → Type 0) (c : List ℕ) (first : List Count) → first ≡ map f c → ((p m : ℕ) → slice_get c p ≡ Some m → P p (f m)) → (p : ℕ) (x : Count) → slice_get first p ≡ Some x → P p x
firsts_at f P c first is each p x at = go (slice_get c p) refl (sym (slice_get-map f c p) ∙ sym (ap (λ (xs : List Count). slice_get xs p) is) ∙ at)
  where
    go : (o : Option ℕ) → slice_get c p ≡ o → option_map f o ≡ Some x → P p x
    go None there same = absurd (let no : None ≡ Some x = same in cc)
    go (Some m) there same = subst (P p) (same_Some (f m) x same) (each p m there)

-- at first nothing is counted, and what is kept is what the sites show
pub first_none : (table : List (Option Shown)) (c : List ℕ) (first : List Count) → first ≡ map (λ m. first_count (look table m)) c → (p : ℕ) (x : Count) → slice_get first p ≡ Some x → x.reached ≡ 0
first_none table c first is = firsts_at (λ m. first_count (look table m)) (λ p x. x.reached ≡ 0) c first is (λ p m at. refl)

pub first_right : (table : List (Option Shown)) (c : List ℕ) (first : List Count) → first ≡ map (λ m. first_count (look table m)) c → (p : ℕ) (x : Count) → slice_get first p ≡ Some x → x.shown ≡ look_some table (slice_get c p)
first_right table c first is = firsts_at (λ m. first_count (look table m)) (λ p x. x.shown ≡ look_some table (slice_get c p)) c first is (λ p m at. sym (ap (look_some table) at))
