-- What the loops over rules and directions keep of sums of rates.
use Rattle.std.specs.Prelude.{All, Result}
use Rattle.std.specs.List.{filter, flat_map, range_with_len, sum_by}
use Rattle.std.specs.Option.{option_map, option_map_or}
use Rattle.std.proofs.Common.{ℕ, ◌≡◌, ◌+◌, ◌-◌, ◌<◌, ◌≤◌, inl, inr, Bool, true, false, cond, append_assoc, List, [], ◌∷◌, ◌++◌, length, map, take, get_or, Option, Some, None, slice_get, refl, sym, ◌∙◌, ap, subst, arith, zero, suc}
use Rattle.std.proofs.lemmas.Bool.{cases_lt, cases_eq}
use Rattle.std.proofs.lemmas.List.Elements.{Contains-get_or}
use Rattle.std.proofs.lemmas.List.{append-nil, length-map}
use Rattle.std.proofs.lemmas.List.FromFn.{length-range_with_len}
use Rattle.std.proofs.lemmas.List.Sums.{sum_by-cons, sum_by-append, sum_by_more}
use Rattle.std.proofs.lemmas.Option.{slice_get-map}
use Rattle.surf_lattice.specs.declared.site.Site.{Site}
use Rattle.surf_lattice.specs.Grids.{Grid, IsInside, Adjacent, neighbour, degree}
use Rattle.surf_lattice.specs.declared.site.GridKind.{GridKind}
use Rattle.surf_lattice.specs.declared.site.GridKind.TheVariants.{Square, Hex}
use Rattle.surf_lattice.proofs.Neighbours.{adjacent_from}
use Rattle.surf_rules.specs.declared.rule.Rule.{Rule}
use Rattle.surf_rules.specs.Books.{alone_of, pair_of}
use Rattle.surf_world.specs.declared.event.Event.{Event}
use Rattle.surf_world.specs.Systems as systems
use Rattle.surf_world.specs.Systems.{Surface}
use Rattle.surf_world.specs.Worlds.{rule_of}
use Rattle.surf_world.specs.Choices.{event_of, events_toward}
use Rattle.surf_world.specs.Picks.{rate_at, rate_of, pick, Picked}
use Rattle.surf_world.proofs.Laws.{pick_here, pick_later, pick_some, pick_second}
use Rattle.surf_world.proofs.Members.{range_has, filter_has}

-- ---- rules by number

-- the running sum exceeds r at a place
found_at : {X : Type 0} (rate : X → ℕ) (xs : List X) (i : ℕ) (d : X) (rest r : ℕ) → i < length xs → sum_by rate (take i xs) + rest ≡ r → rest < rate (get_or xs i d) → pick rate xs r ≡ Some (get_or xs i d)
found_at rate [] i d rest r lt before less = absurd (omega arith)
found_at rate (y ∷ ys) zero d rest r lt before less = pick_here rate y ys r (omega (arith, before, less))
found_at rate (y ∷ ys) (suc i) d rest r lt before less =
    let s = sum_by-cons rate y (take i ys) in
    pick_later rate y ys r (omega (arith, before, s)) ∙ found_at rate ys i d rest (r - rate y) (omega (arith, lt)) (omega (arith, before, s)) less

module _ (rules : List Rule) (R : List (systems.Rule ℕ)) (same : map rule_of rules ≡ R) where
  rate_found : (k : ℕ) (r : Rule) → slice_get rules k ≡ Some r → rate_at R k ≡ r.rate
  rate_found k r is = ap (λ l. rate_at l k) (sym same) ∙ ap (λ o. option_map_or (λ r. r.rate) o 0) (slice_get-map rule_of rules k ∙ ap (option_map rule_of) is)

  pub same_length : length rules ≡ length R
  same_length = sym (length-map rules rule_of) ∙ ap length same

  -- each listed rule is in the book
  pub known_at : (ks : List ℕ) (i : ℕ) → All (λ k. k < length R) ks → i < length ks → get_or ks i 0 < length rules
  known_at ks i known lt = let h = known i 0 lt in omega (arith, h, same_length)

  pub rule_more : (ks : List ℕ) (i : ℕ) (r : Rule) → i < length ks → slice_get rules (get_or ks i 0) ≡ Some r → sum_by (rate_at R) (take (i + 1) ks) ≡ sum_by (rate_at R) (take i ks) + r.rate
  rule_more ks i r lt is = sum_by_more (rate_at R) ks i 0 lt ∙ ap (λ n. sum_by (rate_at R) (take i ks) + n) (rate_found (get_or ks i 0) r is)

  pub rule_picked : (ks : List ℕ) (i : ℕ) (r : Rule) (rest n : ℕ) → i < length ks → slice_get rules (get_or ks i 0) ≡ Some r → sum_by (rate_at R) (take i ks) + rest ≡ n → rest < r.rate → pick (rate_at R) ks n ≡ Some (get_or ks i 0)
  rule_picked ks i r rest n lt is before less = found_at (rate_at R) ks i 0 rest n lt before (let e = rate_found (get_or ks i 0) r is in omega (arith, less, e))

-- ---- what is picked of elements that a function makes

pub pick_map : {X Y : Type 0} (rate : Y → ℕ) (f : X → Y) (xs : List X) (r : ℕ) → pick rate (map f xs) r ≡ option_map f (pick (λ x. rate (f x)) xs r)
pick_map rate f [] r = refl
pick_map rate f (x ∷ xs) r = elim (cases_lt r (rate (f x))) [
  | inl here ↦ pick_here rate (f x) (map f xs) r here ∙ ap (option_map f) (sym (pick_here (λ x. rate (f x)) x xs r here))
  | inr later ↦ pick_later rate (f x) (map f xs) r later ∙ pick_map rate f xs (r - rate (f x)) ∙ ap (option_map f) (sym (pick_later (λ x. rate (f x)) x xs r later))
]

pub sum_map : {X Y : Type 0} (rate : Y → ℕ) (f : X → Y) (xs : List X) → sum_by rate (map f xs) ≡ sum_by (λ x. rate (f x)) xs
sum_map rate f [] = refl
sum_map rate f (x ∷ xs) = omega (arith, sum_by-cons rate (f x) (map f xs), sum_by-cons (λ x. rate (f x)) x xs, sum_map rate f xs)

-- the events of these rules at these sites
pub sum_of_events : (S : Surface ℕ) (p : Site) (q : Option Site) (ks : List ℕ) → sum_by (rate_of S) (map (event_of p q) ks) ≡ sum_by (rate_at S.rules) ks
sum_of_events S p q ks = sum_map (rate_of S) (event_of p q) ks

pub picked_event : (S : Surface ℕ) (p : Site) (q : Option Site) (ks : List ℕ) (r k : ℕ) → pick (rate_at S.rules) ks r ≡ Some k → pick (rate_of S) (map (event_of p q) ks) r ≡ Some (event_of p q k)
picked_event S p q ks r k found = pick_map (rate_of S) (event_of p q) ks r ∙ ap (option_map (event_of p q)) found

map_none : {X Y : Type 0} (f : X → Y) (xs : List X) → map f xs ≡ [] → xs ≡ []
map_none f [] is = refl
map_none f (x ∷ xs) is = cc

-- ---- rules of a left side: there are few, and each is in the book

length_filter_le : {X : Type 0} (test : X → Bool) (xs : List X) → length (filter test xs) ≤ length xs
length_filter_le test [] = omega arith
length_filter_le test (x ∷ xs) = kept_le (test x) x (filter test xs) (length xs) (length_filter_le test xs)
  where
    kept_le : {X : Type 0} (b : Bool) (x : X) (ys : List X) (n : ℕ) → length ys ≤ n → length (cond b (x ∷ ys) ys) ≤ suc n
    kept_le true x ys n le = omega (arith, le)
    kept_le false x ys n le = omega (arith, le)

kept_few : (test : ℕ → Bool) (n : ℕ) → length (filter test (range_with_len 0 n)) ≤ n
kept_few test n = omega (arith, length_filter_le test (range_with_len 0 n), length-range_with_len 0 n)

kept_known : (test : ℕ → Bool) (n : ℕ) → All (λ k. k < n) (filter test (range_with_len 0 n))
kept_known test n i d lt = let h = (range_has 0 n _ (filter_has test (range_with_len 0 n) _ (Contains-get_or (filter test (range_with_len 0 n)) i d lt)).0).1 in omega (arith, h)

pub alone_few : (rules : List Rule) (a : ℕ) → length (alone_of rules a) ≤ length rules
alone_few rules a = kept_few _ (length rules)

pub pair_few : (rules : List Rule) (a b : ℕ) → length (pair_of rules a b) ≤ length rules
pair_few rules a b = kept_few _ (length rules)

known_in : (rules : List Rule) (R : List (systems.Rule ℕ)) (ks : List ℕ) → map rule_of rules ≡ R → All (λ k. k < length rules) ks → All (λ k. k < length R) ks
known_in rules R ks is known = subst (λ m. All (λ k. k < m) ks) (same_length rules R is) known

pub alone_known : (rules : List Rule) (R : List (systems.Rule ℕ)) (a : ℕ) → map rule_of rules ≡ R → All (λ k. k < length R) (alone_of rules a)
alone_known rules R a is = known_in rules R (alone_of rules a) is (kept_known _ (length rules))

pub pair_known : (rules : List Rule) (R : List (systems.Rule ℕ)) (a b : ℕ) → map rule_of rules ≡ R → All (λ k. k < length R) (pair_of rules a b)
pair_known rules R a b is = known_in rules R (pair_of rules a b) is (kept_known _ (length rules))

-- ---- directions

range_end : {X : Type 0} (f : ℕ → List X) (a n : ℕ) → flat_map f (range_with_len a (n + 1)) ≡ flat_map f (range_with_len a n) ++ f (a + n)
range_end f a zero =
    let e : a ≡ a + 0 = omega arith in
    append-nil (f a) ∙ ap f e
range_end f a (suc n) =
    let long : suc n + 1 ≡ suc (suc n) = omega arith in
    let short : suc n ≡ n + 1 = omega arith in
    let e : a + 1 + n ≡ a + suc n = omega arith in
    ap (λ m. flat_map f (range_with_len a m)) long
    ∙ ap (λ m. f a ++ flat_map f (range_with_len (a + 1) m)) short
    ∙ ap (λ l. f a ++ l) (range_end f (a + 1) n)
    ∙ sym (append_assoc (f a) (flat_map f (range_with_len (a + 1) n)) (f (a + 1 + n)))
    ∙ ap (λ m. flat_map f (range_with_len a (suc n)) ++ f m) e

pub directions_more : {X : Type 0} (f : ℕ → List X) (d : ℕ) → flat_map f (range_with_len 0 (d + 1)) ≡ flat_map f (range_with_len 0 d) ++ f d
directions_more f d = range_end f 0 d ∙ (let e : 0 + d ≡ d = omega arith in ap (λ m. flat_map f (range_with_len 0 d) ++ f m) e)

pub directions_sum : {X : Type 0} (rate : X → ℕ) (f : ℕ → List X) (d : ℕ) → sum_by rate (flat_map f (range_with_len 0 (d + 1))) ≡ sum_by rate (flat_map f (range_with_len 0 d)) + sum_by rate (f d)
directions_sum rate f d = ap (sum_by rate) (directions_more f d) ∙ sum_by-append rate (flat_map f (range_with_len 0 d)) (f d)

range_found : {X : Type 0} (rate : X → ℕ) (f : ℕ → List X) (a n d rest r : ℕ) (x : X) → d < n → sum_by rate (flat_map f (range_with_len a d)) + rest ≡ r → pick rate (f (a + d)) rest ≡ Some x → pick rate (flat_map f (range_with_len a n)) r ≡ Some x
range_found rate f a zero d rest r x lt before found = absurd (omega arith)
range_found rate f a (suc n) zero rest r x lt before found =
    let e : r ≡ rest = omega (arith, before) in
    let z : a + 0 ≡ a = omega arith in
    pick_some rate (f a) (flat_map f (range_with_len (a + 1) n)) r x (ap (λ v. pick rate (f a) v) e ∙ ap (λ v. pick rate (f v) rest) (sym z) ∙ found)
range_found rate f a (suc n) (suc d) rest r x lt before found =
    let m = sum_by rate (flat_map f (range_with_len (a + 1) d)) + rest in
    let e : r ≡ sum_by rate (f a) + m = omega (arith, before, sum_by-append rate (f a) (flat_map f (range_with_len (a + 1) d))) in
    let s : a + 1 + d ≡ a + suc d = omega arith in
    ap (λ v. pick rate (f a ++ flat_map f (range_with_len (a + 1) n)) v) e
    ∙ pick_second rate (f a) (flat_map f (range_with_len (a + 1) n)) m
    ∙ range_found rate f (a + 1) n d rest m x (omega (arith, lt)) refl (ap (λ v. pick rate (f v) rest) s ∙ found)

-- the choice at a site, once a direction gives it
pub direction_found : {X : Type 0} (rate : X → ℕ) (alone : List X) (f : ℕ → List X) (n d rest r : ℕ) (x : X) → d < n
    → sum_by rate alone + sum_by rate (flat_map f (range_with_len 0 d)) + rest ≡ r → pick rate (f d) rest ≡ Some x → pick rate (alone ++ flat_map f (range_with_len 0 n)) r ≡ Some x
direction_found rate alone f n d rest r x lt before found =
    let m = sum_by rate (flat_map f (range_with_len 0 d)) + rest in
    let e : r ≡ sum_by rate alone + m = omega (arith, before) in
    let z : 0 + d ≡ d = omega arith in
    ap (λ v. pick rate (alone ++ flat_map f (range_with_len 0 n)) v) e
    ∙ pick_second rate alone (flat_map f (range_with_len 0 n)) m
    ∙ range_found rate f 0 n d rest m x lt refl (ap (λ v. pick rate (f v) rest) z ∙ found)

-- a neighbour, and the events toward it
pub toward_adjacent : (g h : Grid) (p : Site) (i : ℕ) (q : Site) → h ≡ g → IsInside g p → i < degree g.kind → Some q ≡ neighbour h p i → Adjacent g p q
toward_adjacent g h p i q same inside below is = adjacent_from g p i q inside below (ap (λ u. neighbour u p i) (sym same) ∙ sym is)

pub toward_some : (g h : Grid) (p : Site) (i : ℕ) (q : Site) → h ≡ g → Some q ≡ neighbour h p i → neighbour g p i ≡ Some q
toward_some g h p i q same is = ap (λ u. neighbour u p i) (sym same) ∙ sym is

pub toward_nothing : (S : Surface ℕ) (test : Event → Bool) (n : ℕ) (h : Grid) (p : Site) (i : ℕ) → h ≡ S.grid → None ≡ neighbour h p i → events_toward test n p (neighbour S.grid p i) ≡ []
toward_nothing S test n h p i same is = ap (events_toward test n p) (ap (λ u. neighbour u p i) (sym same) ∙ sym is)

pub picked_of : (S : Surface ℕ) (es fs : List Event) (r : ℕ) (o : Result Event ℕ) → es ≡ fs → Picked (rate_of S) fs r o → Picked (rate_of S) es r o
picked_of S es fs r o is p = subst (λ l. Picked (rate_of S) l r o) (sym is) p

pub degree_small : (kind : GridKind) → degree kind ≤ 6
degree_small Square = omega arith
degree_small Hex = omega arith

-- ---- sites without events

pub append_none : {X : Type 0} (xs ys : List X) → xs ++ ys ≡ [] → (xs ≡ []) × (ys ≡ [])
append_none [] ys is = (refl, is)
append_none (x ∷ xs) ys is = cc

pub range_none : {X : Type 0} (f : ℕ → List X) (a n d : ℕ) → a ≤ d → d < a + n → flat_map f (range_with_len a n) ≡ [] → f d ≡ []
range_none f a zero d low high is = absurd (omega arith)
range_none f a (suc n) d low high is = elim (cases_eq a d) [
  | inl e ↦ ap f (sym e) ∙ (append_none (f a) (flat_map f (range_with_len (a + 1) n)) is).0
  | inr ne ↦ range_none f (a + 1) n d (omega arith) (omega arith) (append_none (f a) (flat_map f (range_with_len (a + 1) n)) is).1
]

pub rules_none : {X Y : Type 0} (f : X → Y) (ks : List X) (es : List Y) → es ≡ map f ks → es ≡ [] → ks ≡ []
rules_none f ks es is none = map_none f ks (sym is ∙ none)

pub busy_alone : {X Y : Type 0} (f : X → Y) (ks : List X) (alone others : List Y) → alone ≡ map f ks → (ks ≡ [] → ⊥) → alone ++ others ≡ [] → ⊥
busy_alone f ks alone others is some none = some (rules_none f ks alone is (append_none alone others none).0)

pub busy_toward : {X : Type 0} (alone : List X) (f : ℕ → List X) (n d : ℕ) → d < n → (f d ≡ [] → ⊥) → alone ++ flat_map f (range_with_len 0 n) ≡ [] → ⊥
busy_toward alone f n d lt some none = some (range_none f 0 n d (omega arith) (omega arith) (append_none alone (flat_map f (range_with_len 0 n)) none).1)

pub idle_more : {X : Type 0} (f : ℕ → List X) (d : ℕ) → flat_map f (range_with_len 0 d) ≡ [] → f d ≡ [] → flat_map f (range_with_len 0 (d + 1)) ≡ []
idle_more f d none here = directions_more f d ∙ ap (λ l. l ++ f d) none ∙ here

pub idle_whole : {X Y : Type 0} (f : X → Y) (ks : List X) (alone : List Y) (toward : ℕ → List Y) (n d : ℕ) → alone ≡ map f ks → ks ≡ [] → d ≡ n → flat_map toward (range_with_len 0 d) ≡ [] → alone ++ flat_map toward (range_with_len 0 n) ≡ []
idle_whole f ks alone toward n d is none same others = ap (λ l. l ++ flat_map toward (range_with_len 0 n)) (is ∙ ap (map f) none) ∙ ap (λ m. flat_map toward (range_with_len 0 m)) (sym same) ∙ others

pub alone_picked : {X : Type 0} (rate : X → ℕ) (alone es others : List X) (r : ℕ) (x : X) → alone ≡ es → pick rate es r ≡ Some x → pick rate (alone ++ others) r ≡ Some x
alone_picked rate alone es others r x is found = pick_some rate alone others r x (ap (λ l. pick rate l r) is ∙ found)
