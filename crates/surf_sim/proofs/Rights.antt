-- Sites whose weights are right keep them while others are set, and need not be set again.
use Rattle.std.specs.Prelude.{Contains, slice_index, slice_set}
use Rattle.std.specs.List.{filter, filter_map, flat_map, range_with_len}
use Rattle.std.specs.Option.{option_to_list}
use Rattle.std.proofs.Common.{ℕ, ◌≡◌, ◌+◌, ◌*◌, ◌<◌, ◌≤◌, inl, inr, Bool, false, Option, Some, None, List, [], ◌∷◌, ◌++◌, length, length-append, sym, ◌∙◌, ap, subst, arith, suc, length-set}
use Rattle.std.proofs.lemmas.Bool.{cases_eq, false≢true}
use Rattle.std.proofs.lemmas.List.{get_or-set_other, get_or-set_same, set-get_or}
use Rattle.std.proofs.lemmas.List.Elements.{filter-append}
use Rattle.surf_lattice.specs.declared.site.Site.{Site}
use Rattle.surf_lattice.specs.Grids.{Grid, IsInside, degree, neighbour, neighbours, place}
use Rattle.surf_lattice.proofs.Listing.{found_more}
use Rattle.surf_world.specs.declared.event.Event.{Event}
use Rattle.surf_world.specs.Systems.{Surface}
use Rattle.surf_world.specs.Picks.{weight_of, around, refreshed}
use Rattle.surf_world.proofs.Members.{has_here, has_first, has_later, has_cases, has_none}
use Rattle.surf_world.proofs.Places.{one_place, place_in}
use Rattle.surf_lattice.proofs.Neighbours.{listed_adjacent}
use Rattle.surf_sim.specs.Simulations.{AreWeights}
use Rattle.surf_sim.specs.Touched.{is_new, touched, AreRight, AreSettled, IsSettled}
use Rattle.surf_sim.proofs.Touched.{new_or_not}

-- all of these sites are inside
abbrev AreInside : Grid → List Site → Type 0
AreInside g ps = (p : Site) → Contains ps p → IsInside g p

-- a further set keeps what is right
right_kept : (S : Surface ℕ) (c : List ℕ) (ps : List Site) (q : Site) (ws : List ℕ) → AreInside S.grid ps → IsInside S.grid q → place S.grid q < length ws → AreRight S c ps ws
    → AreRight S c ps (slice_set ws (place S.grid q) (weight_of S c q))
right_kept S c ps q ws inside q_inside lt right p has = elim (cases_eq (place S.grid q) (place S.grid p)) [
  | inl e ↦ ap (λ n. slice_index (slice_set ws (place S.grid q) (weight_of S c q)) n) (sym e) ∙ get_or-set_same ws (place S.grid q) (weight_of S c q) 0 lt
      ∙ ap (weight_of S c) (one_place S.grid q p q_inside (inside p has) e)
  | inr ne ↦ get_or-set_other ws (place S.grid q) (place S.grid p) (weight_of S c q) 0 (λ e. ne (sym e)) ∙ right p has
]

-- and the site that is set is right
right_set : (S : Surface ℕ) (c : List ℕ) (q : Site) (ws : List ℕ) → place S.grid q < length ws → AreRight S c (q ∷ []) (slice_set ws (place S.grid q) (weight_of S c q))
right_set S c q ws lt p has = elim (has_cases q [] p has) [
  | inl e ↦ ap (λ s. slice_index (slice_set ws (place S.grid q) (weight_of S c q)) (place S.grid s)) (sym e) ∙ get_or-set_same ws (place S.grid q) (weight_of S c q) 0 lt ∙ ap (weight_of S c) e
  | inr d ↦ absurd (has_none p d)
]

place_within : (g : Grid) (ws : List ℕ) (q : Site) → length ws ≡ g.width * g.height → IsInside g q → place g q < length ws
place_within g ws q long inside = omega (arith, long, place_in g q inside)

long_set : (g : Grid) (ws : List ℕ) (i w : ℕ) → length ws ≡ g.width * g.height → length (slice_set ws i w) ≡ g.width * g.height
long_set g ws i w long = length-set ws i w ∙ long

pub rights_kept : (S : Surface ℕ) (c : List ℕ) (ps qs : List Site) (ws : List ℕ) → AreInside S.grid ps → AreInside S.grid qs → length ws ≡ S.grid.width * S.grid.height → AreRight S c ps ws
    → AreRight S c ps (refreshed S c qs ws)
rights_kept S c ps [] ws inside all long right = right
rights_kept S c ps (q ∷ qs) ws inside all long right =
    let q_inside = all q (has_here q qs) in
    rights_kept S c ps qs (slice_set ws (place S.grid q) (weight_of S c q)) inside (λ p has. all p (has_later q qs p has)) (long_set S.grid ws (place S.grid q) (weight_of S c q) long)
    (right_kept S c ps q ws inside q_inside (place_within S.grid ws q long q_inside) right)

first_inside : (g : Grid) (q : Site) → IsInside g q → AreInside g (q ∷ [])
first_inside g q inside p has = elim (has_cases q [] p has) [ inl e ↦ subst (IsInside g) e inside | inr d ↦ absurd (has_none p d) ]

-- the sites that were set are right
rights_set : (S : Surface ℕ) (c : List ℕ) (qs : List Site) (ws : List ℕ) → AreInside S.grid qs → length ws ≡ S.grid.width * S.grid.height → AreRight S c qs (refreshed S c qs ws)
rights_set S c [] ws all long p has = absurd (has_none p has)
rights_set S c (q ∷ qs) ws all long p has =
    let q_inside = all q (has_here q qs) in
    let later : AreInside S.grid qs = λ s c. all s (has_later q qs s c) in
    let now = slice_set ws (place S.grid q) (weight_of S c q) in
    let now_long = long_set S.grid ws (place S.grid q) (weight_of S c q) long in
    elim (has_cases q qs p has) [
      | inl e ↦ rights_kept S c (q ∷ []) qs now (first_inside S.grid q q_inside) later now_long (right_set S c q ws (place_within S.grid ws q long q_inside)) p (has_first q [] p e)
      | inr d ↦ rights_set S c qs now later now_long p d
    ]

around_inside : (g : Grid) (p : Site) → IsInside g p → AreInside g (around g p)
around_inside g p inside s has = elim (has_cases p (neighbours g p) s has) [
  | inl e ↦ subst (IsInside g) e inside
  | inr d ↦ (listed_adjacent g p s inside d).second
]

pub around_right : (S : Surface ℕ) (c : List ℕ) (p : Site) (old new : List ℕ) → IsInside S.grid p → AreWeights S old → new ≡ refreshed S c (around S.grid p) old → AreRight S c (around S.grid p) new
around_right S c p old new inside weights is =
    subst (AreRight S c (around S.grid p)) (sym is) (rights_set S c (around S.grid p) old (around_inside S.grid p inside) weights.count)

-- setting one more keeps those around a site right
pub still_right : (S : Surface ℕ) (c : List ℕ) (p q : Site) (old new : List ℕ) → IsInside S.grid p → IsInside S.grid q → AreWeights S old → AreRight S c (around S.grid p) old
    → new ≡ slice_set old (place S.grid q) (weight_of S c q) → AreRight S c (around S.grid p) new
still_right S c p q old new inside q_inside weights right is =
    subst (AreRight S c (around S.grid p)) (sym is)
    (right_kept S c (around S.grid p) q old (around_inside S.grid p inside) q_inside (place_within S.grid old q weights.count q_inside) right)

-- setting a right weight changes nothing
pub right_stays : (S : Surface ℕ) (c : List ℕ) (p q : Site) (ws : List ℕ) → AreRight S c (around S.grid p) ws → Contains (around S.grid p) q → ws ≡ slice_set ws (place S.grid q) (weight_of S c q)
right_stays S c p q ws right has = sym (ap (λ w. slice_set ws (place S.grid q) w) (sym (right q has)) ∙ set-get_or ws (place S.grid q) 0)

pub passed_over : (S : Surface ℕ) (c : List ℕ) (p q : Site) (ws : List ℕ) → AreRight S c (around S.grid p) ws → is_new S.grid p q ≡ false → ws ≡ slice_set ws (place S.grid q) (weight_of S c q)
passed_over S c p q ws right old = elim (new_or_not S.grid p q) [
  | inl new ↦ absurd (false≢true (sym old ∙ new))
  | inr has ↦ right_stays S c p q ws right has
]

-- once a changed site is set, it is settled too
pub settled_done : (S : Surface ℕ) (c : List ℕ) (q : Site) (rest : List Site) (old new : List ℕ) → IsInside S.grid q → AreWeights S old → AreSettled S c (q ∷ rest) old
    → new ≡ slice_set old (place S.grid q) (weight_of S c q) → AreSettled S c rest new
settled_done S c q rest old new q_inside weights settled is p a inside at single out =
    let set_to : List ℕ = slice_set old (place S.grid q) (weight_of S c q) in
    ap (λ v. slice_index v (place S.grid p)) is ∙ elim (cases_eq (place S.grid q) (place S.grid p)) [
      | inl e ↦ ap (λ n. slice_index (slice_set old (place S.grid q) (weight_of S c q)) n) (sym e)
          ∙ get_or-set_same old (place S.grid q) (weight_of S c q) 0 (place_within S.grid old q weights.count q_inside)
          ∙ ap (weight_of S c) (one_place S.grid q p q_inside inside e)
      | inr ne ↦ get_or-set_other old (place S.grid q) (place S.grid p) (weight_of S c q) 0 (λ e. ne (sym e))
          ∙ settled p a inside at single (λ has. elim (has_cases q rest p has) [ inl e ↦ ne (ap (place S.grid) e) | inr d ↦ out d ])
    ]

-- and a further set keeps what is settled
pub settled_kept : (S : Surface ℕ) (c : List ℕ) (q : Site) (changed : List Site) (old new : List ℕ) → IsInside S.grid q → AreWeights S old → AreSettled S c changed old
    → new ≡ slice_set old (place S.grid q) (weight_of S c q) → AreSettled S c changed new
settled_kept S c q changed old new q_inside weights settled is =
    settled_done S c q changed old new q_inside weights (λ p a inside at single out. settled p a inside at single (λ has. out (has_later q changed p has))) is

only_one : (o : Option Site) (p : Site) → Contains (option_to_list o) p → o ≡ Some p
only_one None p has = absurd (has_none p has)
only_one (Some q) p has = elim (has_cases q [] p has) [ inl e ↦ ap (λ (v : Site). Some v) e | inr d ↦ absurd (has_none p d) ]

-- setting a settled weight changes nothing
pub settled_stays : (S : Surface ℕ) (c : List ℕ) (changed : Option Site) (p : Site) (ws : List ℕ) → IsInside S.grid p → AreSettled S c (option_to_list changed) ws → IsSettled S c changed p → ws ≡ slice_set ws (place S.grid p) (weight_of S c p)
settled_stays S c changed p ws inside settled here =
    let right = settled p here.0 inside here.1 here.2 (λ has. here.3 (only_one changed p has)) in
    sym (ap (λ w. slice_set ws (place S.grid p) w) (sym right) ∙ set-get_or ws (place S.grid p) 0)

-- one direction more, and all of them
found_next : (g : Grid) (p : Site) (d : ℕ) → filter_map (neighbour g p) (range_with_len 0 (d + 1)) ≡ filter_map (neighbour g p) (range_with_len 0 d) ++ option_to_list (neighbour g p d)
found_next g p d = ap (λ k. filter_map (neighbour g p) (range_with_len 0 k)) (let e : d + 1 ≡ suc d = omega arith in e) ∙ found_more (neighbour g p) 0 d d (omega arith)

same_length : (g h : Grid) (p : Site) (d : ℕ) (test : Site → Bool) (o : Option Site) → h ≡ g → o ≡ neighbour h p d → length (filter test (option_to_list o)) ≡ length (filter test (option_to_list (neighbour g p d)))
same_length g h p d test o same is = ap (λ q. length (filter test (option_to_list q))) (is ∙ ap (λ k. neighbour k p d) same)

pub sets_more : (g h : Grid) (p : Site) (d old mid new : ℕ) (o : Option Site) → h ≡ g → o ≡ neighbour h p d → mid ≤ old + 1 + length (filter_map (neighbour g p) (range_with_len 0 d)) → new ≤ mid + length (option_to_list o)
    → new ≤ old + 1 + length (filter_map (neighbour g p) (range_with_len 0 (d + 1)))
sets_more g h p d old mid new o same is m n =
    let one : length (option_to_list o) ≡ length (option_to_list (neighbour g p d)) = ap (λ q. length (option_to_list q)) (is ∙ ap (λ k. neighbour k p d) same) in
    omega (arith, m, n, one, ap length (found_next g p d), length-append (filter_map (neighbour g p) (range_with_len 0 d)) (option_to_list (neighbour g p d)))

pub sets_all : (g : Grid) (p : Site) (d old new : ℕ) → d ≡ degree g.kind → new ≤ old + 1 + length (filter_map (neighbour g p) (range_with_len 0 d)) → new ≤ old + length (around g p)
sets_all g p d old new whole le = omega (arith, le, ap (λ k. length (filter_map (neighbour g p) (range_with_len 0 k))) whole)

pub news_more : (g h : Grid) (test : Site → Bool) (p : Site) (d old mid new : ℕ) (o : Option Site) → h ≡ g → o ≡ neighbour h p d → mid ≤ old + length (filter test (p ∷ filter_map (neighbour g p) (range_with_len 0 d)))
    → new ≤ mid + length (filter test (option_to_list o)) → new ≤ old + length (filter test (p ∷ filter_map (neighbour g p) (range_with_len 0 (d + 1))))
news_more g h test p d old mid new o same is m n =
    let before = p ∷ filter_map (neighbour g p) (range_with_len 0 d) in
    let more = option_to_list (neighbour g p d) in
    omega (arith, m, n, same_length g h p d test o same is, ap (λ v. length (filter test (p ∷ v))) (found_next g p d), ap length (filter-append test before more), length-append (filter test before) (filter test more))

pub news_all : (g : Grid) (test : Site → Bool) (p : Site) (d old new : ℕ) → d ≡ degree g.kind → new ≤ old + length (filter test (p ∷ filter_map (neighbour g p) (range_with_len 0 d))) → new ≤ old + length (filter test (around g p))
news_all g test p d old new whole le = omega (arith, le, ap (λ k. length (filter test (p ∷ filter_map (neighbour g p) (range_with_len 0 k)))) whole)

-- the sites around the first and the new ones around the second
pub sets_touched : (g : Grid) (e : Event) (old mid new : ℕ) → mid ≤ old + length (around g e.first) → new ≤ mid + length (filter (is_new g e.first) (flat_map (around g) (option_to_list e.second))) → new ≤ old + length (touched g e)
sets_touched g e old mid new m n = omega (arith, m, n, length-append (around g e.first) (filter (is_new g e.first) (flat_map (around g) (option_to_list e.second))))
