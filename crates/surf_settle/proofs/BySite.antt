-- The law over sites gives the law over places, and so every layout settles.
use Rattle.std.proofs.Common.{◌≡◌, ℕ, zero, suc, ◌*◌, ◌/◌, ◌%◌, ◌<◌, Bool, true, false, Some, List, length, refl, sym, ap, ◌∙◌, subst, ◌⊎◌, inl, inr, arith}
use Rattle.std.proofs.lemmas.Nat.{div-mul-add, mod-mul-add}
use Rattle.std.proofs.lemmas.Bool.{cases_lt}
use Rattle.std.proofs.lemmas.List.{get_or_past}
use Rattle.std.proofs.Math.Nat.{div-lt_iff_lt-mul, mul_comm}
use Rattle.surf_tiles.specs.declared.kind.Kind.{Kind}
use Rattle.surf_tiles.specs.declared.kind.Kind.TheVariants.{Empty, Input, Value, P, Q, Gate1, Gate2, Centre}
use Rattle.surf_tiles.specs.declared.netlist.Gate.TheVariants.{One, Two}
use Rattle.surf_lattice.specs.declared.site.Site.{Site}
use Rattle.surf_tiles.specs.declared.state.Port.TheVariants.{AtA, AtB, AtH, AtV}
use Rattle.surf_settle.specs.Ways.{Way, Plain, By, Across, Down, offers, wants}
use Rattle.surf_settle.proofs.Squares.{place_of, Near}
use Rattle.surf_lattice.specs.Grids.{IsInside, Adjacent}
use Rattle.surf_tiles.specs.Netlists.{NetlistOf, IsGate}
use Rattle.surf_settle.specs.Law.{square_grid, grid_of, Plan, Slot, Lists, slot, kind_at, kind_of, slot_of, NetLaw, LocalLaw, IsLawful}
use Rattle.surf_settle.specs.Settling.{FilledRight, SettlesAlways}
use Rattle.surf_tiles.specs.Netlists.{net_meaning, value_in}
use Rattle.surf_settle.proofs.Places.{PlaceLaw}
use Rattle.surf_settle.proofs.Theorem.{placed_filled, placed_settles}
use Rattle.surf_settle.proofs.Places as Places

-- the site at a place
abbrev site_at : ℕ → ℕ → Site
site_at width q = record { x = q % width; y = q / width }

site_back : (width : ℕ) (s : Site) → s.x < width → site_at width (place_of width s) ≡ s
site_back width s b = rw (mod-mul-add s.y width s.x b, div-mul-add s.y width s.x b)

place_back : (width q : ℕ) → 0 < width → place_of width (site_at width q) ≡ q
place_back width q b = omega arith

wide : (width height q : ℕ) → q < width * height → 0 < width
wide zero height q b = absurd (omega arith)
wide (suc width) height q b = omega arith

inside_at : (width height q : ℕ) → q < width * height → IsInside (square_grid width height) (site_at width q)
inside_at width height q b = let p = wide width height q b in (omega arith, (div-lt_iff_lt-mul p).1 (rw (← mul_comm width height) b))

abbrev by_place : Plan → Lists → Places.Lists
by_place L l = record {
  net = λ q u. l.net (slot (site_at L.width q) u);
  rank = λ q u. l.rank (slot (site_at L.width q) u);
  feeder = λ q i. record { place = place_of L.width (l.feeder (site_at L.width q) i).site; down = (l.feeder (site_at L.width q) i).down };
}

-- a site of some kind is inside
kind_within : (kinds : List Kind) (q : ℕ) → (kind_at kinds q ≡ Empty → ⊥) → q < length kinds
kind_within kinds q n =
    elim (cases_lt q (length kinds)) [
      | inl b ↦ b
      | inr b ↦ absurd (n (get_or_past kinds q Empty b))
    ]

wants_not_empty : (k : Kind) (i : Bool) (w : Way) → wants k i ≡ Some w → k ≡ Empty → ⊥
wants_not_empty k i w n e = let p = subst (λ (x : Kind). wants x i ≡ Some w) e n in absurd cc

inside_of : (L : Plan) (l : Lists) → LocalLaw L l → (q : ℕ) → (kind_at L.kinds q ≡ Empty → ⊥) → q < L.width * L.height
inside_of L l law q n = rw law.long at (kind_within L.kinds q n)

kind_here : (L : Plan) (l : Lists) → LocalLaw L l → (q : ℕ) → q < L.width * L.height → kind_of L (site_at L.width q) ≡ kind_at L.kinds q
kind_here L l law q b = ap (kind_at L.kinds) (place_back L.width q (wide L.width L.height q b))

slot_back : (width : ℕ) (t : Slot) → t.site.x < width → slot (site_at width (place_of width t.site)) t.down ≡ t
slot_back width t b = ap (λ (x : Site). slot x t.down) (site_back width t.site b)

abbrev slot_placed : ℕ → Slot → Places.Slot
slot_placed width t = record { place = place_of width t.site; down = t.down }

feeder_back : (L : Plan) (l : Lists) (q p : Site) (i u : Bool) → q.x < L.width → l.feeder q i ≡ slot p u → (by_place L l).feeder (place_of L.width q) i ≡ record { place = place_of L.width p; down = u }
feeder_back L l q p i u b e = ap (λ (x : Site). slot_placed L.width (l.feeder x i)) (site_back L.width q b) ∙ ap (slot_placed L.width) e

placed_fed : (L : Plan) (l : Lists) → LocalLaw L l → (q : ℕ) (i : Bool) (w : Way) → wants (kind_at L.kinds q) i ≡ Some w → Places.IsFed L.kinds (Near L.width L.height) (by_place L l) q i w
placed_fed L l law q i w n =
    let b = inside_of L l law q (wants_not_empty (kind_at L.kinds q) i w n) in
    let s : Site = site_at L.width q in
    let k = kind_here L l law q b in
    let f = law.fed s (inside_at L.width L.height q b) i w (subst (λ (x : Kind). wants x i ≡ Some w) (sym k) n) in
    let e : slot (site_at L.width (place_of L.width (l.feeder s i).site)) (l.feeder s i).down ≡ l.feeder s i = slot_back L.width (l.feeder s i) f.beside.first.0 in
    record {
      beside = record { first = (l.feeder s i).site; second = s; adjacent = f.beside; at_first = refl; at_second = place_back L.width q (wide L.width L.height q b) };
      offered = f.offered;
      lower = subst (λ (x : Slot). l.rank x < l.rank (slot s (slot_of (kind_at L.kinds q) i))) (sym e) (subst (λ (x : Kind). l.rank (l.feeder s i) < l.rank (slot s (slot_of x i))) k f.lower);
    }

linked_at : (L : Plan) (l : Lists) → LocalLaw L l → (p q : Site) → Adjacent (grid_of L) p q → (u i : Bool) (w : Way) → offers (kind_of L p) u ≡ Some w → wants (kind_of L q) i ≡ Some w →
    ((by_place L l).feeder (place_of L.width q) i ≡ record { place = place_of L.width p; down = u }) ⊎ Places.Feeds L.kinds (by_place L l) (place_of L.width q) (place_of L.width p)
linked_at L l law p q a u i w o n =
    elim (law.linked p q a u i w o n) [
      | inl e ↦ inl (feeder_back L l q p i u a.second.0 e)
      | inr (j, w', u', n', e) ↦ inr (j, w', u', n', feeder_back L l p q j u' a.first.0 e)
    ]

placed_linked : (L : Plan) (l : Lists) → LocalLaw L l → (p q : ℕ) → Near L.width L.height p q → (u i : Bool) (w : Way) → offers (kind_at L.kinds p) u ≡ Some w → wants (kind_at L.kinds q) i ≡ Some w →
    ((by_place L l).feeder q i ≡ record { place = p; down = u }) ⊎ Places.Feeds L.kinds (by_place L l) q p
placed_linked L l law p q near u i w o n =
    subst (λ (y : ℕ). ((by_place L l).feeder y i ≡ record { place = p; down = u }) ⊎ Places.Feeds L.kinds (by_place L l) y p) near.at_second
    (subst (λ (x : ℕ). ((by_place L l).feeder (place_of L.width near.second) i ≡ record { place = x; down = u }) ⊎ Places.Feeds L.kinds (by_place L l) (place_of L.width near.second) x) near.at_first
    (linked_at L l law near.first near.second near.adjacent u i w (subst (λ (x : ℕ). offers (kind_at L.kinds x) u ≡ Some w) (sym near.at_first) o) (subst (λ (y : ℕ). wants (kind_at L.kinds y) i ≡ Some w) (sym near.at_second) n)))

nets_moved : (N : NetlistOf) (k : Kind) (own below one two one' two' : ℕ) → ((w : Way) → wants k false ≡ Some w → one ≡ one') → ((w : Way) → wants k true ≡ Some w → two ≡ two') → NetLaw N k own below one two → NetLaw N k own below one' two'
nets_moved N Empty own below one two one' two' f g h = tt
nets_moved N Input own below one two one' two' f g h = tt
nets_moved N (Value v) own below one two one' two' f g h = h
nets_moved N P own below one two one' two' f g h = h ∙ f Across refl
nets_moved N Q own below one two one' two' f g h = h ∙ f Down refl
nets_moved N (Gate1 z o) own below one two one' two' f g h = subst (λ (n : ℕ). IsGate N own (One z o n)) (f Plain refl) h
nets_moved N (Gate2 t00 t01 t10 t11) own below one two one' two' f g h =
    subst (λ (n : ℕ). IsGate N own (Two t00 t01 t10 t11 n two')) (f (By AtA) refl) (subst (λ (n : ℕ). IsGate N own (Two t00 t01 t10 t11 one n)) (g (By AtB) refl) h)
nets_moved N Centre own below one two one' two' f g h = (h.0 ∙ f (By AtH) refl, h.1 ∙ g (By AtV) refl)
nets_moved N _ own below one two one' two' f g h = h ∙ f Plain refl

empty_or_not : (k : Kind) → (k ≡ Empty) ⊎ (k ≡ Empty → ⊥)
empty_or_not Empty = inl refl
empty_or_not _ = inr (λ e. absurd cc)

placed_nets : (L : Plan) (l : Lists) → LocalLaw L l → (q : ℕ) → NetLaw L.netlist (kind_at L.kinds q) ((by_place L l).net q false) ((by_place L l).net q true) (Places.fed_net (by_place L l) q false) (Places.fed_net (by_place L l) q true)
placed_nets L l law q =
    elim (empty_or_not (kind_at L.kinds q)) [
      | inl e ↦ subst (λ (k : Kind). NetLaw L.netlist k ((by_place L l).net q false) ((by_place L l).net q true) (Places.fed_net (by_place L l) q false) (Places.fed_net (by_place L l) q true)) (sym e) tt
      | inr n ↦ (
          let b = inside_of L l law q n in
          let s : Site = site_at L.width q in
          let k = kind_here L l law q b in
          let moved : (i : Bool) (w : Way) → wants (kind_at L.kinds q) i ≡ Some w → l.net (l.feeder s i) ≡ Places.fed_net (by_place L l) q i = λ i w m.
          let f = law.fed s (inside_at L.width L.height q b) i w (subst (λ (x : Kind). wants x i ≡ Some w) (sym k) m) in
          sym (ap l.net (slot_back L.width (l.feeder s i) f.beside.first.0)) in
          nets_moved L.netlist (kind_at L.kinds q) (l.net (slot s false)) (l.net (slot s true)) (l.net (l.feeder s false)) (l.net (l.feeder s true)) _ _ (moved false) (moved true)
          (subst (λ (x : Kind). NetLaw L.netlist x (l.net (slot s false)) (l.net (slot s true)) (l.net (l.feeder s false)) (l.net (l.feeder s true))) k (law.nets s (inside_at L.width L.height q b))))
    ]

input_not_empty : (k : Kind) → k ≡ Input → k ≡ Empty → ⊥
input_not_empty k e f = absurd cc

pub placed_law : (L : Plan) (l : Lists) → LocalLaw L l → PlaceLaw L (by_place L l)
placed_law L l law = record {
  ordered = law.ordered;
  long = law.long;
  wired = record { fed = placed_fed L l law; linked = placed_linked L l law };
  nets = placed_nets L l law;
  as_many_inputs = law.as_many_inputs;
  input = λ i s e. let h = law.input i s e in (h.1, ap (λ (x : Site). l.net (slot x false)) (site_back L.width s h.0.0) ∙ h.2);
  inputs_only = λ q e.
      let b = inside_of L l law q (input_not_empty (kind_at L.kinds q) e) in
      let h = law.inputs_only (site_at L.width q) (inside_at L.width L.height q b) (kind_here L l law q b ∙ e) in
      (h.0, site_at L.width q, h.1, place_back L.width q (wide L.width L.height q b));
  as_many_outputs = law.as_many_outputs;
  output = λ i s net o n. let h = law.output i s net o n in (h.1, ap (λ (x : Site). l.net (slot x false)) (site_back L.width s h.0.0) ∙ h.2);
}

filled_right : (L : Plan) (bits : List Bool) → length bits ≡ L.netlist.inputs → FilledRight L bits
filled_right L bits long l law es r s inside name at down v filled =
    placed_filled L bits (by_place L l) long (placed_law L l law) es r (place_of L.width s) name at down v filled
    ∙ ap (λ (x : Site). value_in (net_meaning L.netlist bits) (l.net (slot x down))) (site_back L.width s inside.0)

pub layout_settles : (L : Plan) → IsLawful L → SettlesAlways L
layout_settles L (l, law) bits long = placed_settles L bits (by_place L l) long (placed_law L l law) (filled_right L bits long)
