-- The law in the words of names and rules gives the law in the words of ways.
use Rattle.std.proofs.Common.{◌≡◌, ◌<◌, Bool, true, false, cond, Some, None, List, [], ◌∷◌, refl, sym, ap, ◌∙◌, subst, ◌⊎◌, inl, inr}
use Rattle.surf_tiles.specs.declared.kind.Kind.{Kind}
use Rattle.surf_tiles.specs.declared.kind.Kind.TheVariants.{Empty, Input, Value, Wire, A, B, H, V, P, Q, Gate1, Gate2, Centre}
use Rattle.surf_tiles.specs.declared.netlist.Gate.TheVariants.{One, Two}
use Rattle.surf_lattice.specs.declared.site.Site.{Site}
use Rattle.surf_tiles.specs.Netlists.{IsGate}
use Rattle.surf_tiles.specs.declared.state.Port.{Port}
use Rattle.surf_tiles.specs.declared.state.Port.TheVariants.{AtA, AtB, AtH, AtV}
use Rattle.surf_tiles.specs.declared.state.State.{State}
use Rattle.surf_tiles.specs.declared.state.State.TheVariants.{Bit, Held, Crossing}
use Rattle.surf_tiles.specs.declared.reaction.Reaction.TheVariants.{WireReads, PortReads, OneReads, AcrossReads, DownReads, PReads, QReads, GateReadsA, ReadsLastB}
use Rattle.surf_tiles.specs.Reactions.{reader}
use Rattle.surf_settle.specs.Ways.{Way, Plain, By, Across, Down, offers, wants}
use Rattle.surf_lattice.specs.Grids.{IsInside, Adjacent}
use Rattle.surf_settle.specs.Law.{grid_of, Plan, Slot, Lists, slot, kind_of, slot_of, IsFed, Feeds, NetLaw, LocalLaw}
use Rattle.surf_tiles.specs.Kinds.{blank}
use Rattle.surf_settle.proofs.Tables.{shown_blank}
use Rattle.surf_settle.specs.Literal.{SlotLists, IsSlotOf, IsFeeder, IsPlain, SlotLaw, CanTake, Begins, Is_set, Is_put, Among, LiteralLaw}
use Rattle.surf_settle.proofs.Local.{Says, Reacts, reacts}

abbrev first_of : Slot → List Slot → Slot
first_of d [] = d
first_of d (f ∷ fs) = f

abbrev second_of : Slot → List Slot → Slot
second_of d [] = d
second_of d (f ∷ fs) = first_of d fs

-- the slot that feeds a read
abbrev feeder_of : Kind → SlotLists → Site → Bool → Slot
feeder_of Centre l s i = first_of (slot s i) (l.feeders (slot s i))
feeder_of (Gate2 t00 t01 t10 t11) l s i = cond i (second_of (slot s false) (l.feeders (slot s false))) (first_of (slot s false) (l.feeders (slot s false)))
feeder_of _ l s i = first_of (slot s false) (l.feeders (slot s false))

-- what feeds a read
pub record FeedsRead (L : Plan) (l : SlotLists) (k : Kind) (s : Site) (i : Bool) (w : Way) : Type 0 where
  pub from : Slot
  pub is : feeder_of k l s i ≡ from
  pub feeder : IsFeeder L l from (slot s (slot_of k i))
  pub offered : offers (kind_of L from.site) from.down ≡ Some w

plain_offers : (k : Kind) (u : Bool) → IsPlain k → IsSlotOf k u → offers k u ≡ Some Plain
plain_offers Input u p h = rw h refl
plain_offers (Value v) u p h = rw h refl
plain_offers Wire u p h = rw h refl
plain_offers P u p h = rw h refl
plain_offers Q u p h = rw h refl
plain_offers (Gate1 z o) u p h = rw h refl
plain_offers (Gate2 t00 t01 t10 t11) u p h = rw h refl
plain_offers _ u p h = absurd p

offers_at : (k k' : Kind) (u u' : Bool) (w : Way) → k ≡ k' → u ≡ u' → offers k' u' ≡ Some w → offers k u ≡ Some w
offers_at k k' u u' w e f h = cc

port_slot : (k k' : Kind) (u : Bool) → k ≡ k' → (IsSlotOf k' u → u ≡ false) → IsSlotOf k u → u ≡ false
port_slot k k' u e f h = f (subst (λ (x : Kind). IsSlotOf x u) e h)

plain_read : (L : Plan) (l : SlotLists) (k : Kind) (s : Site) (w : Way) → Plain ≡ w → (slot_of k false ≡ false) → feeder_of k l s false ≡ first_of (slot s false) (l.feeders (slot s false)) →
    (f : Slot) → l.feeders (slot s false) ≡ f ∷ [] → IsFeeder L l f (slot s false) → IsPlain (kind_of L f.site) → FeedsRead L l k s false w
plain_read L l k s w e d r f is h p = record {
  from = f;
  is = r ∙ ap (first_of (slot s false)) is;
  feeder = rw d h;
  offered = plain_offers (kind_of L f.site) f.down p h.is_slot.1 ∙ ap (λ (x : Way). Some x) e;
}

feeds_read : (L : Plan) (l : SlotLists) (i : Bool) (k : Kind) (s : Site) (w : Way) → ((u : Bool) → IsSlotOf k u → SlotLaw L l k (slot s u)) → wants k i ≡ Some w → FeedsRead L l k s i w
feeds_read L l false Wire s w law n = let (f, is, h, c) = law false refl in plain_read L l Wire s w (cc) refl refl f is h c.1
feeds_read L l false A s w law n = let (f, is, h, c) = law false refl in plain_read L l A s w (cc) refl refl f is h c.1
feeds_read L l false B s w law n = let (f, is, h, c) = law false refl in plain_read L l B s w (cc) refl refl f is h c.1
feeds_read L l false H s w law n = let (f, is, h, c) = law false refl in plain_read L l H s w (cc) refl refl f is h c.1
feeds_read L l false V s w law n = let (f, is, h, c) = law false refl in plain_read L l V s w (cc) refl refl f is h c.1
feeds_read L l false (Gate1 z o) s w law n = let (f, is, h, c) = law false refl in plain_read L l (Gate1 z o) s w (cc) refl refl f is h c.1
feeds_read L l false P s w law n =
    let (f, is, h, c) = law false refl in
    record { from = f; is = ap (first_of (slot s false)) is; feeder = h; offered = offers_at _ Centre _ false w c.1.0 c.1.1 n }
feeds_read L l false Q s w law n =
    let (f, is, h, c) = law false refl in
    record { from = f; is = ap (first_of (slot s false)) is; feeder = h; offered = offers_at _ Centre _ true w c.1.0 c.1.1 n }
feeds_read L l false (Gate2 t00 t01 t10 t11) s w law n =
    let (f, g, is, hf, hg, kf, kg, net) = law false refl in
    record { from = f; is = ap (first_of (slot s false)) is; feeder = hf; offered = offers_at _ A _ false w kf (subst (λ (x : Kind). IsSlotOf x f.down) kf hf.is_slot.1) n }
feeds_read L l true (Gate2 t00 t01 t10 t11) s w law n =
    let (f, g, is, hf, hg, kf, kg, net) = law false refl in
    record { from = g; is = ap (second_of (slot s false)) is; feeder = hg; offered = offers_at _ B _ false w kg (subst (λ (x : Kind). IsSlotOf x g.down) kg hg.is_slot.1) n }
feeds_read L l false Centre s w law n =
    let (f, is, h, c) = law false tt in
    record { from = f; is = ap (first_of (slot s false)) is; feeder = h; offered = offers_at _ H _ false w c.1 (subst (λ (x : Kind). IsSlotOf x f.down) c.1 h.is_slot.1) n }
feeds_read L l true Centre s w law n =
    let (f, is, h, c) = law true tt in
    record { from = f; is = ap (first_of (slot s true)) is; feeder = h; offered = offers_at _ V _ false w c.1 (subst (λ (x : Kind). IsSlotOf x f.down) c.1 h.is_slot.1) n }
feeds_read L l _ _ s w law n = absurd cc

-- a slot among the feeders of a slot feeds one of its reads
pub record ReadBy (k : Kind) (l : SlotLists) (s : Site) (t : Slot) : Type 0 where
  pub which : Bool
  pub way : Way
  pub wanted : wants k which ≡ Some way
  pub is : feeder_of k l s which ≡ t

among_none : (t : Slot) (xs : List Slot) → xs ≡ [] → Among t xs → ⊥
among_none t xs e h = subst (Among t) e h

among_one : (t f : Slot) (xs : List Slot) → xs ≡ f ∷ [] → Among t xs → t ≡ f
among_one t f xs e h = elim (subst (Among t) e h) as (λ x. t ≡ f) [ inl p ↦ p | inr q ↦ absurd q ]

among_two : (t f g : Slot) (xs : List Slot) → xs ≡ f ∷ g ∷ [] → Among t xs → (t ≡ f) ⊎ (t ≡ g)
among_two t f g xs e h = elim (subst (Among t) e h) as (λ x. (t ≡ f) ⊎ (t ≡ g)) [ inl p ↦ inl p | inr q ↦ elim q as (λ x. (t ≡ f) ⊎ (t ≡ g)) [ inl p ↦ inr p | inr z ↦ absurd z ] ]

single_read : (k : Kind) (l : SlotLists) (s : Site) (t f : Slot) (v : Bool) (w : Way) → wants k false ≡ Some w → feeder_of k l s false ≡ first_of (slot s false) (l.feeders (slot s false)) → v ≡ false → l.feeders (slot s v) ≡ f ∷ [] → Among t (l.feeders (slot s v)) → ReadBy k l s t
single_read k l s t f v w n r e is h =
    let is' : l.feeders (slot s false) ≡ f ∷ [] = ap (λ (x : Bool). l.feeders (slot s x)) (sym e) ∙ is in
    record { which = false; way = w; wanted = n; is = r ∙ ap (first_of (slot s false)) is' ∙ sym (among_one t f _ is h) }

read_by : (L : Plan) (l : SlotLists) (k : Kind) (s : Site) (t : Slot) (v : Bool) → IsSlotOf k v → SlotLaw L l k (slot s v) → Among t (l.feeders (slot s v)) → ReadBy k l s t
read_by L l Empty s t v z law h = absurd z
read_by L l Input s t v z law h = absurd (among_none t _ law h)
read_by L l (Value x) s t v z law h = absurd (among_none t _ law.0 h)
read_by L l P s t v z law h = single_read P l s t law.0 v Across refl refl z law.1 h
read_by L l Q s t v z law h = single_read Q l s t law.0 v Down refl refl z law.1 h
read_by L l (Gate1 a o) s t v z law h = single_read (Gate1 a o) l s t law.0 v Plain refl refl z law.1 h
read_by L l (Gate2 t00 t01 t10 t11) s t v z (f, g, is, hf, hg, kf, kg, net) h =
    let is' : l.feeders (slot s false) ≡ f ∷ g ∷ [] = ap (λ (x : Bool). l.feeders (slot s x)) (sym z) ∙ is in
    elim (among_two t f g _ is h) [
      | inl e ↦ record { which = false; way = By AtA; wanted = refl; is = ap (first_of (slot s false)) is' ∙ sym e }
      | inr e ↦ record { which = true; way = By AtB; wanted = refl; is = ap (second_of (slot s false)) is' ∙ sym e }
    ]
read_by L l Centre s t false z law h = record { which = false; way = By AtH; wanted = refl; is = ap (first_of (slot s false)) law.1 ∙ sym (among_one t law.0 _ law.1 h) }
read_by L l Centre s t true z law h = record { which = true; way = By AtV; wanted = refl; is = ap (first_of (slot s true)) law.1 ∙ sym (among_one t law.0 _ law.1 h) }
read_by L l Wire s t v z law h = single_read Wire l s t law.0 v Plain refl refl z law.1 h
read_by L l A s t v z law h = single_read A l s t law.0 v Plain refl refl z law.1 h
read_by L l B s t v z law h = single_read B l s t law.0 v Plain refl refl z law.1 h
read_by L l H s t v z law h = single_read H l s t law.0 v Plain refl refl z law.1 h
read_by L l V s t v z law h = single_read V l s t law.0 v Plain refl refl z law.1 h

-- two sites meet on one way only
offers_once : (u u' : Bool) (k : Kind) (w : Way) → offers k u ≡ Some w → offers k u' ≡ Some w → u ≡ u'
offers_once true true k w o p = refl
offers_once false false k w o p = refl
offers_once true false Empty w o p = absurd cc
offers_once false true Empty w o p = absurd cc
offers_once _ _ _ w o p = absurd cc

pub record WantsTwo (w w' : Way) : Type 0 where
  pub one : Port
  pub other : Port
  pub is_one : w ≡ By one
  pub is_other : w' ≡ By other
  pub apart : one ≡ other → ⊥

wants_two : (k : Kind) (w w' : Way) → wants k true ≡ Some w → wants k false ≡ Some w' → WantsTwo w w'
wants_two (Gate2 t00 t01 t10 t11) w w' n m = record { one = AtB; other = AtA; is_one = cc; is_other = cc; apart = λ e. absurd cc }
wants_two Centre w w' n m = record { one = AtV; other = AtH; is_one = cc; is_other = cc; apart = λ e. absurd cc }
wants_two _ w w' n m = absurd cc

one_port : (u u' : Bool) (k : Kind) (x y : Port) → offers k u ≡ Some (By x) → offers k u' ≡ Some (By y) → x ≡ y
one_port true true Empty x y o p = cc
one_port true false Empty x y o p = cc
one_port false true Empty x y o p = cc
one_port false false Empty x y o p = cc
one_port _ _ _ x y o p = cc

not_two : (k k' : Kind) (u u' : Bool) (w w' : Way) → offers k u ≡ Some w → wants k' true ≡ Some w → offers k u' ≡ Some w' → wants k' false ≡ Some w' → ⊥
not_two k k' u u' w w' o n o' n' =
    let t = wants_two k' w w' n n' in
    t.apart (one_port u u' k t.one t.other (o ∙ ap (λ (x : Way). Some x) t.is_one) (o' ∙ ap (λ (x : Way). Some x) t.is_other))

meet_once : (i i' : Bool) (k k' : Kind) (u u' : Bool) (w w' : Way) → offers k u ≡ Some w → wants k' i ≡ Some w → offers k u' ≡ Some w' → wants k' i' ≡ Some w' → (u ≡ u') × (i ≡ i')
meet_once true true k k' u u' w w' o n o' n' = (offers_once u u' k w o (let e : w' ≡ w = cc in cc), refl)
meet_once false false k k' u u' w w' o n o' n' = (offers_once u u' k w o (let e : w' ≡ w = cc in cc), refl)
meet_once true false k k' u u' w w' o n o' n' = absurd (not_two k k' u u' w w' o n o' n')
meet_once false true k k' u u' w w' o n o' n' = absurd (not_two k k' u' u w' w o' n' o n)

-- a site can take a name that says a value on each way that it offers
pub record Sayable (k : Kind) (w : Way) : Type 0 where
  pub value : Bool
  pub name : State
  pub can : CanTake k name
  pub says : Says w value name

sayable_at : (k : Kind) (w w' : Way) → w ≡ w' → Sayable k w → Sayable k w'
sayable_at k w w' e h = subst (Sayable k) e h

sayable : (u : Bool) (k : Kind) (w : Way) → offers k u ≡ Some w → Sayable k w
sayable false Input w o = sayable_at _ Plain w (cc) (record { value = false; name = Bit false; can = Is_set _ false refl refl; says = refl })
sayable false (Value v) w o = sayable_at _ Plain w (cc) (record { value = v; name = Bit v; can = Begins _ refl; says = refl })
sayable false Wire w o = sayable_at _ Plain w (cc) (record { value = false; name = Bit false; can = Is_put _ (WireReads false) (Begins _ refl) refl; says = refl })
sayable false A w o = sayable_at _ (By AtA) w (cc) (record { value = false; name = Held AtA (Some false); can = Is_put _ (PortReads AtA false) (Begins _ refl) refl; says = refl })
sayable false B w o = sayable_at _ (By AtB) w (cc) (record { value = false; name = Held AtB (Some false); can = Is_put _ (PortReads AtB false) (Begins _ refl) refl; says = refl })
sayable false H w o = sayable_at _ (By AtH) w (cc) (record { value = false; name = Held AtH (Some false); can = Is_put _ (PortReads AtH false) (Begins _ refl) refl; says = refl })
sayable false V w o = sayable_at _ (By AtV) w (cc) (record { value = false; name = Held AtV (Some false); can = Is_put _ (PortReads AtV false) (Begins _ refl) refl; says = refl })
sayable false P w o = sayable_at _ Plain w (cc) (record { value = false; name = Bit false; can = Is_put _ (PReads None false) (Begins _ refl) refl; says = refl })
sayable false Q w o = sayable_at _ Plain w (cc) (record { value = false; name = Bit false; can = Is_put _ (QReads None false) (Begins _ refl) refl; says = refl })
sayable false (Gate1 z one) w o = sayable_at _ Plain w (cc) (record { value = z; name = Bit z; can = Is_put _ (OneReads z one false) (Begins _ refl) refl; says = refl })
sayable false (Gate2 t00 t01 t10 t11) w o = sayable_at _ Plain w (cc) (record { value = t00; name = Bit t00; can = Is_put _ (ReadsLastB t00 t01 false) (Is_put _ (GateReadsA t00 t01 t10 t11 false) (Begins _ refl) refl) refl; says = refl })
sayable false Centre w o = sayable_at _ Across w (cc) (record { value = false; name = Crossing (Some false) None; can = Is_put _ (AcrossReads None false) (Begins _ refl) refl; says = (None, refl) })
sayable true Centre w o = sayable_at _ Down w (cc) (record { value = false; name = Crossing None (Some false); can = Is_put _ (DownReads None false) (Begins _ refl) refl; says = (None, refl) })
sayable _ _ w o = absurd cc

-- what is said is read by the blank name of a kind that wants it
wants_not_input : (k : Kind) (i : Bool) (w : Way) → wants k i ≡ Some w → k ≡ Input → ⊥
wants_not_input k i w n e = let p = subst (λ (x : Kind). wants x i ≡ Some w) e n in absurd cc

readable : (i : Bool) (k : Kind) (w : Way) (b : Bool) (s : State) → wants k i ≡ Some w → Says w b s → Reacts s (blank k)
readable false k w b s n h = subst (Reacts s) (shown_blank k false false false false (wants_not_input k false w n)) (reacts false k false false false false false false w b s n refl h)
readable true k w b s n h = subst (Reacts s) (shown_blank k false false false false (wants_not_input k true w n)) (reacts true k false false false false false false w b s n refl h)

abbrev pub in_ways : Plan → SlotLists → Lists
in_ways L l = record { net = l.net; rank = l.rank; feeder = λ s i. feeder_of (kind_of L s) l s i }

one_net : (l : SlotLists) (d s f : Slot) → l.net s ≡ l.net f → l.feeders s ≡ f ∷ [] → l.net s ≡ l.net (first_of d (l.feeders s))
one_net l d s f e is = e ∙ sym (ap (λ (x : List Slot). l.net (first_of d x)) is)

nets_from : (L : Plan) (l : SlotLists) (k : Kind) (s : Site) → ((u : Bool) → IsSlotOf k u → SlotLaw L l k (slot s u)) → NetLaw L.netlist k (l.net (slot s false)) (l.net (slot s true)) (l.net (feeder_of k l s false)) (l.net (feeder_of k l s true))
nets_from L l Empty s law = tt
nets_from L l Input s law = tt
nets_from L l (Value v) s law = (law false refl).1
nets_from L l (Gate1 z one) s law =
    let (f, is, h, c) = law false refl in
    subst (λ (x : Slot). IsGate L.netlist (l.net (slot s false)) (One z one (l.net x))) (sym (ap (first_of (slot s false)) is)) c.0
nets_from L l (Gate2 t00 t01 t10 t11) s law =
    let (f, g, is, hf, hg, kf, kg, net) = law false refl in
    subst (λ (x : Slot). IsGate L.netlist (l.net (slot s false)) (Two t00 t01 t10 t11 (l.net x) (l.net (second_of (slot s false) (l.feeders (slot s false)))))) (sym (ap (first_of (slot s false)) is))
    (subst (λ (x : Slot). IsGate L.netlist (l.net (slot s false)) (Two t00 t01 t10 t11 (l.net f) (l.net x))) (sym (ap (second_of (slot s false)) is)) net)
nets_from L l Centre s law = (one_net l (slot s false) (slot s false) _ (law false tt).3.0 (law false tt).1, one_net l (slot s true) (slot s true) _ (law true tt).3.0 (law true tt).1)
nets_from L l P s law = one_net l (slot s false) (slot s false) _ (law false refl).3.0 (law false refl).1
nets_from L l Q s law = one_net l (slot s false) (slot s false) _ (law false refl).3.0 (law false refl).1
nets_from L l _ s law = one_net l (slot s false) (slot s false) _ (law false refl).3.0 (law false refl).1

slots_at : (L : Plan) (l : SlotLists) → LiteralLaw L l → (s : Site) → IsInside (grid_of L) s → (u : Bool) → IsSlotOf (kind_of L s) u → SlotLaw L l (kind_of L s) (slot s u)
slots_at L l law s b u h = law.slots (slot s u) (b, h)

fed_from : (L : Plan) (l : SlotLists) → LiteralLaw L l → (s : Site) → IsInside (grid_of L) s → (i : Bool) (w : Way) → wants (kind_of L s) i ≡ Some w → IsFed L (in_ways L l) s i w
fed_from L l law s b i w n =
    let r = feeds_read L l i (kind_of L s) s w (slots_at L l law s b) n in
    record {
      beside = subst (λ (t : Slot). Adjacent (grid_of L) t.site s) (sym r.is) r.feeder.beside;
      offered = subst (λ (t : Slot). offers (kind_of L t.site) t.down ≡ Some w) (sym r.is) r.offered;
      lower = subst (λ (t : Slot). l.rank t < l.rank (slot s (slot_of (kind_of L s) i))) (sym r.is) r.feeder.lower;
    }

linked_from : (L : Plan) (l : SlotLists) → LiteralLaw L l → (p q : Site) → Adjacent (grid_of L) p q → (u i : Bool) (w : Way) → offers (kind_of L p) u ≡ Some w → wants (kind_of L q) i ≡ Some w →
    ((in_ways L l).feeder q i ≡ slot p u) ⊎ Feeds L (in_ways L l) q p
linked_from L l law p q a u i w o n =
    let say = sayable u (kind_of L p) w o in
    let rd = readable i (kind_of L q) w say.value say.name n say.says in
    let h = law.neighbours p q a rd.reaction (subst (CanTake (kind_of L p)) rd.gives say.can) (Begins (reader rd.reaction) (sym rd.reads)) in
    elim h.4 [
      | inl m ↦ (
          let rb = read_by L l (kind_of L q) q (slot p h.0) h.1 h.3.1 (law.slots (slot q h.1) h.3) m in
          let fr = feeds_read L l rb.which (kind_of L q) q rb.way (slots_at L l law q h.3.0) rb.wanted in
          let at : fr.from ≡ slot p h.0 = sym fr.is ∙ rb.is in
          let once = meet_once i rb.which (kind_of L p) (kind_of L q) u h.0 w rb.way o n (subst (λ (t : Slot). offers (kind_of L t.site) t.down ≡ Some rb.way) at fr.offered) rb.wanted in
          inl (ap (λ (j : Bool). feeder_of (kind_of L q) l q j) once.1 ∙ rb.is ∙ ap (slot p) (sym once.0)))
      | inr m ↦ (
          let rb = read_by L l (kind_of L p) p (slot q h.1) h.0 h.2.1 (law.slots (slot p h.0) h.2) m in
          inr (rb.which, rb.way, h.1, rb.wanted, rb.is))
    ]

pub law_in_ways : (L : Plan) (l : SlotLists) → LiteralLaw L l → LocalLaw L (in_ways L l)
law_in_ways L l law = record {
  ordered = law.ordered;
  long = law.long;
  fed = fed_from L l law;
  linked = linked_from L l law;
  nets = λ s b. nets_from L l (kind_of L s) s (slots_at L l law s b);
  as_many_inputs = law.as_many_inputs;
  input = law.input;
  inputs_only = law.inputs_only;
  as_many_outputs = law.as_many_outputs;
  output = law.output;
}
