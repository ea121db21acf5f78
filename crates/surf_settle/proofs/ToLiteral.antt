-- The law in the words of ways gives the law in the words of names and rules: the two are one law.
use Rattle.std.proofs.Common.{◌≡◌, ◌<◌, Bool, true, false, Some, List, [], ◌∷◌, refl, ap, ◌∙◌, subst, ◌⊎◌, inl, inr}
use Rattle.surf_tiles.specs.declared.kind.Kind.{Kind}
use Rattle.surf_tiles.specs.declared.kind.Kind.TheVariants.{Empty, Input, Value, Wire, A, B, H, V, P, Q, Gate1, Gate2, Centre}
use Rattle.surf_lattice.specs.declared.site.Site.{Site}
use Rattle.surf_tiles.specs.declared.state.Port.TheVariants.{AtA, AtB, AtH, AtV}
use Rattle.surf_tiles.specs.declared.state.State.{State}
use Rattle.surf_tiles.specs.declared.state.State.TheVariants.{Dot, Unset, Bit, BlankWire, Held, BlankP, BlankQ, OneGate, TwoGate, WaitsA, WaitsB, Crossing}
use Rattle.surf_tiles.specs.declared.reaction.Reaction.{Reaction}
use Rattle.surf_tiles.specs.declared.reaction.Reaction.TheVariants.{WireReads, PortReads, OneReads, AcrossReads, DownReads, PReads, QReads, GateReadsA, GateReadsB, ReadsLastA, ReadsLastB}
use Rattle.surf_tiles.specs.Reactions.{giver, reader, outcome}
use Rattle.surf_settle.specs.Ways.{Way, Plain, By, Across, Down, offers, wants}
use Rattle.surf_settle.proofs.Shown.{way}
use Rattle.surf_lattice.specs.Grids.{Adjacent}
use Rattle.surf_settle.specs.Law.{grid_of, Plan, Slot, Lists, slot, kind_of, slot_of, IsFed, NetLaw, LocalLaw}
use Rattle.surf_tiles.specs.Kinds.{blank}
use Rattle.surf_settle.proofs.InRange.{net_in_range}
use Rattle.surf_settle.specs.Literal.{SlotLists, IsSlotOf, IsSlot, IsFeeder, IsPlain, Carries, SlotLaw, CanTake, Begins, Is_set, Is_put, Among, LiteralLaw}

-- whether a name is of the form of a kind's names
abbrev fits : Kind → State → Bool
fits Empty Dot = true
fits Input Unset = true
fits Input (Bit b) = true
fits (Value v) (Bit b) = true
fits Wire BlankWire = true
fits Wire (Bit b) = true
fits A (Held AtA held) = true
fits B (Held AtB held) = true
fits H (Held AtH held) = true
fits V (Held AtV held) = true
fits P BlankP = true
fits P (Bit b) = true
fits Q BlankQ = true
fits Q (Bit b) = true
fits (Gate1 z o) (OneGate z' o') = true
fits (Gate1 z o) (Bit b) = true
fits (Gate2 t00 t01 t10 t11) (TwoGate s00 s01 s10 s11) = true
fits (Gate2 t00 t01 t10 t11) (WaitsA z o) = true
fits (Gate2 t00 t01 t10 t11) (WaitsB z o) = true
fits (Gate2 t00 t01 t10 t11) (Bit b) = true
fits Centre (Crossing x y) = true
fits _ _ = false

fits_blank : (k : Kind) → fits k (blank k) ≡ true
fits_blank Empty = refl
fits_blank _ = refl

fits_input : (b : Bool) → fits Input (Bit b) ≡ true
fits_input b = refl

fits_put : (r : Reaction) (k : Kind) → fits k (reader r) ≡ true → fits k (outcome r) ≡ true
fits_put (WireReads v) Empty h = absurd cc
fits_put (PortReads AtA v) Empty h = absurd cc
fits_put (PortReads AtB v) Empty h = absurd cc
fits_put (PortReads AtH v) Empty h = absurd cc
fits_put (PortReads AtV v) Empty h = absurd cc
fits_put (OneReads x y v) Empty h = absurd cc
fits_put (AcrossReads y v) Empty h = absurd cc
fits_put (DownReads x v) Empty h = absurd cc
fits_put (PReads y v) Empty h = absurd cc
fits_put (QReads x v) Empty h = absurd cc
fits_put (GateReadsA s00 s01 s10 s11 v) Empty h = absurd cc
fits_put (GateReadsB s00 s01 s10 s11 v) Empty h = absurd cc
fits_put (ReadsLastA x y v) Empty h = absurd cc
fits_put (ReadsLastB x y v) Empty h = absurd cc
fits_put _ _ h = cc

can_fits : (k : Kind) (s : State) → CanTake k s → fits k s ≡ true
can_fits k _ (Begins s e) = ap (fits k) e ∙ fits_blank k
can_fits k _ (Is_set s b i e) = ap (fits k) e ∙ ap (λ (x : Kind). fits x (Bit b)) i
can_fits k _ (Is_put s r c e) = ap (fits k) e ∙ fits_put r k (can_fits k (reader r) c)

record Offered (k : Kind) (w : Way) : Type 0 where
  which : Bool
  is : offers k which ≡ Some w

record IsWanted (k : Kind) (w : Way) : Type 0 where
  which : Bool
  is : wants k which ≡ Some w

fits_offers : (r : Reaction) (k : Kind) → fits k (giver r) ≡ true → Offered k (way r)
fits_offers (WireReads v) Input h = record { which = false; is = refl }
fits_offers (WireReads v) (Value c) h = record { which = false; is = refl }
fits_offers (WireReads v) Wire h = record { which = false; is = refl }
fits_offers (WireReads v) P h = record { which = false; is = refl }
fits_offers (WireReads v) Q h = record { which = false; is = refl }
fits_offers (WireReads v) (Gate1 z1 o1) h = record { which = false; is = refl }
fits_offers (WireReads v) (Gate2 t00 t01 t10 t11) h = record { which = false; is = refl }
fits_offers (PortReads port v) Input h = record { which = false; is = refl }
fits_offers (PortReads port v) (Value c) h = record { which = false; is = refl }
fits_offers (PortReads port v) Wire h = record { which = false; is = refl }
fits_offers (PortReads port v) P h = record { which = false; is = refl }
fits_offers (PortReads port v) Q h = record { which = false; is = refl }
fits_offers (PortReads port v) (Gate1 z1 o1) h = record { which = false; is = refl }
fits_offers (PortReads port v) (Gate2 t00 t01 t10 t11) h = record { which = false; is = refl }
fits_offers (OneReads x y v) Input h = record { which = false; is = refl }
fits_offers (OneReads x y v) (Value c) h = record { which = false; is = refl }
fits_offers (OneReads x y v) Wire h = record { which = false; is = refl }
fits_offers (OneReads x y v) P h = record { which = false; is = refl }
fits_offers (OneReads x y v) Q h = record { which = false; is = refl }
fits_offers (OneReads x y v) (Gate1 z1 o1) h = record { which = false; is = refl }
fits_offers (OneReads x y v) (Gate2 t00 t01 t10 t11) h = record { which = false; is = refl }
fits_offers (AcrossReads y v) H h = record { which = false; is = refl }
fits_offers (DownReads x v) V h = record { which = false; is = refl }
fits_offers (PReads y v) Centre h = record { which = false; is = refl }
fits_offers (QReads x v) Centre h = record { which = true; is = refl }
fits_offers (GateReadsA s00 s01 s10 s11 v) A h = record { which = false; is = refl }
fits_offers (ReadsLastA x y v) A h = record { which = false; is = refl }
fits_offers (GateReadsB s00 s01 s10 s11 v) B h = record { which = false; is = refl }
fits_offers (ReadsLastB x y v) B h = record { which = false; is = refl }
fits_offers _ _ h = absurd cc

fits_wants : (r : Reaction) (k : Kind) → fits k (reader r) ≡ true → IsWanted k (way r)
fits_wants (WireReads v) Wire h = record { which = false; is = refl }
fits_wants (PortReads AtA v) A h = record { which = false; is = refl }
fits_wants (PortReads AtB v) B h = record { which = false; is = refl }
fits_wants (PortReads AtH v) H h = record { which = false; is = refl }
fits_wants (PortReads AtV v) V h = record { which = false; is = refl }
fits_wants (OneReads x y v) (Gate1 z1 o1) h = record { which = false; is = refl }
fits_wants (AcrossReads y v) Centre h = record { which = false; is = refl }
fits_wants (DownReads x v) Centre h = record { which = true; is = refl }
fits_wants (PReads y v) P h = record { which = false; is = refl }
fits_wants (QReads x v) Q h = record { which = false; is = refl }
fits_wants (GateReadsA s00 s01 s10 s11 v) (Gate2 t00 t01 t10 t11) h = record { which = false; is = refl }
fits_wants (GateReadsB s00 s01 s10 s11 v) (Gate2 t00 t01 t10 t11) h = record { which = true; is = refl }
fits_wants (ReadsLastA x y v) (Gate2 t00 t01 t10 t11) h = record { which = false; is = refl }
fits_wants (ReadsLastB x y v) (Gate2 t00 t01 t10 t11) h = record { which = true; is = refl }
fits_wants _ _ h = absurd cc

offers_plain : (u : Bool) (k : Kind) → offers k u ≡ Some Plain → IsPlain k
offers_plain true Empty o = absurd cc
offers_plain true _ o = absurd cc
offers_plain false Input o = tt
offers_plain false (Value v) o = tt
offers_plain false Wire o = tt
offers_plain false P o = tt
offers_plain false Q o = tt
offers_plain false (Gate1 z1 o1) o = tt
offers_plain false (Gate2 t00 t01 t10 t11) o = tt
offers_plain false _ o = absurd cc

offers_slot : (u : Bool) (k : Kind) (w : Way) → offers k u ≡ Some w → IsSlotOf k u
offers_slot u Centre w o = tt
offers_slot true Empty w o = absurd cc
offers_slot false Empty w o = absurd cc
offers_slot false _ w o = refl
offers_slot true _ w o = absurd cc

offers_a : (u : Bool) (k : Kind) → offers k u ≡ Some (By AtA) → k ≡ A
offers_a true Empty o = absurd cc
offers_a false Empty o = absurd cc
offers_a _ _ o = cc

offers_b : (u : Bool) (k : Kind) → offers k u ≡ Some (By AtB) → k ≡ B
offers_b true Empty o = absurd cc
offers_b false Empty o = absurd cc
offers_b _ _ o = cc

offers_h : (u : Bool) (k : Kind) → offers k u ≡ Some (By AtH) → k ≡ H
offers_h true Empty o = absurd cc
offers_h false Empty o = absurd cc
offers_h _ _ o = cc

offers_v : (u : Bool) (k : Kind) → offers k u ≡ Some (By AtV) → k ≡ V
offers_v true Empty o = absurd cc
offers_v false Empty o = absurd cc
offers_v _ _ o = cc

offers_across : (u : Bool) (k : Kind) → offers k u ≡ Some Across → (k ≡ Centre) × (u ≡ false)
offers_across true Empty o = absurd cc
offers_across false Empty o = absurd cc
offers_across _ _ o = (cc, cc)

offers_down : (u : Bool) (k : Kind) → offers k u ≡ Some Down → (k ≡ Centre) × (u ≡ true)
offers_down true Empty o = absurd cc
offers_down false Empty o = absurd cc
offers_down _ _ o = (cc, cc)

-- the feeders of a slot
abbrev feeders_by : Kind → Lists → Slot → List Slot
feeders_by Empty l s = []
feeders_by Input l s = []
feeders_by (Value v) l s = []
feeders_by (Gate2 t00 t01 t10 t11) l s = l.feeder s.site false ∷ l.feeder s.site true ∷ []
feeders_by Centre l s = l.feeder s.site s.down ∷ []
feeders_by _ l s = l.feeder s.site false ∷ []

abbrev pub in_names : Plan → Lists → SlotLists
in_names L l = record { net = l.net; rank = l.rank; feeders = λ s. feeders_by (kind_of L s.site) l s }

among_feeders : (i : Bool) (k : Kind) (l : Lists) (s : Site) (w : Way) → wants k i ≡ Some w → Among (l.feeder s i) (feeders_by k l (slot s (slot_of k i)))
among_feeders true (Gate2 t00 t01 t10 t11) l s w n = inr (inl refl)
among_feeders false (Gate2 t00 t01 t10 t11) l s w n = inl refl
among_feeders i Centre l s w n = inl refl
among_feeders true Empty l s w n = absurd cc
among_feeders false Empty l s w n = absurd cc
among_feeders false Input l s w n = absurd cc
among_feeders false (Value v) l s w n = absurd cc
among_feeders false _ l s w n = inl refl
among_feeders true _ l s w n = absurd cc

wants_slot : (i : Bool) (k : Kind) (w : Way) → wants k i ≡ Some w → IsSlotOf k (slot_of k i)
wants_slot i Centre w n = tt
wants_slot true Empty w n = absurd cc
wants_slot false Empty w n = absurd cc
wants_slot _ _ w n = refl

-- what the law says of a read, with the slot that waits for it
record Waited (L : Plan) (l : Lists) (s : Site) (i : Bool) (u : Bool) (w : Way) : Type 0 where
  feeder : IsFeeder L (in_names L l) (l.feeder s i) (slot s u)
  offered : offers (kind_of L (l.feeder s i).site) (l.feeder s i).down ≡ Some w

waited : (L : Plan) (l : Lists) (s : Site) (i : Bool) (u : Bool) (w : Way) → slot_of (kind_of L s) i ≡ u → IsFed L l s i w → Waited L l s i u w
waited L l s i u w e f = record {
  feeder = record {
    is_slot = (f.beside.first, offers_slot (l.feeder s i).down (kind_of L (l.feeder s i).site) w f.offered);
    beside = f.beside;
    lower = subst (λ (x : Bool). l.rank (l.feeder s i) < l.rank (slot s x)) e f.lower;
  };
  offered = f.offered;
}

-- the reads of a site of kind k, and its nets
record SiteFacts (L : Plan) (l : Lists) (k : Kind) (s : Site) : Type 0 where
  kind : kind_of L s ≡ k
  reads : (i : Bool) (w : Way) → wants k i ≡ Some w → IsFed L l s i w
  nets : NetLaw L.netlist k (l.net (slot s false)) (l.net (slot s true)) (l.net (l.feeder s false)) (l.net (l.feeder s true))

slot_at : (L : Plan) (l : Lists) (k : Kind) (s : Site) (i : Bool) → kind_of L s ≡ k → slot_of (kind_of L s) i ≡ slot_of k i
slot_at L l k s i e = ap (λ (x : Kind). slot_of x i) e

feeders_at : (L : Plan) (l : Lists) (k : Kind) (s : Site) (u : Bool) → kind_of L s ≡ k → feeders_by (kind_of L s) l (slot s u) ≡ feeders_by k l (slot s u)
feeders_at L l k s u e = ap (λ (x : Kind). feeders_by x l (slot s u)) e

plain_law : (L : Plan) (l : Lists) (k : Kind) (s : Site) → SiteFacts L l k s → slot_of k false ≡ false → wants k false ≡ Some Plain → feeders_by k l (slot s false) ≡ l.feeder s false ∷ [] → l.net (slot s false) ≡ l.net (l.feeder s false) →
    Carries L (in_names L l) (slot s false) (λ f. IsPlain (kind_of L f.site))
plain_law L l k s facts z n is own =
    let w = waited L l s false false Plain (slot_at L l k s false facts.kind ∙ z) (facts.reads false Plain n) in
    (l.feeder s false, feeders_at L l k s false facts.kind ∙ is, w.feeder, (own, offers_plain _ _ w.offered))

slot_law : (L : Plan) (l : Lists) (k : Kind) (s : Site) (u : Bool) → IsSlotOf k u → SiteFacts L l k s → SlotLaw L (in_names L l) k (slot s u)
slot_law L l Empty s u z facts = tt
slot_law L l Input s u z facts = feeders_at L l Input s u facts.kind
slot_law L l (Value v) s true z facts = absurd cc
slot_law L l (Value v) s false z facts = (feeders_at L l (Value v) s false facts.kind, facts.nets)
slot_law L l (Gate1 z1 o1) s true z facts = absurd cc
slot_law L l (Gate1 z1 o1) s false z facts =
    let w = waited L l s false false Plain (slot_at L l _ s false facts.kind) (facts.reads false Plain refl) in
    (l.feeder s false, feeders_at L l _ s false facts.kind, w.feeder, (facts.nets, offers_plain _ _ w.offered))
slot_law L l (Gate2 t00 t01 t10 t11) s true z facts = absurd cc
slot_law L l (Gate2 t00 t01 t10 t11) s false z facts =
    let w = waited L l s false false (By AtA) (slot_at L l _ s false facts.kind) (facts.reads false (By AtA) refl) in
    let v = waited L l s true false (By AtB) (slot_at L l _ s true facts.kind) (facts.reads true (By AtB) refl) in
    (l.feeder s false, l.feeder s true, feeders_at L l _ s false facts.kind, w.feeder, v.feeder, offers_a _ _ w.offered, offers_b _ _ v.offered, facts.nets)
slot_law L l Centre s false z facts =
    let w = waited L l s false false (By AtH) (slot_at L l _ s false facts.kind) (facts.reads false (By AtH) refl) in
    (l.feeder s false, feeders_at L l _ s false facts.kind, w.feeder, (facts.nets.0, offers_h _ _ w.offered))
slot_law L l Centre s true z facts =
    let w = waited L l s true true (By AtV) (slot_at L l _ s true facts.kind) (facts.reads true (By AtV) refl) in
    (l.feeder s true, feeders_at L l _ s true facts.kind, w.feeder, (facts.nets.1, offers_v _ _ w.offered))
slot_law L l P s true z facts = absurd cc
slot_law L l P s false z facts =
    let w = waited L l s false false Across (slot_at L l _ s false facts.kind) (facts.reads false Across refl) in
    (l.feeder s false, feeders_at L l _ s false facts.kind, w.feeder, (facts.nets, offers_across _ _ w.offered))
slot_law L l Q s true z facts = absurd cc
slot_law L l Q s false z facts =
    let w = waited L l s false false Down (slot_at L l _ s false facts.kind) (facts.reads false Down refl) in
    (l.feeder s false, feeders_at L l _ s false facts.kind, w.feeder, (facts.nets, offers_down _ _ w.offered))
slot_law L l Wire s true z facts = absurd cc
slot_law L l Wire s false z facts = plain_law L l Wire s facts refl refl refl facts.nets
slot_law L l A s true z facts = absurd cc
slot_law L l A s false z facts = plain_law L l A s facts refl refl refl facts.nets
slot_law L l B s true z facts = absurd cc
slot_law L l B s false z facts = plain_law L l B s facts refl refl refl facts.nets
slot_law L l H s true z facts = absurd cc
slot_law L l H s false z facts = plain_law L l H s facts refl refl refl facts.nets
slot_law L l V s true z facts = absurd cc
slot_law L l V s false z facts = plain_law L l V s facts refl refl refl facts.nets

neighbours_in : (L : Plan) (l : Lists) → LocalLaw L l → (p q : Site) → Adjacent (grid_of L) p q → (r : Reaction) → CanTake (kind_of L p) (giver r) → CanTake (kind_of L q) (reader r) →
    (u : Bool) × (v : Bool) × IsSlot L (slot p u) × IsSlot L (slot q v) × (Among (slot p u) ((in_names L l).feeders (slot q v)) ⊎ Among (slot q v) ((in_names L l).feeders (slot p u)))
neighbours_in L l law p q a r c d =
    let o = fits_offers r (kind_of L p) (can_fits (kind_of L p) (giver r) c) in
    let n = fits_wants r (kind_of L q) (can_fits (kind_of L q) (reader r) d) in
    elim (law.linked p q a o.which n.which (way r) o.is n.is) [
      | inl e ↦ (
        o.which,
        slot_of (kind_of L q) n.which,
        (a.first, offers_slot o.which (kind_of L p) (way r) o.is),
        (a.second, wants_slot n.which (kind_of L q) (way r) n.is),
        inl (subst (λ (x : Slot). Among x ((in_names L l).feeders (slot q (slot_of (kind_of L q) n.which)))) e (among_feeders n.which (kind_of L q) l q (way r) n.is)),
      )
      | inr (j, w, v, m, e) ↦ (
          let f = law.fed p a.first j w m in
          let g : offers (kind_of L q) v ≡ Some w = subst (λ (x : Slot). offers (kind_of L x.site) x.down ≡ Some w) e f.offered in (
            slot_of (kind_of L p) j,
            v,
            (a.first, wants_slot j (kind_of L p) w m),
            (a.second, offers_slot v (kind_of L q) w g),
            inr (subst (λ (x : Slot). Among x ((in_names L l).feeders (slot p (slot_of (kind_of L p) j)))) e (among_feeders j (kind_of L p) l p w m)),
          ))
    ]

-- with that the nets are nets of the netlist, the two laws are one
pub law_in_names : (L : Plan) (l : Lists) → LocalLaw L l → LiteralLaw L (in_names L l)
law_in_names L l law = record {
  ordered = law.ordered;
  long = law.long;
  in_range = net_in_range L l law;
  slots = λ s h. slot_law L l (kind_of L s.site) s.site s.down h.1 (record { kind = refl; reads = law.fed s.site h.0; nets = law.nets s.site h.0 });
  neighbours = neighbours_in L l law;
  as_many_inputs = law.as_many_inputs;
  input = law.input;
  inputs_only = law.inputs_only;
  as_many_outputs = law.as_many_outputs;
  output = law.output;
}
