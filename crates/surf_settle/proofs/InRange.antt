-- Under the local law each slot's net is a net of the netlist.
use Rattle.std.proofs.Common.{◌≡◌, ℕ, zero, suc, ◌<◌, Bool, true, false, cond, Some, refl, sym, subst, arith}
use Rattle.std.proofs.lemmas.Option.{slice_get_within}
use Rattle.surf_tiles.specs.declared.kind.Kind.{Kind}
use Rattle.surf_tiles.specs.declared.kind.Kind.TheVariants.{Empty, Input, Value, A, B, H, V, P, Q, Gate1, Gate2, Centre}
use Rattle.surf_tiles.specs.declared.netlist.Gate.{Gate}
use Rattle.surf_tiles.specs.declared.state.Port.TheVariants.{AtA, AtB, AtH, AtV}
use Rattle.surf_tiles.specs.Netlists.{NetlistOf, IsGate, nets_of}
use Rattle.surf_lattice.specs.declared.site.Site.{Site}
use Rattle.surf_lattice.specs.Grids.{IsInside}
use Rattle.surf_settle.specs.Ways.{Way, Plain, By, Across, Down, offers, wants}
use Rattle.surf_settle.specs.Law.{Plan, Slot, Lists, LocalLaw, NetLaw, slot, slot_of, kind_of, grid_of}
use Rattle.surf_settle.specs.Literal.{IsSlot, IsSlotOf}

gate_low : (N : NetlistOf) (net : ℕ) (g : Gate) → IsGate N net g → net < nets_of N
gate_low N net g (j, at, is) = omega (arith, at, slice_get_within N.gates j g is)

-- a slot's net is a net where an input's and those that it reads are
net_low : (u : Bool) (k : Kind) (N : NetlistOf) (own below one two : ℕ) (w : Way) → offers k u ≡ Some w → NetLaw N k own below one two → (k ≡ Input → own < nets_of N) → ((j : Bool) (v : Way) → wants k j ≡ Some v → slot_of k j ≡ u → cond j two one < nets_of N) → cond u below own < nets_of N
net_low false Empty N own below one two w o n i h = absurd cc
net_low false Input N own below one two w o n i h = i refl
net_low false (Value v) N own below one two w o n i h = gate_low N own _ n
net_low false (Gate1 z e) N own below one two w o n i h = gate_low N own _ n
net_low false (Gate2 t00 t01 t10 t11) N own below one two w o n i h = gate_low N own _ n
net_low false P N own below one two w o n i h = omega (arith, n, h false Across refl refl)
net_low false Q N own below one two w o n i h = omega (arith, n, h false Down refl refl)
net_low false Centre N own below one two w o n i h = omega (arith, n.0, h false (By AtH) refl refl)
net_low true Centre N own below one two w o n i h = omega (arith, n.1, h true (By AtV) refl refl)
net_low false _ N own below one two w o n i h = omega (arith, n, h false Plain refl refl)
net_low true _ N own below one two w o n i h = absurd cc

chosen : (l : Lists) (s : Site) (u : Bool) → cond u (l.net (slot s true)) (l.net (slot s false)) ≡ l.net (slot s u)
chosen l s true = refl
chosen l s false = refl

chosen_fed : (l : Lists) (s : Site) (j : Bool) → cond j (l.net (l.feeder s true)) (l.net (l.feeder s false)) ≡ l.net (l.feeder s j)
chosen_fed l s true = refl
chosen_fed l s false = refl

input_low : (L : Plan) (l : Lists) → LocalLaw L l → (s : Site) → IsInside (grid_of L) s → kind_of L s ≡ Input → l.net (slot s false) < nets_of L.netlist
input_low L l law s inside k =
    let h = law.inputs_only s inside k in
    let i = law.input h.0 s h.1 in
    let b = slice_get_within L.inputs h.0 s h.1 in
    omega (arith, i.2, b, law.as_many_inputs)

-- by induction on the rank
low_below : (L : Plan) (l : Lists) → LocalLaw L l → (m : ℕ) (s : Site) (u : Bool) (w : Way) → IsInside (grid_of L) s → l.rank (slot s u) < m → offers (kind_of L s) u ≡ Some w → l.net (slot s u) < nets_of L.netlist
low_below L l law zero s u w inside b o = absurd (omega (arith, b))
low_below L l law (suc m) s u w inside b o =
    subst (λ (n : ℕ). n < nets_of L.netlist) (chosen l s u)
    (net_low u (kind_of L s) L.netlist _ _ _ _ w o (law.nets s inside) (input_low L l law s inside) (λ j v n e.
    let fed = law.fed s inside j v n in
    let lower : l.rank (l.feeder s j) < l.rank (slot s u) = subst (λ (x : Bool). l.rank (l.feeder s j) < l.rank (slot s x)) e fed.lower in
    subst (λ (n : ℕ). n < nets_of L.netlist) (sym (chosen_fed l s j))
    (low_below L l law m (l.feeder s j).site (l.feeder s j).down v fed.beside.first (omega (arith, lower, b)) fed.offered)))

slot_offers : (u : Bool) (k : Kind) → IsSlotOf k u → (w : Way) × (offers k u ≡ Some w)
slot_offers u Empty h = absurd h
slot_offers true Centre h = (Down, refl)
slot_offers false Centre h = (Across, refl)
slot_offers false A h = (By AtA, refl)
slot_offers false B h = (By AtB, refl)
slot_offers false H h = (By AtH, refl)
slot_offers false V h = (By AtV, refl)
slot_offers false _ h = (Plain, refl)
slot_offers true _ h = absurd cc

pub net_in_range : (L : Plan) (l : Lists) → LocalLaw L l → (s : Slot) → IsSlot L s → l.net s < nets_of L.netlist
net_in_range L l law s h =
    let o = slot_offers s.down (kind_of L s.site) h.1 in
    low_below L l law (suc (l.rank s)) s.site s.down o.0 h.0 (omega arith) o.1
