-- A circuit has one surface.
use Rattle.std.proofs.Common.{ℕ, ◌≡◌, List, map, length, sym, ◌∙◌, ap, arith, subst, Result, Ok, Err}
use Rattle.std.specs.Prelude.{IfOk}
use Rattle.surf_base.specs.declared.outside.NoMemory.{NoMemory}
use Rattle.std.proofs.lemmas.List.{ext_get_or}
use Rattle.surf_rules.specs.Names.{text_of}
use Rattle.surf_tiles.specs.Netlists.{NetlistOf}
use Rattle.surf_lanes.specs.declared.lanes.Span.{Span}
use Rattle.surf_lanes.specs.Lanes.{LanesOf, IsPacked}
use Rattle.surf_lanes.proofs.OnePacking.{packed_is_one}
use Rattle.surf_place.specs.Placed.{PlacedOf, IsPlaced, net_spans, packed, placement_of}
use Rattle.surf_route.specs.Sealed.{sealed}
use Rattle.surf_settle.specs.Law.{Plan}
use Rattle.surf_circuit.specs.Surfaces.{layout_system, layout_legend, plain_manifest}
use Rattle.surf_circuit.specs.Compiled.{IsDrawn, SurfaceIsOne}

lanes_one : (spans : List Span) (l l' : LanesOf) → IsPacked spans l → IsPacked spans l' → l ≡ l'
lanes_one spans l l' p p' =
    let one = packed_is_one spans l l' p p' in
    let long : length l.lane ≡ length l'.lane = p.laned.as_many ∙ sym p'.laned.as_many in
    let lane : l.lane ≡ l'.lane = ext_get_or 0 l.lane l'.lane long (λ i lt. one.0 i (let many = p.laned.as_many in omega (arith, lt, many))) in
    let make : List ℕ → ℕ → ℕ → LanesOf = λ a b c. record { lane = a; count = b; row = c } in
    ap (λ a. make a l.count l.row) lane ∙ ap (λ b. make l'.lane b l.row) one.1 ∙ ap (λ c. make l'.lane l'.count c) one.2

pub drawn_one : (N : NetlistOf) (L L' : Plan) → IsDrawn N L → IsDrawn N L' → L ≡ L'
drawn_one N L L' d d' = d.drawn ∙ (ap (λ l. sealed N (packed l)) (lanes_one (net_spans N) d.lanes d'.lanes d.law d'.law) ∙ sym d'.drawn)

pub surface_is_one : SurfaceIsOne
surface_is_one c m m' l l' s s' =
    let one = drawn_one _ s.layout s'.layout s.drawn s'.drawn in (
      s.manifest ∙ (ap (λ L. plain_manifest (layout_system L)) one ∙ sym s'.manifest),
      s.legend ∙ (ap (layout_legend (map (text_of c.names) c.parts.inputs) (map (text_of c.names) c.parts.outputs)) one ∙ sym s'.legend),
    )

-- what is sealed of placed nets is drawn
pub drawn_placed : (N : NetlistOf) (d : PlacedOf) → d.netlist ≡ N → IsPlaced d → (L : Plan) → L ≡ sealed d.netlist (placement_of d) → IsDrawn N L
drawn_placed N d same placed L is = record {
  lanes = d.lanes;
  law = subst (λ (n : NetlistOf). IsPacked (net_spans n) d.lanes) same placed.law;
  drawn = is ∙ ap (λ n. sealed n (packed d.lanes)) same;
}

pub drawn_result : (N : NetlistOf) (d : PlacedOf) → d.netlist ≡ N → IsPlaced d → (r : Result Plan NoMemory) → IfOk r (λ L. L ≡ sealed d.netlist (placement_of d)) → IfOk r (IsDrawn N)
drawn_result N d same placed (Ok L) is = drawn_placed N d same placed L is
drawn_result N d same placed (Err e) is = tt
