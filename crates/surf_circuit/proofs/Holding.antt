-- The surface of a layout of a circuit's netlist computes the circuit.
use Rattle.std.proofs.Common.{ℕ, zero, suc, ◌≡◌, ◌<◌, ◌⊎◌, inl, inr, Bool, List, [], ◌∷◌, map, length, Some, refl, sym, ◌∙◌, ap, arith, subst, false, slice_get, ◌^◌, true}
use Rattle.std.proofs.lemmas.List.{length-map}
use Rattle.std.specs.Prelude.{codes, slice_index_or}
use Rattle.std.specs.List.{list_all}
use Rattle.std.proofs.lemmas.Bool.{and_parts, lt-ltb}
use Rattle.surf_text.specs.Bytes.{is_word}
use Rattle.std.proofs.lemmas.Nat.{mul-add-lt}
use Rattle.std.proofs.lemmas.Option.{slice_get_past, slice_get-get_or, slice_get_within}
use Rattle.surf_lattice.specs.declared.site.Site.{Site}
use Rattle.surf_lattice.specs.Grids.{IsInside, place}
use Rattle.surf_world.specs.declared.event.Event.{Event}
use Rattle.surf_world.specs.Systems.{System, Holds, IsRun, Stuck, left_by}
use Rattle.surf_rules.specs.Names.{text_of}
use Rattle.surf_logic.specs.Equations.{PartsOf, Numbered}
use Rattle.surf_tiles.specs.declared.kind.Kind.{Kind}
use Rattle.surf_tiles.specs.declared.kind.Kind.TheVariants.{Empty}
use Rattle.surf_tiles.specs.Kinds.{name_of}
use Rattle.surf_tiles.specs.Netlists.{value_in, net_meaning}
use Rattle.surf_netlist.specs.Circuits.{outputs_at}
use Rattle.surf_settle.specs.Law.{Plan, Lists, LocalLaw, slot, grid_of}
use Rattle.surf_settle.specs.Plans.{IsLayout}
use Rattle.surf_settle.specs.Settling.{surface_of, blank_names, start_of, events_of, Settles, SettlesAlways}
use Rattle.surf_settle.specs.Settling as settling
use Rattle.surf_manifest_print.specs.declared.legend.Place.{Place}
use Rattle.surf_manifest_print.specs.Legends.{LegendText, is_place, IsLegend}
use Rattle.surf_inputs.specs.Inputs.{bit_name, with_inputs}
use Rattle.surf_circuit.specs.Circuits.{SettlesTo, Computes, CircuitHolds}
use Rattle.surf_manifest.specs.Grammar.{ManifestText}
use Rattle.surf_circuit.specs.Surfaces.{places, plain_manifest, layout_system, layout_legend, IsSpelled, AreWords, Decomposes, LayoutsCompute}

-- places by their names and sites
names_back : (ns : List (List ℕ)) (ss : List Site) → length ss ≡ length ns → map (λ p. p.name) (places ns ss) ≡ ns
names_back [] ss e = refl
names_back (n ∷ ns) [] e = absurd (omega (arith, e))
names_back (n ∷ ns) (s ∷ ss) e = ap (λ v. n ∷ v) (names_back ns ss (omega (arith, e)))

sites_back : (ns : List (List ℕ)) (ss : List Site) → length ss ≡ length ns → map (λ p. p.site) (places ns ss) ≡ ss
sites_back [] [] e = refl
sites_back [] (s ∷ ss) e = absurd (omega (arith, e))
sites_back (n ∷ ns) [] e = absurd (omega (arith, e))
sites_back (n ∷ ns) (s ∷ ss) e = ap (λ v. s ∷ v) (sites_back ns ss (omega (arith, e)))

site_listed : (ns : List (List ℕ)) (ss : List Site) (i : ℕ) (p : Place) → slice_get (places ns ss) i ≡ Some p → slice_get ss i ≡ Some p.site
site_listed [] ss i p at = absurd (cc (sym (slice_get_past [] i (omega arith)) ∙ at))
site_listed (n ∷ ns) [] i p at = absurd (cc (sym (slice_get_past [] i (omega arith)) ∙ at))
site_listed (n ∷ ns) (s ∷ ss) zero p at = let is : record { name = n; site = s } ≡ p = cc in ap (λ (q : Place). Some q.site) is
site_listed (n ∷ ns) (s ∷ ss) (suc i) p at = site_listed ns ss i p at

-- a value of the outputs is that of a net
record IsNetValue (values : List Bool) (nets : List ℕ) (i : ℕ) (v : Bool) : Type 0 where
  pub net : ℕ
  pub listed : slice_get nets i ≡ Some net
  pub is : v ≡ value_in values net

net_value : (values : List Bool) (nets : List ℕ) (i : ℕ) (v : Bool) → slice_get (map (value_in values) nets) i ≡ Some v → IsNetValue values nets i v
net_value values [] i v at = absurd (cc (sym (slice_get_past [] i (omega arith)) ∙ at))
net_value values (n ∷ ns) zero v at = record { net = n; listed = refl; is = cc }
net_value values (n ∷ ns) (suc i) v at = let h = net_value values ns i v at in record { net = h.net; listed = h.listed; is = h.is }

-- the blank name of a site
name_listed : (kinds : List Kind) (i : ℕ) → i < length kinds → slice_get (map name_of kinds) i ≡ Some (name_of (slice_index_or kinds i Empty))
name_listed [] i lt = absurd (omega arith)
name_listed (k ∷ ks) zero lt = refl
name_listed (k ∷ ks) (suc i) lt = name_listed ks i (omega arith)

module _ (L : Plan) (l : Lists) (law : LocalLaw L l) where
  place_within : (s : Site) → IsInside (grid_of L) s → place (grid_of L) s < length L.kinds
  place_within s inside = omega (arith, law.long, mul-add-lt s.y L.width s.x L.height inside.1 inside.0)

  input_unset : (i : ℕ) (s : Site) → slice_get L.inputs i ≡ Some s → Holds (grid_of L) (blank_names L) s (codes "?")
  input_unset i s at =
      let h = law.input i s at in
      (h.0, name_listed L.kinds (place (grid_of L) s) (place_within s h.0) ∙ ap (λ k. Some (name_of k)) h.1)

  inputs_apart : (i j : ℕ) (s t : Site) → slice_get L.inputs i ≡ Some s → slice_get L.inputs j ≡ Some t → s ≡ t → i ≡ j
  inputs_apart i j s t at_i at_j e = sym (law.input i s at_i).2 ∙ (ap (λ v. l.net (slot v false)) e ∙ (law.input j t at_j).2)

module _ (c : Numbered) (B : PartsOf (List ℕ)) (spelled : IsSpelled B c) (L : Plan) (layout : IsLayout L) (settles : SettlesAlways L)
    (made : Decomposes L.netlist c) where
  abbrev legend : LegendText
  legend = layout_legend B.inputs B.outputs L

  abbrev law : LocalLaw L layout.lawful.0
  law = layout.lawful.1

  inputs_long : length L.inputs ≡ length B.inputs
  inputs_long = law.as_many_inputs ∙ (made.inputs ∙ (sym (length-map c.parts.inputs (text_of c.names)) ∙ ap length spelled.inputs))

  outputs_long : length L.outputs ≡ length B.outputs
  outputs_long = law.as_many_outputs ∙ (made.outputs ∙ (sym (length-map c.parts.outputs (text_of c.names)) ∙ ap length spelled.outputs))

  start_is : (bits : List Bool) → (with_inputs (layout_system L) legend bits).start ≡ start_of L bits
  start_is bits = ap (λ ss. settling.with_inputs (grid_of L) (blank_names L) ss bits) (sites_back B.inputs L.inputs inputs_long)

  abbrev set_system : List Bool → System (List ℕ)
  set_system bits = record { surface = surface_of L; start = start_of L bits }

  system_is : (bits : List Bool) → with_inputs (layout_system L) legend bits ≡ set_system bits
  system_is bits = ap (λ (start : List (List ℕ)). let S : System (List ℕ) = record { surface = surface_of L; start = start } in S) (start_is bits)

  output_inside : (i : ℕ) (p : Place) (v : Bool) (bits : List Bool) → slice_get legend.outputs i ≡ Some p → slice_get (outputs_at L.netlist bits) i ≡ Some v → IsInside (grid_of L) p.site
  output_inside i p v bits at is =
      let n = net_value (net_meaning L.netlist bits) L.netlist.outputs i v is in
      (law.output i p.site n.net (site_listed B.outputs L.outputs i p at) n.listed).0

  module _ (bits : List Bool) (s : Settles L bits) where
    settled_at : (es : List Event) → IsRun (surface_of L) (start_of L bits) es → Stuck (surface_of L) (left_by (surface_of L) (start_of L bits) es)
        → (i : ℕ) (p : Place) (v : Bool) → slice_get legend.outputs i ≡ Some p → slice_get (outputs_at L.netlist bits) i ≡ Some v
        → Holds (grid_of L) (left_by (surface_of L) (start_of L bits) es) p.site (bit_name v)
    settled_at es run stuck i p v at is =
        let n = net_value (net_meaning L.netlist bits) L.netlist.outputs i v is in
        (output_inside i p v bits at is, s.settled es (run, stuck) i p.site n.net (site_listed B.outputs L.outputs i p at) n.listed ∙ ap (λ b. Some (bit_name b)) (sym n.is))

    shown_at : (es : List Event) → IsRun (surface_of L) (start_of L bits) es
        → (i : ℕ) (p : Place) (v : Bool) → slice_get legend.outputs i ≡ Some p → slice_get (outputs_at L.netlist bits) i ≡ Some v
        → Holds (grid_of L) (left_by (surface_of L) (start_of L bits) es) p.site (codes "w") ⊎ Holds (grid_of L) (left_by (surface_of L) (start_of L bits) es) p.site (bit_name v)
    shown_at es run i p v at is =
        let n = net_value (net_meaning L.netlist bits) L.netlist.outputs i v is in
        let inside = output_inside i p v bits at is in
        elim (s.safe es run i p.site n.net (site_listed B.outputs L.outputs i p at) n.listed) [
          | inl blank ↦ inl (inside, blank)
          | inr shown ↦ inr (inside, shown ∙ ap (λ b. Some (bit_name b)) (sym n.is))
        ]

    settles_to : SettlesTo (set_system bits) legend.outputs legend.events (outputs_at L.netlist bits)
    settles_to = record {
      at_most = s.at_most;
      shows = shown_at;
      exactly = λ es run stuck. s.exactly es (run, stuck);
      settled = λ es run stuck i p v at is. settled_at es run stuck i p v at is;
      one_end = λ es es' run stuck run' stuck'. s.one_end es es' (run, stuck) (run', stuck');
    }

  computes : (bits : List Bool) → length bits ≡ length B.inputs → Computes B (layout_system L) legend bits
  computes bits long =
      let enough : length bits ≡ L.netlist.inputs = long ∙ (sym inputs_long ∙ law.as_many_inputs) in
      record {
        values = outputs_at L.netlist bits;
        solved = spelled.evals bits (outputs_at L.netlist bits) (made.values bits enough);
        settles = subst (λ S. SettlesTo S legend.outputs legend.events (outputs_at L.netlist bits)) (sym (system_is bits)) (settles_to bits (settles bits enough));
      }

  pub circuit_holds : CircuitHolds B (layout_system L) legend
  circuit_holds = record {
    rules = refl;
    inputs = names_back B.inputs L.inputs inputs_long;
    outputs = names_back B.outputs L.outputs outputs_long;
    apart = λ i j p q at_i at_j e. inputs_apart L layout.lawful.0 law i j p.site q.site (site_listed B.inputs L.inputs i p at_i) (site_listed B.inputs L.inputs j q at_j) e;
    unset = λ i p at. input_unset L layout.lawful.0 law i p.site (site_listed B.inputs L.inputs i p at);
    computes = computes;
  }

-- places whose names are words, at sites whose coordinates fit
places_fit : (ns : List (List ℕ)) (ss : List Site) → list_all is_word ns ≡ true → ((i : ℕ) (s : Site) → slice_get ss i ≡ Some s → (s.x < 2 ^ 32) × (s.y < 2 ^ 32)) → list_all is_place (places ns ss) ≡ true
places_fit [] ss w h = refl
places_fit (n ∷ ns) [] w h = refl
places_fit (n ∷ ns) (s ∷ ss) w h =
    let q = and_parts (is_word n) (list_all is_word ns) w in
    let fits = h zero s refl in
    rw (q.0, lt-ltb s.x (2 ^ 32) fits.0, lt-ltb s.y (2 ^ 32) fits.1, places_fit ns ss q.1 (λ i t at. h (suc i) t at)) refl

inside_fits : (L : Plan) (s : Site) → L.width < 2 ^ 32 → L.height < 2 ^ 32 → IsInside (grid_of L) s → (s.x < 2 ^ 32) × (s.y < 2 ^ 32)
inside_fits L s wide high inside = let x = inside.0 in let y = inside.1 in (omega (arith, x, wide), omega (arith, y, high))

some_net : (nets : List ℕ) (i : ℕ) → i < length nets → slice_get nets i ≡ Some (slice_index_or nets i 0)
some_net nets i lt = slice_get-get_or nets i 0 lt

-- a layout's legend can be printed
pub legend_fits : (B : PartsOf (List ℕ)) (L : Plan) → IsLayout L → AreWords B → L.width < 2 ^ 32 → L.height < 2 ^ 32 → events_of L < 2 ^ 64 → IsLegend (Some (layout_legend B.inputs B.outputs L))
legend_fits B L layout words wide high few =
    let law : LocalLaw L layout.lawful.0 = layout.lawful.1 in (
      places_fit B.inputs L.inputs words.inputs (λ i s at. inside_fits L s wide high (law.input i s at).0),
      places_fit B.outputs L.outputs words.outputs (λ i s at.
          let within : i < length L.netlist.outputs = let lt = slice_get_within L.outputs i s at in let many = law.as_many_outputs in omega (arith, lt, many) in
          inside_fits L s wide high (law.output i s (slice_index_or L.netlist.outputs i 0) at (some_net L.netlist.outputs i within)).0),
      few,
    )

pub layouts_compute : LayoutsCompute
layouts_compute c B L spelled made layout settles = circuit_holds c B spelled L layout settles made

-- the same of a manifest and a legend that are the layout's
pub spelled_holds : (c : Numbered) (B : PartsOf (List ℕ)) (L : Plan) → IsSpelled B c → Decomposes L.netlist c → IsLayout L → SettlesAlways L
    → (m : ManifestText) (l : LegendText) → m ≡ plain_manifest (layout_system L) → l ≡ layout_legend (map (text_of c.names) c.parts.inputs) (map (text_of c.names) c.parts.outputs) L
    → CircuitHolds B m.system l
spelled_holds c B L spelled made layout settles m l is named =
    let names : l ≡ layout_legend B.inputs B.outputs L = named ∙ (ap (λ v. layout_legend v (map (text_of c.names) c.parts.outputs) L) spelled.inputs ∙ ap (λ v. layout_legend B.inputs v L) spelled.outputs) in
    subst (λ (x : ManifestText). CircuitHolds B x.system l) (sym is) (subst (CircuitHolds B (layout_system L)) (sym names) (layouts_compute c B L spelled made layout settles))

pub spelled_fits : (c : Numbered) (B : PartsOf (List ℕ)) (L : Plan) → IsSpelled B c → IsLayout L → AreWords B → L.width < 2 ^ 32 → L.height < 2 ^ 32 → events_of L < 2 ^ 64
    → (l : LegendText) → l ≡ layout_legend (map (text_of c.names) c.parts.inputs) (map (text_of c.names) c.parts.outputs) L → IsLegend (Some l)
spelled_fits c B L spelled layout words wide high few l named =
    let names : l ≡ layout_legend B.inputs B.outputs L = named ∙ (ap (λ v. layout_legend v (map (text_of c.names) c.parts.outputs) L) spelled.inputs ∙ ap (λ v. layout_legend B.inputs v L) spelled.outputs) in
    subst (λ v. IsLegend (Some v)) (sym names) (legend_fits B L layout words wide high few)
