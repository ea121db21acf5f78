-- The values of the nets meet the gates, and so the law's lists meet the values.
use Rattle.std.proofs.Common.{◌≡◌, ℕ, zero, suc, ◌+◌, ◌<◌, Bool, true, false, Some, List, [], ◌∷◌, ◌++◌, length, refl, sym, ap, ◌∙◌, subst, arith, add-zero}
use Rattle.std.specs.Prelude.{slice_get}
use Rattle.std.proofs.lemmas.List.{get_or_append_left, get_or_push, length_push}
use Rattle.surf_tiles.specs.declared.kind.Kind.{Kind}
use Rattle.surf_tiles.specs.declared.kind.Kind.TheVariants.{Empty, Input, Value, Gate1, Gate2, Centre}
use Rattle.surf_tiles.specs.declared.netlist.Gate.{Gate}
use Rattle.surf_tiles.specs.declared.netlist.Gate.TheVariants.{Constant, One, Two}
use Rattle.surf_tiles.specs.Netlists.{NetlistOf, gate_value, value_in, with_gates, net_meaning, UsesBelow, IsOrdered, IsGate}
use Rattle.surf_settle.specs.Law.{kind_at, Plan, NetLaw}
use Rattle.surf_settle.proofs.Places.{Lists, Fed, IsValued, fed_net, PlaceLaw}

-- later gates leave the values of earlier nets
pub value_kept : (gs : List Gate) (vs : List Bool) (n : ℕ) → n < length vs → value_in (with_gates gs vs) n ≡ value_in vs n
value_kept [] vs n b = refl
value_kept (g ∷ gs) vs n b =
    value_kept gs (vs ++ gate_value (value_in vs) g ∷ []) n (omega (arith, length_push vs (gate_value (value_in vs) g))) ∙ get_or_append_left vs (gate_value (value_in vs) g ∷ []) false n b

gate_same : (val val' : ℕ → Bool) (n : ℕ) (g : Gate) → UsesBelow n g → ((k : ℕ) → k < n → val k ≡ val' k) → gate_value val g ≡ gate_value val' g
gate_same val val' n (Constant v) u h = refl
gate_same val val' n (One z o input) u h = cc (h input u)
gate_same val val' n (Two t00 t01 t10 t11 first second) u h = cc (h first u.0, h second u.1)

pub value_of_gate : (gs : List Gate) (vs : List Bool) (j : ℕ) (g : Gate) → slice_get gs j ≡ Some g → UsesBelow (length vs + j) g → value_in (with_gates gs vs) (length vs + j) ≡ gate_value (value_in (with_gates gs vs)) g
value_of_gate [] vs j g e u = absurd cc
value_of_gate (h ∷ gs) vs zero g e u =
    let x : Bool = gate_value (value_in vs) h in
    let below : (k : ℕ) → k < length vs → value_in vs k ≡ value_in (with_gates gs (vs ++ x ∷ [])) k = λ k b. sym (value_kept gs (vs ++ x ∷ []) k (omega (arith, length_push vs x, b)) ∙ get_or_append_left vs (x ∷ []) false k b) in
    let same : h ≡ g = cc in
    let u' : UsesBelow (length vs) g = rw add-zero at u in
    rw add-zero (value_kept gs (vs ++ x ∷ []) (length vs) (omega (arith, length_push vs x)) ∙ get_or_push vs x false (length vs) refl ∙ ap (gate_value (value_in vs)) same ∙ gate_same (value_in vs) (value_in (with_gates gs (vs ++ x ∷ []))) (length vs) g u' below)
value_of_gate (h ∷ gs) vs (suc j) g e u =
    let p : length (vs ++ gate_value (value_in vs) h ∷ []) + j ≡ length vs + suc j = omega (arith, length_push vs (gate_value (value_in vs) h)) in
    rw (← p) (value_of_gate gs (vs ++ gate_value (value_in vs) h ∷ []) j g e (rw p u))

pub value_of_net : (N : NetlistOf) (bits : List Bool) (net : ℕ) (g : Gate) → IsOrdered N → length bits ≡ N.inputs → IsGate N net g → value_in (net_meaning N bits) net ≡ gate_value (value_in (net_meaning N bits)) g
value_of_net N bits net g ordered long (j, at, is) =
    ap (value_in (net_meaning N bits)) (at ∙ ap (λ (n : ℕ). n + j) (sym long)) ∙ value_of_gate N.gates bits j g is (subst (λ (n : ℕ). UsesBelow (n + j) g) (sym long) (ordered j g is))

-- the values meet what the kinds say of the nets
fed_by : (N : NetlistOf) (bits : List Bool) (k : Kind) (own below one two : ℕ) → IsOrdered N → length bits ≡ N.inputs → NetLaw N k own below one two →
    Fed k (value_in (net_meaning N bits) own) (value_in (net_meaning N bits) below) (value_in (net_meaning N bits) one) (value_in (net_meaning N bits) two)
fed_by N bits Empty own below one two ordered long h = tt
fed_by N bits Input own below one two ordered long h = tt
fed_by N bits (Value v) own below one two ordered long h = value_of_net N bits own (Constant v) ordered long h
fed_by N bits (Gate1 z o) own below one two ordered long h = value_of_net N bits own (One z o one) ordered long h
fed_by N bits (Gate2 t00 t01 t10 t11) own below one two ordered long h = value_of_net N bits own (Two t00 t01 t10 t11 one two) ordered long h
fed_by N bits Centre own below one two ordered long h = (ap (value_in (net_meaning N bits)) h.0, ap (value_in (net_meaning N bits)) h.1)
fed_by N bits _ own below one two ordered long h = ap (value_in (net_meaning N bits)) h

pub valued : (L : Plan) (l : Lists) (bits : List Bool) → IsOrdered L.netlist → length bits ≡ L.netlist.inputs → PlaceLaw L l → IsValued L.kinds l (value_in (net_meaning L.netlist bits))
valued L l bits ordered long law q = fed_by L.netlist bits (kind_at L.kinds q) (l.net q false) (l.net q true) (fed_net l q false) (fed_net l q true) ordered long (law.nets q)
