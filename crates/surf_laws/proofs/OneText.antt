-- An input has one text of its circuit's surface, however the circuit's names are numbered.
use Rattle.std.proofs.Common.{ℕ, ◌≡◌, ◌<◌, ◌^◌, Bool, true, false, List, [], ◌∷◌, ◌++◌, Some, map, length, refl, sym, ◌∙◌, ap, subst, inl}
use Rattle.std.specs.List.{All, list_any}
use Rattle.std.specs.Str.{bytes_eq}
use Rattle.std.proofs.lemmas.Bool.{both_ways}
use Rattle.surf_rules.specs.Names.{text_of, AreDistinct}
use Rattle.surf_logic.specs.Equations.{EquationOf, Numbered}
use Rattle.surf_logic.specs.Order.{is_ready, Turn, Turns, EquationInRange}
use Rattle.surf_logic.specs.Renamed.{AreNamed, by_text}
use Rattle.surf_logic.proofs.Has.{In, any_from, in_right, none_in, or_none}
use Rattle.surf_logic.proofs.Turning.{circuit_is}
use Rattle.surf_blif.specs.Blifs.{parts_of, IsRead}
use Rattle.surf_manifest.specs.Grammar.{ManifestText}
use Rattle.surf_manifest_print.specs.Legends.{LegendText}
use Rattle.surf_manifest_print.specs.Prints.{print_of}
use Rattle.surf_netlist.specs.Circuits.{gates_of}
use Rattle.surf_circuit.specs.Surfaces.{layout_legend}
use Rattle.surf_circuit.specs.Compiled.{IsDrawn, IsSurfaceOf}
use Rattle.surf_circuit.proofs.OneSurface.{surface_is_one}
use Rattle.surf_laws.specs.OneText.{OneText}
use Rattle.surf_laws.proofs.OneNetlist.{first_same, rest_same, netlist_is_one}

-- ---- turns take one order

-- the first that passes a test
split_one : {X : Type 0} (test : X → Bool) (b c : List X) (x y : X) (a d : List X) → b ++ x ∷ a ≡ c ++ y ∷ d
    → list_any test b ≡ false → list_any test c ≡ false → test x ≡ true → test y ≡ true → (x ≡ y) × (b ++ a ≡ c ++ d)
split_one test [] [] x y a d e nb nc tx ty = (first_same x y a d e, rest_same x y a d e)
split_one test [] (z ∷ c) x y a d e nb nc tx ty =
    absurd (both_ways _ (none_in test (z ∷ c) z nc (inl refl)) (ap test (sym (first_same x z a (c ++ y ∷ d) e)) ∙ tx))
split_one test (z ∷ b) [] x y a d e nb nc tx ty =
    absurd (both_ways _ (none_in test (z ∷ b) z nb (inl refl)) (ap test (first_same z y (b ++ x ∷ a) d e) ∙ ty))
split_one test (z ∷ b) (w ∷ c) x y a d e nb nc tx ty =
    let more = split_one test b c x y a d (rest_same z w (b ++ x ∷ a) (c ++ y ∷ d) e) (or_none (test z) (list_any test b) nb).1 (or_none (test w) (list_any test c) nc).1 tx ty in
    (more.0, ap (λ v. v ∷ (b ++ a)) (first_same z w (b ++ x ∷ a) (c ++ y ∷ d) e) ∙ ap (λ v. w ∷ v) more.1)

some_ready : {N : Type 0} (eq : N → N → Bool) (known : List N) (rest : List (EquationOf N)) (q : EquationOf N) (left : List (EquationOf N))
    → Turn eq known rest q left → list_any (is_ready eq known) rest ≡ true
some_ready eq known rest q left t =
    any_from (is_ready eq known) rest q (subst (λ v. In v q) (sym t.splits) (in_right t.before (q ∷ t.after) q (inl refl))) t.ready

turns_one : {N : Type 0} (eq : N → N → Bool) (known : List N) (rest qs rs left right : List (EquationOf N))
    → Turns eq known rest qs left → Turns eq known rest rs right → qs ≡ rs
turns_one eq known rest [] [] left right t u = refl
turns_one eq known rest [] (r ∷ rs) left right t u = absurd (both_ways _ t.1 (some_ready eq known rest r u.0 u.1))
turns_one eq known rest (q ∷ qs) [] left right t u = absurd (both_ways _ u.1 (some_ready eq known rest q t.0 t.1))
turns_one {N} eq known rest (q ∷ qs) (r ∷ rs) left right t u =
    let one = split_one (is_ready eq known) t.1.before u.1.before q r t.1.after u.1.after (sym t.1.splits ∙ u.1.splits) t.1.waiting u.1.waiting t.1.ready u.1.ready in
    let next : t.0 ≡ u.0 = t.1.leaves ∙ one.1 ∙ sym u.1.leaves in
    let moved : Turns eq (r.output ∷ known) u.0 qs left =
    subst (λ (v : List (EquationOf N)). Turns eq (r.output ∷ known) v qs left) next
    (subst (λ (v : EquationOf N). Turns eq (v.output ∷ known) t.0 qs left) one.0 t.2) in
    ap (λ (v : EquationOf N). v ∷ qs) one.0 ∙ ap (λ v. r ∷ v) (turns_one eq (r.output ∷ known) u.0 qs rs left right moved u.2)

-- ---- one netlist, one surface and one text

read_named : (input : List ℕ) (c : Numbered) → IsRead input c → AreNamed c
read_named input c r =
    let p = r.unordered in
    let o = r.order in
    let k = (circuit_is p c.parts.equations r.named.range o.sound o.turns).in_range in
    let names = sym o.names in
    record {
      distinct = subst AreDistinct names r.named.distinct;
      range = record {
        inputs = subst (λ v. All (λ n. n < length v) c.parts.inputs) names (subst (All (λ n. n < length p.names)) (sym o.inputs) k.inputs);
        outputs = subst (λ v. All (λ n. n < length v) c.parts.outputs) names (subst (All (λ n. n < length p.names)) (sym o.outputs) k.outputs);
        equations = subst (λ v. All (EquationInRange (length v)) c.parts.equations) names k.equations;
        names = subst (λ v. length v < 2 ^ 32) names k.names;
      };
    }

gates_one : (input : List ℕ) (c d : Numbered) → IsRead input c → IsRead input d → gates_of c.parts ≡ gates_of d.parts
gates_one input c d r s =
    netlist_is_one c d (read_named input c r) (read_named input d s) (r.inputs ∙ sym s.inputs) (r.outputs ∙ sym s.outputs)
    (turns_one bytes_eq (parts_of input).inputs (parts_of input).equations (by_text c).equations (by_text d).equations [] [] r.turns s.turns)

-- a surface of the one circuit is one of the other
surface_moves : (input : List ℕ) (c d : Numbered) (m : ManifestText) (l : LegendText) → IsRead input c → IsRead input d → IsSurfaceOf d m l → IsSurfaceOf c m l
surface_moves input c d m l r s surface = record {
  layout = surface.layout;
  drawn = subst (λ v. IsDrawn v surface.layout) (gates_one input d c s r) surface.drawn;
  manifest = surface.manifest;
  legend = surface.legend
      ∙ ap (λ v. layout_legend v (map (text_of d.names) d.parts.outputs) surface.layout) (s.inputs ∙ sym r.inputs)
      ∙ ap (λ v. layout_legend (map (text_of c.names) c.parts.inputs) v surface.layout) (s.outputs ∙ sym r.outputs);
}

pub one_text : OneText
one_text input text text' a b =
    let same = surface_is_one a.circuit a.manifest b.manifest a.legend b.legend a.surface (surface_moves input a.circuit b.circuit b.manifest b.legend a.read b.read b.surface) in
    a.is ∙ ap (λ m. print_of m (Some a.legend)) same.0 ∙ ap (λ l. print_of b.manifest (Some l)) same.1 ∙ sym b.is
