-- Inputs that can be set, and what stays well formed then.
use Rattle.std.proofs.Common.{ℕ, zero, suc, ◌≡◌, Bool, true, false, ◌&&◌, List, [], ◌∷◌, map, length, Some, None, slice_get, refl, sym, ◌∙◌, ap, arith}
use Rattle.std.specs.Prelude.{codes, slice_set}
use Rattle.std.specs.List.{list_all}
use Rattle.std.proofs.lemmas.Bool.{and_parts, eq-eqb, lt-ltb}
use Rattle.std.proofs.lemmas.List.{length-map, length-set}
use Rattle.surf_lattice.specs.declared.site.Site.{Site}
use Rattle.surf_lattice.specs.Grids.{Grid, place}
use Rattle.surf_world.specs.Systems.{System, Holds}
use Rattle.surf_settle.specs.Settling as settling
use Rattle.surf_manifest_lines.specs.Item.{is_name}
use Rattle.surf_manifest_print.specs.declared.legend.Place.{Place}
use Rattle.surf_inputs.specs.Inputs.{bit_name, is_unset, first_set}
use Rattle.surf_circuit.specs.Surfaces.{CircuitsAreSet, SetsKeepForm}

both : (a b : Bool) → a ≡ true → b ≡ true → (a && b) ≡ true
both a b p q = rw (p, q) refl

unset_here : (S : System (List ℕ)) (s : Site) → Holds S.surface.grid S.start s (codes "?") → is_unset S s ≡ true
unset_here S s h = rw (lt-ltb s.x S.surface.grid.width h.0.0, lt-ltb s.y S.surface.grid.height h.0.1, h.1) refl

none_set : (S : System (List ℕ)) (ps : List Place) → ((i : ℕ) (p : Place) → slice_get ps i ≡ Some p → Holds S.surface.grid S.start p.site (codes "?")) → first_set S ps ≡ None
none_set S [] h = refl
none_set S (p ∷ ps) h = let e : is_unset S p.site ≡ true = unset_here S p.site (h zero p refl) in rw e (none_set S ps (λ i q at. h (suc i) q at))

pub circuits_are_set : CircuitsAreSet
circuits_are_set B S l bits holds long =
    let same : length bits ≡ length l.inputs = long ∙ (ap length (sym holds.inputs) ∙ length-map l.inputs (λ (p : Place). p.name)) in
    rw (eq-eqb (length bits) (length l.inputs) same) (none_set S l.inputs holds.unset)

-- names that are put stay names
bit_is_name : (b : Bool) → is_name (bit_name b) ≡ true
bit_is_name true = refl
bit_is_name false = refl

names_put : (names : List (List ℕ)) (i : ℕ) (t : List ℕ) → list_all is_name names ≡ true → is_name t ≡ true → list_all is_name (slice_set names i t) ≡ true
names_put [] i t h k = refl
names_put (n ∷ ns) zero t h k = let q = and_parts (is_name n) (list_all is_name ns) h in both (is_name t) (list_all is_name ns) k q.1
names_put (n ∷ ns) (suc i) t h k = let q = and_parts (is_name n) (list_all is_name ns) h in both (is_name n) (list_all is_name (slice_set ns i t)) q.0 (names_put ns i t q.1 k)

names_set : (g : Grid) (names : List (List ℕ)) (sites : List Site) (bits : List Bool) → list_all is_name names ≡ true → list_all is_name (settling.with_inputs g names sites bits) ≡ true
names_set g names [] bits h = h
names_set g names (s ∷ ss) [] h = h
names_set g names (s ∷ ss) (b ∷ bits) h = names_set g (slice_set names (place g s) (bit_name b)) ss bits (names_put names (place g s) (bit_name b) h (bit_is_name b))

set_long : (g : Grid) (names : List (List ℕ)) (sites : List Site) (bits : List Bool) → length (settling.with_inputs g names sites bits) ≡ length names
set_long g names [] bits = refl
set_long g names (s ∷ ss) [] = refl
set_long g names (s ∷ ss) (b ∷ bits) = set_long g (slice_set names (place g s) (bit_name b)) ss bits ∙ length-set names (place g s) (bit_name b)

pub sets_keep_form : SetsKeepForm
sets_keep_form m l bits w =
    let g = m.system.surface.grid in
    let sites = map (λ p. p.site) l.inputs in
    let long = set_long g m.system.start sites bits in
    record {
      options = w.options;
      few_rules = w.few_rules;
      rules = w.rules;
      width = w.width;
      height = w.height;
      sites = long ∙ w.sites;
      few_sites = let few = w.few_sites in omega (arith, long, few);
      joined = w.joined;
      names = names_set g m.system.start sites bits w.names;
      colours = w.colours;
    }
