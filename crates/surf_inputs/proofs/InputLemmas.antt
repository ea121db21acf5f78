-- Inputs that are looked at, and set, one after another.
use Rattle.std.proofs.Common.{ℕ, zero, suc, ◌≡◌, ◌+◌, ◌<◌, Bool, true, false, nat_lt, List, [], ◌∷◌, ◌++◌, length, drop, if◌then◌else◌, get_or, Some, None, refl, sym, ◌∙◌, ap, arith, drop-cons, add-one, ⊎_elim, subst, unwrap_or}
use Rattle.std.specs.Prelude.{slice_get, slice_set}
use Rattle.std.proofs.lemmas.Bool.{and_parts, cases_Bool, ltb-true}
use Rattle.surf_lattice.specs.Grids.{Grid, IsInside, place}
use Rattle.surf_world.specs.Systems.{System}
use Rattle.surf_manifest.specs.Numbered.{NamedManifest, with_start, with_site}
use Rattle.std.specs.List.{list_any}
use Rattle.std.specs.Str.{bytes_eq}
use Rattle.surf_rules.specs.Names.{text_of, with_text}
use Rattle.std.proofs.lemmas.Option.{slice_get_within}
use Rattle.surf_manifest_print.specs.declared.legend.Place.{Place}
use Rattle.surf_inputs.specs.declared.inputs.SetError.TheVariants.{NotInput}
use Rattle.surf_inputs.specs.Inputs.{bit_name, with_bits, is_unset, first_set}

module _ (S : System (List ℕ)) (ps : List Place) (i : ℕ) (p : Place) (within : i < length ps) (is : p ≡ get_or ps i p) where
  behind : drop i ps ≡ p ∷ drop (i + 1) ps
  behind = drop-cons ps i p within ∙ ap (λ x. x ∷ drop (suc i) ps) (sym is) ∙ ap (λ k. p ∷ drop k ps) (sym (add-one i))

  pub passed : is_unset S p.site ≡ true → first_set S (drop i ps) ≡ first_set S (drop (i + 1) ps)
  passed h = ap (first_set S) behind ∙ rw h refl

  pub stopped : is_unset S p.site ≡ false → first_set S (drop i ps) ≡ Some (NotInput p.site)
  stopped h = ap (first_set S) behind ∙ rw h refl

-- where no place is a fault, each is an unset input
unset_first : (S : System (List ℕ)) (p : Place) (ps : List Place) → first_set S (p ∷ ps) ≡ None → (is_unset S p.site ≡ true) × (first_set S ps ≡ None)
unset_first S p ps h =
    ⊎_elim
    (λ e. (e, sym (let f : first_set S (p ∷ ps) ≡ first_set S ps = rw e refl in f) ∙ h))
    (λ e. let f : first_set S (p ∷ ps) ≡ Some (NotInput p.site) = rw e refl in cc)
    (cases_Bool (is_unset S p.site))

pub unset_at : (S : System (List ℕ)) (ps : List Place) (i : ℕ) (d : Place) → first_set S ps ≡ None → i < length ps → is_unset S (get_or ps i d).site ≡ true
unset_at S [] i d h lt = absurd (omega arith)
unset_at S (p ∷ ps) zero d h lt = (unset_first S p ps h).0
unset_at S (p ∷ ps) (suc i) d h lt = unset_at S ps i d (unset_first S p ps h).1 (omega arith)

pub unset_inside : (S : System (List ℕ)) (p : Place) → is_unset S p.site ≡ true → IsInside S.surface.grid p.site
unset_inside S p h =
    let a = and_parts (nat_lt p.site.x S.surface.grid.width) _ h in
    let b = and_parts (nat_lt p.site.y S.surface.grid.height) _ a.1 in
    (ltb-true p.site.x S.surface.grid.width a.0, ltb-true p.site.y S.surface.grid.height b.0)

pub bits_behind : (bits : List Bool) (i : ℕ) (b : Bool) → i < length bits → b ≡ get_or bits i b → drop i bits ≡ b ∷ drop (i + 1) bits
bits_behind bits i b within is = drop-cons bits i b within ∙ ap (λ x. x ∷ drop (suc i) bits) (sym is) ∙ ap (λ k. b ∷ drop k bits) (sym (add-one i))

pub put_next : (g : Grid) (c : List (List ℕ)) (ps : List Place) (bits : List Bool) (i : ℕ) (p : Place) (b : Bool) → i < length ps → p ≡ get_or ps i p → i < length bits → b ≡ get_or bits i b
    → with_bits g c (drop i ps) (drop i bits) ≡ with_bits g (slice_set c (place g p.site) (bit_name b)) (drop (i + 1) ps) (drop (i + 1) bits)
put_next g c ps bits i p b lt is less same =
    ap (λ v. with_bits g c v (drop i bits)) (drop-cons ps i p lt ∙ ap (λ x. x ∷ drop (suc i) ps) (sym is) ∙ ap (λ k. p ∷ drop k ps) (sym (add-one i)))
    ∙ ap (λ v. with_bits g c (p ∷ drop (i + 1) ps) v) (bits_behind bits i b less same)

-- a manifest that differs from another in its start alone
module _ (m n : NamedManifest) (same : m ≡ with_start n m.text.system.start) where
  pub still_inside : (p : Place) → IsInside n.text.system.surface.grid p.site → IsInside m.text.system.surface.grid p.site
  still_inside p h = subst (λ (v : NamedManifest). IsInside v.text.system.surface.grid p.site) (sym same) h

  pub still_named : (k : ℕ) (t : List ℕ) → slice_get n.names k ≡ Some t → k < length m.names
  still_named k t h = subst (λ (v : NamedManifest). k < length v.names) (sym same) (slice_get_within n.names k t h)

  pub put_more : (put : NamedManifest) (p : Place) (k : ℕ) (t : List ℕ) → slice_get n.names k ≡ Some t
      → put ≡ with_site m (place m.text.system.surface.grid p.site) (text_of m.names k)
      → put ≡ with_start n (slice_set m.text.system.start (place n.text.system.surface.grid p.site) t)
  put_more put p k t h is =
      let named : text_of m.names k ≡ t = ap (λ (v : NamedManifest). text_of v.names k) same ∙ ap (λ o. unwrap_or o []) h in
      let here : place m.text.system.surface.grid p.site ≡ place n.text.system.surface.grid p.site = ap (λ (v : NamedManifest). place v.text.system.surface.grid p.site) same in
      is
      ∙ ap (λ v. with_site m v (text_of m.names k)) here
      ∙ ap (λ v. with_site m (place n.text.system.surface.grid p.site) v) named
      ∙ ap (λ (v : NamedManifest). with_start v (slice_set m.text.system.start (place n.text.system.surface.grid p.site) t)) same

  -- and still does, and what is left to put is put to what it then holds
  pub same_more : (put : NamedManifest) (start : List (List ℕ)) → put ≡ with_start n start → put ≡ with_start n put.text.system.start
  same_more put start is = is ∙ ap (with_start n) (sym (ap (λ (v : NamedManifest). v.text.system.start) is))

  pub left_more : (put : NamedManifest) (g : Grid) (start : List (List ℕ)) (ps : List Place) (bits : List Bool) → put ≡ with_start n start → with_bits g start ps bits ≡ with_bits g put.text.system.start ps bits
  left_more put g start ps bits is = ap (λ v. with_bits g v ps bits) (sym (ap (λ (v : NamedManifest). v.text.system.start) is))

-- a name keeps its number where one is added
front_at : (ts us : List (List ℕ)) (k : ℕ) (t : List ℕ) → slice_get ts k ≡ Some t → slice_get (ts ++ us) k ≡ Some t
front_at [] us k t at = absurd (let within = slice_get_within [] k t at in omega (arith, within))
front_at (x ∷ ts) us zero t at = at
front_at (x ∷ ts) us (suc k) t at = front_at ts us k t at

front_if : (b : Bool) (ts : List (List ℕ)) (u : List ℕ) (k : ℕ) (t : List ℕ) → slice_get ts k ≡ Some t → slice_get (if b then ts else ts ++ u ∷ []) k ≡ Some t
front_if true ts u k t at = at
front_if false ts u k t at = front_at ts (u ∷ []) k t at

pub added_at : (m n : NamedManifest) (u : List ℕ) (k : ℕ) (t : List ℕ) → n ≡ record m { names = with_text m.names u } → slice_get m.names k ≡ Some t → slice_get n.names k ≡ Some t
added_at m n u k t is at = ap (λ (v : NamedManifest). slice_get v.names k) is ∙ front_if (list_any (bytes_eq u) m.names) m.names u k t at
