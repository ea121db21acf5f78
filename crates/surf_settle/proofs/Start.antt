-- The start of a layout's surface, with its inputs set.
use Rattle.std.proofs.Common.{◌≡◌, ◌≢◌, ℕ, zero, suc, ◌<◌, Bool, true, false, Some, List, [], ◌∷◌, length, map, get_or, set, refl, sym, ap, ◌∙◌, subst, ◌⊎◌, inl, inr, arith, get_or-set_other, get_or-set_same}
use Rattle.std.specs.Prelude.{slice_get}
use Rattle.std.proofs.lemmas.List.{length-set, length-map, get_or_past}
use Rattle.std.proofs.lemmas.Bool.{cases_eq, cases_lt}
use Rattle.surf_tiles.specs.declared.kind.Kind.{Kind}
use Rattle.surf_tiles.specs.declared.kind.Kind.TheVariants.{Input}
use Rattle.surf_tiles.specs.declared.state.State.{State}
use Rattle.surf_tiles.specs.declared.state.State.TheVariants.{Dot, Bit}
use Rattle.surf_settle.proofs.Shown.{shown}
use Rattle.surf_tiles.specs.States.{spell}
use Rattle.surf_settle.proofs.Squares.{place_of}
use Rattle.surf_lattice.specs.declared.site.Site.{Site}
use Rattle.surf_tiles.specs.Kinds.{blank}
use Rattle.surf_settle.specs.Settling.{with_inputs}
use Rattle.surf_settle.proofs.Lifted.{map-set_lem}
use Rattle.surf_settle.proofs.Tables.{shown_blank}
use Rattle.surf_settle.proofs.Held.{Holds}
use Rattle.surf_settle.specs.Law.{square_grid, kind_at, Plan}
use Rattle.surf_settle.proofs.Places.{Lists, fed_value, PlaceLaw}

abbrev pub put_states : ℕ → List State → List Site → List Bool → List State
put_states width c [] bits = c
put_states width c (s ∷ ss) [] = c
put_states width c (s ∷ ss) (b ∷ bits) = put_states width (set c (place_of width s) (Bit b)) ss bits

pub inputs_spelled : (width height : ℕ) (c : List State) (ss : List Site) (bits : List Bool) → with_inputs (square_grid width height) (map spell c) ss bits ≡ map spell (put_states width c ss bits)
inputs_spelled width height c [] bits = refl
inputs_spelled width height c (s ∷ ss) [] = refl
inputs_spelled width height c (s ∷ ss) (b ∷ bits) = rw (← map-set_lem c (place_of width s) (Bit b)) (inputs_spelled width height (set c (place_of width s) (Bit b)) ss bits)

pub length-put_states : (width : ℕ) (c : List State) (ss : List Site) (bits : List Bool) → length (put_states width c ss bits) ≡ length c
length-put_states width c [] bits = refl
length-put_states width c (s ∷ ss) [] = refl
length-put_states width c (s ∷ ss) (b ∷ bits) = length-put_states width (set c (place_of width s) (Bit b)) ss bits ∙ length-set c (place_of width s) (Bit b)

-- a site that is none of the inputs keeps its name
put_elsewhere : (width : ℕ) (c : List State) (ss : List Site) (bits : List Bool) (q : ℕ) → ((i : ℕ) (s : Site) → slice_get ss i ≡ Some s → place_of width s ≡ q → ⊥) → get_or (put_states width c ss bits) q Dot ≡ get_or c q Dot
put_elsewhere width c [] bits q h = refl
put_elsewhere width c (s ∷ ss) [] q h = refl
put_elsewhere width c (s ∷ ss) (b ∷ bits) q h =
    let n : q ≢ place_of width s = λ e. h 0 s refl (sym e) in
    put_elsewhere width (set c (place_of width s) (Bit b)) ss bits q (λ i t e p. h (suc i) t e p) ∙ get_or-set_other c (place_of width s) q (Bit b) Dot n

-- the i-th input site has the bit that is its net's value
pub record Agrees (width : ℕ) (own : ℕ → Bool) (ss : List Site) (bits : List Bool) : Type 0 where
  pub at : (i : ℕ) (s : Site) (b : Bool) → slice_get ss i ≡ Some s → slice_get bits i ≡ Some b → own (place_of width s) ≡ b

agrees_rest : (width : ℕ) (own : ℕ → Bool) (s : Site) (ss : List Site) (b : Bool) (bits : List Bool) → Agrees width own (s ∷ ss) (b ∷ bits) → Agrees width own ss bits
agrees_rest width own s ss b bits a = record { at = λ i t c e f. a.at (suc i) t c e f }

within : (c : List State) (q : ℕ) (b : Bool) → get_or c q Dot ≡ Bit b → q < length c
within c q b e =
    elim (cases_lt q (length c)) [
      | inl h ↦ h
      | inr h ↦ (let p = get_or_past c q Dot h in absurd (cc (p, e)))
    ]

put_keeps : (width : ℕ) (own : ℕ → Bool) (c : List State) (ss : List Site) (bits : List Bool) (q : ℕ) → Agrees width own ss bits → get_or c q Dot ≡ Bit (own q) → get_or (put_states width c ss bits) q Dot ≡ Bit (own q)
put_keeps width own c [] bits q a e = e
put_keeps width own c (s ∷ ss) [] q a e = e
put_keeps width own c (s ∷ ss) (b ∷ bits) q a e =
    put_keeps width own (set c (place_of width s) (Bit b)) ss bits q (agrees_rest width own s ss b bits a)
    (elim (cases_eq q (place_of width s)) [
      | inl p ↦ (
          let o : own q ≡ b = ap own p ∙ a.at 0 s b refl refl in
          subst (λ (x : ℕ). get_or (set c x (Bit b)) q Dot ≡ Bit (own q)) p (get_or-set_same c q (Bit b) Dot (within c q (own q) e) ∙ ap (λ (x : Bool). Bit x) (sym o)))
      | inr n ↦ (let m : q ≢ place_of width s = n in get_or-set_other c (place_of width s) q (Bit b) Dot m ∙ e)
    ])

pub put_there : (width : ℕ) (own : ℕ → Bool) (c : List State) (ss : List Site) (bits : List Bool) (i : ℕ) (s : Site) → Agrees width own ss bits → length ss ≡ length bits → slice_get ss i ≡ Some s → place_of width s < length c → get_or (put_states width c ss bits) (place_of width s) Dot ≡ Bit (own (place_of width s))
put_there width own c [] bits i s a n e b = absurd cc
put_there width own c (t ∷ ss) [] i s a n e b = absurd (omega arith)
put_there width own c (t ∷ ss) (v ∷ bits) zero s a n e b =
    let same : t ≡ s = cc in
    let o : own (place_of width s) ≡ v = ap (λ (x : Site). own (place_of width x)) (sym same) ∙ a.at 0 t v refl refl in
    put_keeps width own (set c (place_of width t) (Bit v)) ss bits (place_of width s) (agrees_rest width own t ss v bits a)
    (subst (λ (x : Site). get_or (set c (place_of width x) (Bit v)) (place_of width s) Dot ≡ Bit (own (place_of width s))) (sym same) (get_or-set_same c (place_of width s) (Bit v) Dot b ∙ ap (λ (x : Bool). Bit x) (sym o)))
put_there width own c (t ∷ ss) (v ∷ bits) (suc i) s a n e b =
    put_there width own (set c (place_of width t) (Bit v)) ss bits i s (agrees_rest width own t ss v bits a) (omega (arith, n)) e (rw length-set b)

input_or_not : (k : Kind) → (k ≡ Input) ⊎ (k ≡ Input → ⊥)
input_or_not Input = inl refl
input_or_not _ = inr (λ e. absurd cc)

blank_at : (kinds : List Kind) (q : ℕ) → get_or (map blank kinds) q Dot ≡ blank (kind_at kinds q)
blank_at [] q = refl
blank_at (k ∷ kinds) zero = refl
blank_at (k ∷ kinds) (suc q) = blank_at kinds q

input_within : (kinds : List Kind) (q : ℕ) → kind_at kinds q ≡ Input → q < length kinds
input_within [] q e = absurd cc
input_within (k ∷ kinds) zero e = omega arith
input_within (k ∷ kinds) (suc q) e = let h = input_within kinds q e in omega (arith, h)

none_read : true ≡ false → ⊥
none_read e = absurd cc

pub start_holds : (L : Plan) (l : Lists) (val : ℕ → Bool) (bits : List Bool) → PlaceLaw L l → length bits ≡ L.netlist.inputs → Agrees L.width (λ p. val (l.net p false)) L.inputs bits → Holds L.kinds l val (λ q i. false) (put_states L.width (map blank L.kinds) L.inputs bits)
start_holds L l val bits law long agrees = record {
  long = length-put_states L.width (map blank L.kinds) L.inputs bits ∙ length-map L.kinds blank;
  named = λ q. elim (input_or_not (kind_at L.kinds q)) [
    | inl e ↦ (
        let h = law.inputs_only q e in
        let b : place_of L.width h.1 < length (map blank L.kinds) = rw length-map (rw h.3 (input_within L.kinds q e)) in
        let there : get_or (put_states L.width (map blank L.kinds) L.inputs bits) (place_of L.width h.1) Dot ≡ Bit (val (l.net (place_of L.width h.1) false)) =
        put_there L.width (λ p. val (l.net p false)) (map blank L.kinds) L.inputs bits h.0 h.1 agrees (law.as_many_inputs ∙ sym long) h.2 b in
        subst (λ (x : ℕ). get_or (put_states L.width (map blank L.kinds) L.inputs bits) x Dot ≡ Bit (val (l.net x false))) h.3 there ∙
        sym (ap (λ (k : Kind). shown k false false (val (l.net q false)) (val (l.net q true)) (fed_value val l q false) (fed_value val l q true)) e))
    | inr n ↦
        put_elsewhere L.width (map blank L.kinds) L.inputs bits q (λ i s e p. n (ap (kind_at L.kinds) (sym p) ∙ (law.input i s e).0)) ∙
        blank_at L.kinds q ∙ sym (shown_blank (kind_at L.kinds q) _ _ _ _ n)
  ];
  closed = λ q i w o r. absurd (none_read (sym r));
}
