-- The list of rules holds the read rules of the listed codes, and no others.
use Rattle.std.specs.List.{flat_map}
use Rattle.std.proofs.Common.{◌≡◌, ℕ, suc, ◌+◌, ◌*◌, ◌/◌, ◌%◌, ◌<◌, map, List, Option, Some, None, sym, refl, ap, ◌∙◌, subst, inl, inr, arith}
use Rattle.std.proofs.lemmas.Nat.{mod_below, div_below, div-add-mod', div-mul-add, mod-mul-add, mul-add-lt}
use Rattle.surf_auto.specs.Locals.{following, preceding}
use Rattle.surf_sync.specs.declared.code.Code.{Code}
use Rattle.surf_sync.specs.Codes.{Protocol, Mark, OpenBy, WholeBy, beside, next_by, fields_by, next_field, phase, sight, read_rule, IsCode, IsMark, HoldsReads}
use Rattle.surf_sync.specs.Codes.Mark.{Frame, Cell}
use Rattle.surf_sync.specs.Rules.{below, turns_by, turns_of, Place, places_of, code_of, codes_of, readers_of, Seen, sights_of, rules_of, sync_rules}
use Rattle.surf_sync.proofs.Numbers.{mod-suc, following_cases}
use Rattle.surf_sync.proofs.Sights.{sight_frame, sight_cell, frame_seen, same_seen, next_seen, beside_below}
use Rattle.surf_sync.proofs.Members.{Has, has_later, has_cons, has_left, has_right, has_append, has_map, map_has, has_flat, flat_has, has_range, below_has}

has_below : (n i : ℕ) → i < n → Has (below n) i
has_below n i h = has_range 0 n i (omega arith) (omega arith)

has_place : (P : Protocol) (f r a : ℕ) → r < P.rule.degree → a < P.rule.accs f r → Has (places_of P f) (record { reads = r; acc = a })
has_place P f r a h k = has_flat (λ r. map (λ a. record { reads = r; acc = a }) (below (P.rule.accs f r))) (below P.rule.degree) r _ (has_below P.rule.degree r h) (has_map (λ (a : ℕ). let p : Place = record { reads = r; acc = a } in p) (below (P.rule.accs f r)) a (has_below _ a k))

-- a listed code is among the codes of its phase, field and colour
has_code : (P : Protocol) (f : ℕ) (c : Code) → IsCode P.rule P.last c → phase P.rule c.generation ≡ f → Has (codes_of P f c.generation c.colour) c
has_code P f c is e =
    let cw : c.current < P.rule.states f = subst (λ x. c.current < P.rule.states x) e is.current_within in
    let pw : c.previous < P.rule.states (preceding P.rule.phases f) = subst (λ x. c.previous < P.rule.states (preceding P.rule.phases x)) e is.previous_within in
    let aw : c.acc < P.rule.accs f c.reads = subst (λ x. c.acc < P.rule.accs x c.reads) e is.acc_within in
    has_flat _ (below (P.rule.states f)) c.current c (has_below _ c.current cw)
    (has_flat _ (below (P.rule.states (preceding P.rule.phases f))) c.previous c (has_below _ c.previous pw)
    (has_map (code_of c.current c.generation c.colour c.previous) (places_of P f) (record { reads = c.reads; acc = c.acc }) (has_place P f c.reads c.acc is.reads_within aw)))

pub place_has : (P : Protocol) (f : ℕ) (at : Place) → Has (places_of P f) at → (at.reads < P.rule.degree) × (at.acc < P.rule.accs f at.reads)
place_has P f at h =
    let u = flat_has (λ r. map (λ a. let p : Place = record { reads = r; acc = a } in p) (below (P.rule.accs f r))) (below P.rule.degree) at h in
    let v = map_has (λ (a : ℕ). let p : Place = record { reads = u.0; acc = a } in p) (below (P.rule.accs f u.0)) at u.2 in
    subst (λ x. (x.reads < P.rule.degree) × (x.acc < P.rule.accs f x.reads)) (sym v.2) (below_has _ u.0 u.1, below_has _ v.0 v.1)

pub listed_at : (P : Protocol) (f current field colour previous : ℕ) (at : Place) → field < fields_by P.last P.rule.phases → field % P.rule.phases ≡ f → current < P.rule.states f → colour < suc P.rule.degree → previous < P.rule.states (preceding P.rule.phases f) → (at.reads < P.rule.degree) × (at.acc < P.rule.accs f at.reads) → IsCode P.rule P.last (code_of current field colour previous at)
listed_at P f current field colour previous at a e b c d g = record {
  generation_within = a;
  current_within = subst (λ x. current < P.rule.states x) (sym e) b;
  previous_within = subst (λ x. previous < P.rule.states (preceding P.rule.phases x)) (sym e) d;
  colour_within = c;
  reads_within = g.0;
  acc_within = subst (λ x. at.acc < P.rule.accs x at.reads) (sym e) g.1;
}

pub codes_has : (P : Protocol) (f field colour : ℕ) (c : Code) → field < fields_by P.last P.rule.phases → field % P.rule.phases ≡ f → colour < suc P.rule.degree → Has (codes_of P f field colour) c → (c.generation ≡ field) × (c.colour ≡ colour) × IsCode P.rule P.last c
codes_has P f field colour c fw fe cw h =
    let u = flat_has (λ current. flat_map (λ previous. map (code_of current field colour previous) (places_of P f)) (below (P.rule.states (preceding P.rule.phases f)))) (below (P.rule.states f)) c h in
    let v = flat_has (λ previous. map (code_of u.0 field colour previous) (places_of P f)) (below (P.rule.states (preceding P.rule.phases f))) c u.2 in
    let w = map_has (code_of u.0 field colour v.0) (places_of P f) c v.2 in (
      ap (λ x. x.generation) w.2,
      ap (λ x. x.colour) w.2,
      subst (IsCode P.rule P.last) {x = code_of u.0 field colour v.0 w.0} (sym w.2) (listed_at P f u.0 field colour v.0 w.0 fw fe (below_has _ u.0 u.1) cw (below_has _ v.0 v.1) (place_has P f w.0 w.1)),
    )

pub turn_within : (o : Option ℕ) (n x : ℕ) → 0 < n → WholeBy o n → x < fields_by o n → OpenBy o x → x / n < turns_by o n
turn_within None n x some whole h opened = div_below x n 3 some h
turn_within (Some l) n x some whole h opened =
    let q : l / n ≡ whole.0 = ap (λ y. y / n) (let e : l ≡ whole.0 * n + 0 = (let w = whole.1 in omega arith) in e) ∙ div-mul-add whole.0 n 0 some in
    rw q (div_below x n whole.0 some (let w = whole.1 in omega arith))

pub turn_opens : (o : Option ℕ) (n t f : ℕ) → 0 < n → WholeBy o n → t < turns_by o n → f < n → OpenBy o (t * n + f)
turn_opens None n t f some whole h g = tt
turn_opens (Some l) n t f some whole h g =
    let q : l / n ≡ whole.0 = ap (λ y. y / n) (let e : l ≡ whole.0 * n + 0 = (let w = whole.1 in omega arith) in e) ∙ div-mul-add whole.0 n 0 some in
    let m : t * n + f < n * whole.0 = mul-add-lt t n f whole.0 (omega arith) g in
    let w = whole.1 in
    omega arith

pub turn_field : (o : Option ℕ) (n t f : ℕ) → t < turns_by o n → f < n → OpenBy o (t * n + f) → t * n + f < fields_by o n
turn_field None n t f h g opened = let m : t * n + f < n * 3 = mul-add-lt t n f 3 h g in omega arith
turn_field (Some l) n t f h g opened = omega arith

pub next_within : (o : Option ℕ) (n x : ℕ) → 0 < n → x < fields_by o n → OpenBy o x → next_by o n x < fields_by o n
next_within None n x some h opened = elim (following_cases (3 * n) x) [ inl w ↦ rw w.1 (omega arith) | inr w ↦ rw w.1 (let d = w.0 in omega arith) ]
next_within (Some l) n x some h opened = omega arith

reader_is : (P : Protocol) (f : ℕ) (c : Code) (current turn colour previous : ℕ) (at : Place) → c ≡ code_of current (turn * P.rule.phases + f) colour previous at → OpenBy P.last (turn * P.rule.phases + f) → (turn * P.rule.phases + f) % P.rule.phases ≡ f → IsCode P.rule P.last (code_of current (turn * P.rule.phases + f) colour previous at) → OpenBy P.last c.generation × IsCode P.rule P.last c × (c.generation % P.rule.phases ≡ f)
reader_is P f c current turn colour previous at e opened m is = subst (λ x. OpenBy P.last x.generation × IsCode P.rule P.last x × (x.generation % P.rule.phases ≡ f)) (sym e) (opened, is, m)

has_reader : (P : Protocol) → 0 < P.rule.phases → WholeBy P.last P.rule.phases → (c : Code) → IsCode P.rule P.last c → OpenBy P.last c.generation → Has (readers_of P (phase P.rule c.generation)) c
has_reader P some whole c is opened =
    let f : ℕ = phase P.rule c.generation in
    let t : ℕ = c.generation / P.rule.phases in
    let e : t * P.rule.phases + f ≡ c.generation = div-add-mod' c.generation P.rule.phases in
    let same : c ≡ code_of c.current (t * P.rule.phases + f) c.colour c.previous (record { reads = c.reads; acc = c.acc }) = ap (λ x. code_of c.current x c.colour c.previous (record { reads = c.reads; acc = c.acc })) (sym e) in
    let by_previous : ℕ → ℕ → ℕ → ℕ → List Code = λ current turn colour previous. map (code_of current (turn * P.rule.phases + f) colour previous) (places_of P f) in
    let by_colour : ℕ → ℕ → ℕ → List Code = λ current turn colour. flat_map (by_previous current turn colour) (below (P.rule.states (preceding P.rule.phases f))) in
    let by_turn : ℕ → ℕ → List Code = λ current turn. flat_map (by_colour current turn) (below (suc P.rule.degree)) in
    has_flat (λ current. flat_map (by_turn current) (below (turns_of P))) (below (P.rule.states f)) c.current c (has_below _ c.current is.current_within)
    (has_flat (by_turn c.current) (below (turns_of P)) t c (has_below _ t (turn_within P.last P.rule.phases c.generation some whole is.generation_within opened))
    (has_flat (by_colour c.current t) (below (suc P.rule.degree)) c.colour c (has_below (suc P.rule.degree) c.colour is.colour_within)
    (has_flat (by_previous c.current t c.colour) (below (P.rule.states (preceding P.rule.phases f))) c.previous c (has_below _ c.previous is.previous_within)
    (subst (λ x. Has (map (code_of c.current (t * P.rule.phases + f) c.colour c.previous) (places_of P f)) x) (sym same)
    (has_map (code_of c.current (t * P.rule.phases + f) c.colour c.previous) (places_of P f) (record { reads = c.reads; acc = c.acc }) (has_place P f c.reads c.acc is.reads_within is.acc_within))))))

readers_has : (P : Protocol) → 0 < P.rule.phases → WholeBy P.last P.rule.phases → (f : ℕ) (c : Code) → f < P.rule.phases → Has (readers_of P f) c → OpenBy P.last c.generation × IsCode P.rule P.last c × (c.generation % P.rule.phases ≡ f)
readers_has P some whole f c h has =
    let a = flat_has (λ current. flat_map (λ turn. flat_map (λ colour. flat_map (λ previous. map (code_of current (turn * P.rule.phases + f) colour previous) (places_of P f))
    (below (P.rule.states (preceding P.rule.phases f)))) (below (suc P.rule.degree))) (below (turns_of P))) (below (P.rule.states f)) c has in
    let b = flat_has (λ turn. flat_map (λ colour. flat_map (λ previous. map (code_of a.0 (turn * P.rule.phases + f) colour previous) (places_of P f))
    (below (P.rule.states (preceding P.rule.phases f)))) (below (suc P.rule.degree))) (below (turns_of P)) c a.2 in
    let d = flat_has (λ colour. flat_map (λ previous. map (code_of a.0 (b.0 * P.rule.phases + f) colour previous) (places_of P f))
    (below (P.rule.states (preceding P.rule.phases f)))) (below (suc P.rule.degree)) c b.2 in
    let g = flat_has (λ previous. map (code_of a.0 (b.0 * P.rule.phases + f) d.0 previous) (places_of P f)) (below (P.rule.states (preceding P.rule.phases f))) c d.2 in
    let w = map_has (code_of a.0 (b.0 * P.rule.phases + f) d.0 g.0) (places_of P f) c g.2 in
    let opened : OpenBy P.last (b.0 * P.rule.phases + f) = turn_opens P.last P.rule.phases b.0 f some whole (below_has _ b.0 b.1) h in
    let e : (b.0 * P.rule.phases + f) % P.rule.phases ≡ f = mod-mul-add b.0 P.rule.phases f h in
    reader_is P f c a.0 b.0 d.0 g.0 w.0 w.2 opened e
    (listed_at P f a.0 (b.0 * P.rule.phases + f) d.0 g.0 w.0 (turn_field P.last P.rule.phases b.0 f (below_has _ b.0 b.1) h opened) e (below_has _ a.0 a.1) (below_has _ d.0 d.1) (below_has _ g.0 g.1) (place_has P f w.0 w.1))

pub phase_of_next : (o : Option ℕ) (n x : ℕ) → 0 < n → next_by o n x % n ≡ following n (x % n)
phase_of_next (Some l) n x some = mod-suc n x some
phase_of_next None n x some =
    elim (following_cases (3 * n) x) [
      | inl w ↦ ap (λ y. y % n) w.1 ∙ (let z : 0 % n ≡ 0 = omega arith in z) ∙ sym (mod-mul-add 3 n 0 some) ∙ ap (λ y. y % n) (let e : 3 * n + 0 ≡ suc x = (let v = w.0 in omega arith) in e) ∙ mod-suc n x some
      | inr w ↦ ap (λ y. y % n) w.1 ∙ mod-suc n x some
    ]

-- what is listed beside a reader is what it sees
sights_has : (P : Protocol) → 0 < P.rule.phases → (f : ℕ) (r : Code) (s : Seen) → IsCode P.rule P.last r → OpenBy P.last r.generation → r.generation % P.rule.phases ≡ f → Has (sights_of P f r) s → (sight P r s.mark ≡ Some s.value) × IsMark P s.mark
sights_has P some f r s is opened e h =
    elim (has_cons (record { mark = Frame (beside P.rule.degree r.colour r.reads); value = P.edge }) _ s h) [
      | inl q ↦ subst (λ x. (sight P r x.mark ≡ Some x.value) × IsMark P x.mark) (sym q) (frame_seen P r (beside P.rule.degree r.colour r.reads) refl, beside_below P.rule.degree r.colour r.reads)
      | inr t ↦ elim (has_append (map (λ c. let x : Seen = record { mark = Cell c; value = c.current } in x) (codes_of P f r.generation (beside P.rule.degree r.colour r.reads))) _ s t) [
        | inl a ↦
            let w = map_has (λ (c : Code). let x : Seen = record { mark = Cell c; value = c.current } in x) (codes_of P f r.generation (beside P.rule.degree r.colour r.reads)) s a in
            let k = codes_has P f r.generation (beside P.rule.degree r.colour r.reads) w.0 is.generation_within e (beside_below P.rule.degree r.colour r.reads) w.1 in
            subst (λ x. (sight P r x.mark ≡ Some x.value) × IsMark P x.mark) (sym w.2) (same_seen P r w.0 k.1 k.0, k.2)
        | inr b ↦
            let w = map_has (λ (c : Code). let x : Seen = record { mark = Cell c; value = c.previous } in x) (codes_of P (following P.rule.phases f) (next_field P r.generation) (beside P.rule.degree r.colour r.reads)) s b in
            let k = codes_has P (following P.rule.phases f) (next_field P r.generation) (beside P.rule.degree r.colour r.reads) w.0 (next_within P.last P.rule.phases r.generation some is.generation_within opened) (phase_of_next P.last P.rule.phases r.generation some ∙ ap (following P.rule.phases) e) (beside_below P.rule.degree r.colour r.reads) w.1 in
            subst (λ x. (sight P r x.mark ≡ Some x.value) × IsMark P x.mark) (sym w.2) (next_seen P some r w.0 k.1 k.0, k.2)
      ]
    ]

has_sight : (P : Protocol) → 0 < P.rule.phases → (r : Code) (m : Mark) (v : ℕ) → IsMark P m → sight P r m ≡ Some v → Has (sights_of P (phase P.rule r.generation) r) (record { mark = m; value = v })
has_sight P some r (Frame k) v is e =
    let w = sight_frame P r k v e in
    (0, ap (λ x. Some (let y : Seen = record { mark = Frame x; value = P.edge } in y)) (sym w.0) ∙ ap (λ x. Some (let y : Seen = record { mark = Frame k; value = x } in y)) (sym w.1))
has_sight P some r (Cell n) v is e =
    let w = sight_cell P r n v e in
    let f : ℕ = phase P.rule r.generation in
    elim w.1 [
      | inl h ↦
          let a : Has (codes_of P f n.generation n.colour) n = has_code P f n is (ap (λ x. x % P.rule.phases) h.0) in
          let b : Has (codes_of P f r.generation (beside P.rule.degree r.colour r.reads)) n = subst (λ x. Has (codes_of P f r.generation x) n) w.0 (subst (λ x. Has (codes_of P f x n.colour) n) h.0 a) in
          let c : Has (map (λ (c : Code). let x : Seen = record { mark = Cell c; value = c.current } in x) (codes_of P f r.generation (beside P.rule.degree r.colour r.reads))) (record { mark = Cell n; value = n.current }) = has_map (λ (c : Code). let x : Seen = record { mark = Cell c; value = c.current } in x) _ n b in
          let d : Has (sights_of P f r) (record { mark = Cell n; value = n.current }) = has_later _ _ _ (has_left _ _ _ c) in
          subst (λ x. Has (sights_of P f r) (record { mark = Cell n; value = x })) (sym h.1) d
      | inr h ↦
          let a : Has (codes_of P (following P.rule.phases f) n.generation n.colour) n = has_code P (following P.rule.phases f) n is (ap (λ x. x % P.rule.phases) h.0 ∙ phase_of_next P.last P.rule.phases r.generation some) in
          let b : Has (codes_of P (following P.rule.phases f) (next_field P r.generation) (beside P.rule.degree r.colour r.reads)) n = subst (λ x. Has (codes_of P (following P.rule.phases f) (next_field P r.generation) x) n) w.0 (subst (λ x. Has (codes_of P (following P.rule.phases f) x n.colour) n) h.0 a) in
          let c : Has (map (λ (c : Code). let x : Seen = record { mark = Cell c; value = c.previous } in x) (codes_of P (following P.rule.phases f) (next_field P r.generation) (beside P.rule.degree r.colour r.reads))) (record { mark = Cell n; value = n.previous }) = has_map (λ (c : Code). let x : Seen = record { mark = Cell c; value = c.previous } in x) _ n b in
          let d : Has (sights_of P f r) (record { mark = Cell n; value = n.previous }) = has_later _ _ _ (has_right _ _ _ c) in
          subst (λ x. Has (sights_of P f r) (record { mark = Cell n; value = x })) (sym h.1) d
    ]

pub holds_reads : (P : Protocol) → 0 < P.rule.phases → WholeBy P.last P.rule.phases → HoldsReads P (sync_rules P)
unfolding rules_of
holds_reads P some whole = record {
  only = λ k r e.
      let a = flat_has (λ f. flat_map (rules_of P f) (readers_of P f)) (below P.rule.phases) r (k, e) in
      let b = flat_has (rules_of P a.0) (readers_of P a.0) r a.2 in
      let s = map_has (λ s. read_rule P b.0 s.mark s.value) (sights_of P a.0 b.0) r b.2 in
      let is = readers_has P some whole a.0 b.0 (below_has _ a.0 a.1) b.1 in
      let t = sights_has P some a.0 b.0 s.0 is.1 is.0 is.2 s.1 in
      (b.0, s.0.mark, s.0.value, t.0, s.2, is.0, is.1, t.1);
  each = λ c m v is opened ism saw.
      let f : ℕ = phase P.rule c.generation in
      has_flat (λ f. flat_map (rules_of P f) (readers_of P f)) (below P.rule.phases) f _ (has_below _ f (mod_below c.generation P.rule.phases some))
      (has_flat (rules_of P f) (readers_of P f) c _ (has_reader P some whole c is opened)
      (has_map (λ s. read_rule P c s.mark s.value) (sights_of P f c) (record { mark = m; value = v }) (has_sight P some c m v ism saw)));
}
