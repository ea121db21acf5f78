-- A layout whose law holds over places settles.
use Rattle.std.proofs.Common.{◌≡◌, ℕ, zero, suc, ◌+◌, Bool, true, false, cond, Some, List, [], ◌∷◌, length, map, sum, get_or, refl, sym, ap, ◌∙◌, subst, ◌⊎◌, inl, inr, arith}
use Rattle.std.specs.Prelude.{slice_get}
use Rattle.std.proofs.lemmas.List.Sums.{sum-map, sum_by-cons}
use Rattle.std.proofs.lemmas.Option.{get_or_from_slice_get, slice_get_within}
use Rattle.surf_tiles.specs.declared.kind.Kind.{Kind}
use Rattle.surf_tiles.specs.declared.kind.Kind.TheVariants.{Wire}
use Rattle.surf_settle.specs.Ways.{Way, Plain, wants}
use Rattle.surf_tiles.specs.declared.state.State.{State}
use Rattle.surf_tiles.specs.declared.state.State.TheVariants.{Dot, Bit, BlankWire}
use Rattle.surf_settle.proofs.Shown.{shown}
use Rattle.surf_tiles.specs.Kinds.{changes_of, blank, name_of}
use Rattle.surf_tiles.specs.States.{digit, spell}
use Rattle.surf_tiles.specs.Reactions.{reactions}
use Rattle.surf_settle.proofs.Runs.{IsStuck}
use Rattle.surf_world.specs.Systems.{IsRun, Stuck, left_by}
use Rattle.surf_world.specs.declared.event.Event.{Event}
use Rattle.surf_settle.proofs.Squares.{place_of, Near}
use Rattle.surf_tiles.specs.Netlists.{net_meaning, value_in}
use Rattle.surf_settle.specs.Settling.{surface_of, with_inputs, start_of, names_after, IsRunOf, IsDone, FilledRight, slot_value, wire_name, Settles}
use Rattle.surf_settle.proofs.Spelling.{numbered}
use Rattle.surf_settle.proofs.Lifted.{lowered_run, lowered_stuck, get_spelled, spelled_get}
use Rattle.surf_settle.proofs.Tables.{tally_none}
use Rattle.surf_settle.proofs.Filled.{shown_value}
use Rattle.surf_settle.proofs.Held.{Holds, name_at, total, tally_at, sum_below, sum_same}
use Rattle.surf_settle.proofs.Settled.{ran, all_read, all_changes, total-le, total_settled, same_settled, stands}
use Rattle.surf_settle.proofs.Values.{valued, value_kept}
use Rattle.surf_settle.proofs.Start.{put_states, inputs_spelled, Agrees, start_holds}
use Rattle.surf_settle.specs.Law.{kind_at, Plan, grid_of}
use Rattle.surf_settle.proofs.Places.{Lists, fed_value, PlaceLaw}

map-spelled : (kinds : List Kind) → map name_of kinds ≡ map spell (map blank kinds)
map-spelled [] = refl
map-spelled (k ∷ kinds) = ap (λ (t : List (List ℕ)). name_of k ∷ t) (map-spelled kinds)

sum_from_front : (f : ℕ → ℕ) (n : ℕ) → sum_below f (suc n) ≡ f 0 + sum_below (λ k. f (suc k)) n
sum_from_front f zero = omega arith
sum_from_front f (suc n) = omega (arith, sum_from_front f n)

changes_summed : (kinds : List Kind) → sum (map changes_of kinds) ≡ all_changes kinds
changes_summed [] = refl
changes_summed (k ∷ kinds) = sum-map changes_of (k ∷ kinds) ∙ sum_by-cons changes_of k kinds ∙ ap (λ (n : ℕ). changes_of k + n) (sym (sum-map changes_of kinds)) ∙ ap (λ (n : ℕ). changes_of k + n) (changes_summed kinds) ∙ sym (sum_from_front (λ q. changes_of (kind_at (k ∷ kinds) q)) (length kinds))

sum_none : (n : ℕ) → sum_below (λ k. 0) n ≡ 0
sum_none zero = refl
sum_none (suc n) = omega (arith, sum_none n)

total_none : (kinds : List Kind) → total kinds (λ q i. false) ≡ 0
total_none kinds = sum_same (tally_at kinds (λ q i. false)) (λ k. 0) (length kinds) (λ k b. tally_none (kind_at kinds k)) ∙ sum_none (length kinds)

agrees : (L : Plan) (l : Lists) (bits : List Bool) → length bits ≡ L.netlist.inputs → PlaceLaw L l → Agrees L.width (λ p. value_in (net_meaning L.netlist bits) (l.net p false)) L.inputs bits
agrees L l bits long law = record {
  at = λ i s b e f.
      ap (value_in (net_meaning L.netlist bits)) (law.input i s e).1 ∙ value_kept L.netlist.gates bits i (slice_get_within bits i b f) ∙ get_or_from_slice_get bits i b false f;
}

-- what a run of the surface leaves
record Ended (L : Plan) (l : Lists) (val : ℕ → Bool) (es : List Event) (end : List (List ℕ)) : Type 0 where
  final : List State
  spelled : end ≡ map spell final
  read : ℕ → Bool → Bool
  holds : Holds L.kinds l val read final
  counted : total L.kinds read ≡ length es

start_spelled : (L : Plan) (bits : List Bool) → start_of L bits ≡ map spell (put_states L.width (map blank L.kinds) L.inputs bits)
start_spelled L bits =
    ap (λ (x : List (List ℕ)). with_inputs (grid_of L) x L.inputs bits) (map-spelled L.kinds) ∙ inputs_spelled L.width L.height (map blank L.kinds) L.inputs bits

ended_from : (L : Plan) (l : Lists) (bits : List Bool) → length bits ≡ L.netlist.inputs → PlaceLaw L l → (es : List Event) → IsRun (surface_of L) (map spell (put_states L.width (map blank L.kinds) L.inputs bits)) es →
    Ended L l (value_in (net_meaning L.netlist bits)) es (left_by (surface_of L) (map spell (put_states L.width (map blank L.kinds) L.inputs bits)) es)
ended_from L l bits long law es r =
    let c0 : List State = put_states L.width (map blank L.kinds) L.inputs bits in
    let low = lowered_run L.width L.height reactions c0 es r in
    let done = ran L.kinds (Near L.width L.height) l (value_in (net_meaning L.netlist bits)) (λ q i. false) c0 low.events low.final law.wired (valued L l bits law.ordered long law)
    (start_holds L l (value_in (net_meaning L.netlist bits)) bits law long (agrees L l bits long law)) low.run in
    record { final = low.final; spelled = low.spelled; read = done.more; holds = done.holds; counted = done.counted ∙ omega (arith, total_none L.kinds, low.long) }

ended : (L : Plan) (l : Lists) (bits : List Bool) → length bits ≡ L.netlist.inputs → PlaceLaw L l → (es : List Event) → IsRunOf L bits es → Ended L l (value_in (net_meaning L.netlist bits)) es (names_after L bits es)
ended L l bits long law es r =
    let e = start_spelled L bits in
    subst (λ (x : List (List ℕ)). Ended L l (value_in (net_meaning L.netlist bits)) es (left_by (surface_of L) x es)) (sym e)
    (ended_from L l bits long law es (subst (λ (x : List (List ℕ)). IsRun (surface_of L) x es) e r))

wire_shows : (L : Plan) (l : Lists) (val : ℕ → Bool) (read : ℕ → Bool → Bool) (c : List State) (p : ℕ) (b : Bool) → Holds L.kinds l val read c → kind_at L.kinds p ≡ Wire → read p false ≡ b → get_or c p Dot ≡ cond b (Bit (val (l.net p false))) BlankWire
wire_shows L l val read c p b holds k e =
    holds.named p ∙ ap (λ (x : _). shown x (read p false) (read p true) (val (l.net p false)) (val (l.net p true)) (fed_value val l p false) (fed_value val l p true)) k ∙ ap (λ (x : Bool). cond x (Bit (val (l.net p false))) BlankWire) e

bit_not_dot : (b : Bool) → Bit b ≡ Dot → ⊥
bit_not_dot b e = absurd cc

wire_not_dot : BlankWire ≡ Dot → ⊥
wire_not_dot e = absurd cc

shows_or_blank : (L : Plan) (l : Lists) (val : ℕ → Bool) (read : ℕ → Bool → Bool) (c : List State) (p net : ℕ) (b : Bool) → Holds L.kinds l val read c → kind_at L.kinds p ≡ Wire → l.net p false ≡ net → read p false ≡ b →
    (slice_get (map spell c) p ≡ Some wire_name) ⊎ (slice_get (map spell c) p ≡ Some (digit (val net) ∷ []))
shows_or_blank L l val read c p net true holds k n e = inr (rw (← n) (get_spelled c p (Bit (val (l.net p false))) (stands c p _ (wire_shows L l val read c p true holds k e) (bit_not_dot _))))
shows_or_blank L l val read c p net false holds k n e = inl (get_spelled c p BlankWire (stands c p _ (wire_shows L l val read c p false holds k e) wire_not_dot))

shows_settled : (L : Plan) (l : Lists) (val : ℕ → Bool) (read : ℕ → Bool → Bool) (c : List State) (p net : ℕ) → Holds L.kinds l val read c → kind_at L.kinds p ≡ Wire → l.net p false ≡ net → read p false ≡ true →
    slice_get (map spell c) p ≡ Some (digit (val net) ∷ [])
shows_settled L l val read c p net holds k n e = rw (← n) (get_spelled c p (Bit (val (l.net p false))) (stands c p _ (wire_shows L l val read c p true holds k e) (bit_not_dot _)))

stuck_states : (L : Plan) (l : Lists) (val : ℕ → Bool) (es : List Event) (end : List (List ℕ)) (h : Ended L l val es end) → Stuck (surface_of L) end → IsStuck (Near L.width L.height) h.final
stuck_states L l val es end h stuck =
    lowered_stuck L.width L.height reactions h.final numbered (subst (λ (x : List (List ℕ)). Stuck (surface_of L) x) h.spelled stuck)

-- all is read where the run can't go on
done_reads : (L : Plan) (l : Lists) (bits : List Bool) (long : length bits ≡ L.netlist.inputs) (law : PlaceLaw L l) (es : List Event) (done : IsDone L bits es) (q : ℕ) (j : Bool) (w : Way) → wants (kind_at L.kinds q) j ≡ Some w →
    let h = ended L l bits long law es done.0 in cond j (h.read q true) (h.read q false) ≡ true
done_reads L l bits long law es done q j w n =
    let h = ended L l bits long law es done.0 in
    all_read L.kinds (Near L.width L.height) l (value_in (net_meaning L.netlist bits)) h.read h.final law.wired h.holds (stuck_states L l (value_in (net_meaning L.netlist bits)) es (names_after L bits es) h done.1) q j w n

-- a filled slot holds the value of its net
pub placed_filled : (L : Plan) (bits : List Bool) (l : Lists) → length bits ≡ L.netlist.inputs → PlaceLaw L l → (es : List Event) → IsRunOf L bits es → (p : ℕ) (name : State) → slice_get (names_after L bits es) p ≡ Some (spell name) →
    (down v : Bool) → slot_value name down ≡ Some v → v ≡ value_in (net_meaning L.netlist bits) (l.net p down)
placed_filled L bits l long law es r p name at down v filled =
    let val : ℕ → Bool = value_in (net_meaning L.netlist bits) in
    let h = ended L l bits long law es r in
    let here : get_or h.final p Dot ≡ name = get_or_from_slice_get h.final p name Dot (spelled_get h.final p name (ap (λ (c : List (List ℕ)). slice_get c p) (sym h.spelled) ∙ at)) in
    let shows : name ≡ name_at L.kinds l val h.read p = sym here ∙ h.holds.named p in
    shown_value down (kind_at L.kinds p) (h.read p false) (h.read p true) (val (l.net p false)) (val (l.net p true)) (fed_value val l p false) (fed_value val l p true) v
    (valued L l bits law.ordered long law p) (ap (λ (s : State). slot_value s down) (sym shows) ∙ filled)
    ∙ chosen val l p down
  where
    chosen : (val : ℕ → Bool) (l : Lists) (p : ℕ) (down : Bool) → cond down (val (l.net p true)) (val (l.net p false)) ≡ val (l.net p down)
    chosen val l p true = refl
    chosen val l p false = refl

pub placed_settles : (L : Plan) (bits : List Bool) (l : Lists) → length bits ≡ L.netlist.inputs → PlaceLaw L l → FilledRight L bits → Settles L bits
placed_settles L bits l long law right = record {
  filled = right;
  at_most = λ es r.
      let h = ended L l bits long law es r in
      let t = total-le L.kinds h.read in
      let e = changes_summed L.kinds in
      omega (arith, t, e, h.counted);
  safe = λ es r i s net o n.
      let h = ended L l bits long law es r in
      let k = law.output i s net o n in
      subst (λ (c : List (List ℕ)). (slice_get c (place_of L.width s) ≡ Some wire_name) ⊎ (slice_get c (place_of L.width s) ≡ Some (digit (value_in (net_meaning L.netlist bits) net) ∷ []))) (sym h.spelled)
      (shows_or_blank L l _ h.read h.final (place_of L.width s) net (h.read (place_of L.width s) false) h.holds k.0 k.1 refl);
  exactly = λ es done.
      let h = ended L l bits long law es done.0 in
      sym h.counted ∙ total_settled L.kinds h.read (done_reads L l bits long law es done) ∙ sym (changes_summed L.kinds);
  settled = λ es done i s net o n.
      let h = ended L l bits long law es done.0 in
      let k = law.output i s net o n in
      subst (λ (c : List (List ℕ)). slice_get c (place_of L.width s) ≡ Some (digit (value_in (net_meaning L.netlist bits) net) ∷ [])) (sym h.spelled)
      (shows_settled L l _ h.read h.final (place_of L.width s) net h.holds k.0 k.1 (done_reads L l bits long law es done (place_of L.width s) false Plain (ap (λ (x : _). wants x false) k.0)));
  one_end = λ es es' done done'.
      let h = ended L l bits long law es done.0 in
      let h' = ended L l bits long law es' done'.0 in
      h.spelled ∙ ap (map spell) (same_settled L.kinds l (value_in (net_meaning L.netlist bits)) h.read h'.read h.final h'.final h.holds h'.holds (done_reads L l bits long law es done) (done_reads L l bits long law es' done')) ∙ sym h'.spelled;
}
