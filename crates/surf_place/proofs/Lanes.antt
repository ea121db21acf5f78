-- Packed lanes are a placement.
use Rattle.std.proofs.Common.{◌≡◌, ℕ, ◌<◌, ◌≤◌, length, sym, ap, subst, inl, inr, arith}
use Rattle.std.proofs.lemmas.List.FromFn.{length-map-range_with_len, get_or-map-range_with_len}
use Rattle.std.proofs.lemmas.Bool.{cases_lt}
use Rattle.surf_tiles.specs.Netlists.{NetlistOf, nets_of, IsNetlist}
use Rattle.surf_lanes.specs.declared.lanes.Span.{Span}
use Rattle.surf_lanes.specs.Lanes.{span_at, IsIn, holds_row, IsInOrder, LanesOf, IsPacked}
use Rattle.surf_lanes.proofs.Overlaps.{tally-le, lane_below, lanes_apart}
use Rattle.surf_place.specs.Drawing.{net_of, rows_of, source_row, last_row, HasRow, IsPlacement}
use Rattle.surf_place.specs.Placed.{net_spans, packed}
use Rattle.surf_place.proofs.Rows.{begun_past}
use Rattle.surf_place.proofs.Nets.{begun_here, has_source, reaches}

-- the spans of a netlist's nets
net_span : (N : NetlistOf) (n : ℕ) → n < nets_of N → span_at (net_spans N) n ≡ record { from = source_row N n; to = last_row N n }
net_span N n b = get_or-map-range_with_len (λ x. record { from = source_row N x; to = last_row N x }) 0 (nets_of N) n n _ b (omega arith)

pub net_spans_long : (N : NetlistOf) → length (net_spans N) ≡ nets_of N
net_spans_long N = length-map-range_with_len _ 0 (nets_of N)

in_span : (N : NetlistOf) (n r : ℕ) → n < nets_of N → HasRow N n r → IsIn r (span_at (net_spans N) n)
in_span N n r b h = subst (IsIn r) (sym (net_span N n b)) h

-- the nets begin in order
sources_ordered : (N : NetlistOf) → IsNetlist N → (m n : ℕ) → m < n → n < nets_of N → source_row N m ≤ source_row N n
sources_ordered N good m n b c =
    elim (cases_lt (source_row N n) (source_row N m)) as (λ x. source_row N m ≤ source_row N n) [
      | inl l ↦ absurd (
          let s = has_source N good n c in
          let s' = has_source N good m (omega arith) in
          let past = begun_past 0 (rows_of N) (source_row N n) (source_row N m) n s.device l s.is in
          let k = begun_here N good (source_row N n) n s.device s.within s.is in
          let k' = begun_here N good (source_row N m) m s'.device s'.within s'.is in omega (arith, past, k, k', b))
      | inr l ↦ l
    ]

pub net_spans_ordered : (N : NetlistOf) → IsNetlist N → IsInOrder (net_spans N)
net_spans_ordered N good = record {
  ordered = λ j i b c.
      let l = net_spans_long N in
      let e : i < nets_of N = omega (arith, l, c) in
      let o = sources_ordered N good j i b e in
      let f : (span_at (net_spans N) j).from ≡ source_row N j = ap (λ (x : Span). x.from) (net_span N j (omega (arith, b, e))) in
      let g : (span_at (net_spans N) i).from ≡ source_row N i = ap (λ (x : Span). x.from) (net_span N i e) in omega (arith, o, f, g);
  forward = λ i c.
      let l = net_spans_long N in
      let e : i < nets_of N = omega (arith, l, c) in
      let s = has_source N good i e in
      let t = reaches N i (source_row N i) s.within (ap net_of s.is) in
      let o = t.reaches in
      let f : (span_at (net_spans N) i).from ≡ source_row N i = ap (λ (x : Span). x.from) (net_span N i e) in
      let g : (span_at (net_spans N) i).to ≡ last_row N i = ap (λ (x : Span). x.to) (net_span N i e) in omega (arith, o, f, g);
}

-- packed lanes are a placement
pub packed_placement : (N : NetlistOf) → IsNetlist N → (l : LanesOf) → IsPacked (net_spans N) l → IsPlacement N (packed l)
packed_placement N good l law = record {
  few = (let t = tally-le (holds_row (net_spans N) l.row) (length (net_spans N)) in let e = net_spans_long N in let r = law.reached in omega (arith, t, e, r));
  inside = λ n b. (omega arith, (let e = net_spans_long N in let o = lane_below (net_spans N) l (net_spans_ordered N good) law n (omega (arith, e, b)) in omega (arith, o)));
  apart = λ m n r b c e h k. let f = net_spans_long N in lanes_apart (net_spans N) l law.laned m n r (omega (arith, f, b)) (omega (arith, f, c)) (in_span N m r b h) (in_span N n r c k) (omega (arith, e));
}
