-- What is kept beside a netlist, net by net.
use Rattle.std.proofs.Common.{◌≡◌, ℕ, ◌<◌, ◌≤◌, List, map, length, get_or, ap, ◌∙◌, arith}
use Rattle.std.specs.List.{range_with_len}
use Rattle.std.proofs.lemmas.List.FromFn.{length-map-range_with_len, get_or-map-range_with_len}
use Rattle.surf_tiles.specs.Netlists.{NetlistOf, nets_of}
use Rattle.surf_lanes.specs.Lanes.{LanesOf, lane_at}
use Rattle.surf_lanes.proofs.Overlaps.{lane_below}
use Rattle.surf_place.specs.Placed.{IsLaid, IsPlaced, net_spans}
use Rattle.surf_place.proofs.Lanes.{packed_placement, net_spans_long, net_spans_ordered}

-- a list with one number for each net
pub record IsTable (N : NetlistOf) (f : ℕ → ℕ) (xs : List ℕ) : Type 0 where
  pub long : length xs ≡ nets_of N
  pub at : (n : ℕ) (d : ℕ) → n < nets_of N → get_or xs n d ≡ f n

pub table_of : (N : NetlistOf) (f : ℕ → ℕ) (xs : List ℕ) → xs ≡ map f (range_with_len 0 (nets_of N)) → IsTable N f xs
table_of N f xs is = record {
  long = ap length is ∙ length-map-range_with_len f 0 (nets_of N);
  at = λ n d b. ap (λ (l : List ℕ). get_or l n d) is ∙ get_or-map-range_with_len f 0 (nets_of N) n n d b (omega arith);
}

pub placed : (N : NetlistOf) (rows : ℕ) (source last : List ℕ) (lanes : LanesOf) → IsLaid N rows source last lanes → IsPlaced (record { netlist = N; lanes = lanes })
placed N rows source last lanes laid = record {
  drawable = laid.drawable;
  law = laid.law;
  placement = packed_placement N laid.drawable.netlist lanes laid.law;
}

pub record HasColumn (N : NetlistOf) (lanes : LanesOf) (n : ℕ) : Type 0 where
  pub within : n < length lanes.lane
  pub below : lane_at lanes n < lanes.count
  pub few : lanes.count ≤ 1000

pub columns_few : (N : NetlistOf) (rows : ℕ) (source last : List ℕ) (lanes : LanesOf) → IsLaid N rows source last lanes → lanes.count ≤ 1000
columns_few N rows source last lanes laid =
    let p = packed_placement N laid.drawable.netlist lanes laid.law in
    let f = p.few in
    let g = laid.drawable.few in omega (arith, f, g)

pub has_column : (N : NetlistOf) (rows : ℕ) (source last : List ℕ) (lanes : LanesOf) (n : ℕ) → IsLaid N rows source last lanes → n < nets_of N → HasColumn N lanes n
has_column N rows source last lanes n laid b =
    let e = net_spans_long N in
    record {
      within = (let m = laid.law.laned.as_many in omega (arith, m, e, b));
      below = lane_below (net_spans N) lanes (net_spans_ordered N laid.drawable.netlist) laid.law n (omega (arith, e, b));
      few = columns_few N rows source last lanes laid;
    }
