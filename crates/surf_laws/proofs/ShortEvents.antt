-- The numbers of a run's events are at most 4,294,967,295.
use Rattle.std.proofs.Common.{ℕ, ◌≡◌, ◌^◌, ◌<◌, ◌≤◌, ◌*◌, List, [], ◌∷◌, length, refl, arith, Option, Some, None, All, IfSome}
use Rattle.std.specs.Prelude.{slice_get}
use Rattle.std.proofs.Math.Nat.{mul-le-mul_left, mul-le-mul_right}
use Rattle.std.proofs.lemmas.List.Elements.{All-nil, All-cons}
use Rattle.std.proofs.lemmas.Option.{slice_get_within}
use Rattle.surf_lattice.specs.declared.site.Site.{Site}
use Rattle.surf_world.specs.declared.event.Event.{Event}
use Rattle.surf_world.specs.Systems.{Rule, Surface, FitsSecond, Fits, IsRun, after}
use Rattle.surf_manifest.specs.Grammar.{ManifestText}
use Rattle.surf_manifest.specs.WellFormed.{IsWellFormed}
use Rattle.surf_trace.specs.TraceTexts.{IsShortSite, IsShort}

record IsSmall (S : Surface (List ℕ)) : Type 0 where
  pub width : S.grid.width < 2 ^ 32
  pub height : S.grid.height < 2 ^ 32
  pub rules : length S.rules < 2 ^ 32

module _ (S : Surface (List ℕ)) (small : IsSmall S) where
  second_short : (c : List (List ℕ)) (p : Site) (b : Option (List ℕ)) (q : Option Site) → FitsSecond S.grid c p b q → IfSome q IsShortSite
  second_short c p None None h = tt
  second_short c p None (Some q) h = absurd h
  second_short c p (Some b) None h = tt
  second_short c p (Some b) (Some q) h =
      let x = h.1.0.0 in
      let y = h.1.0.1 in
      let w = small.width in
      let t = small.height in
      (omega (arith, x, w), omega (arith, y, t))

  event_short : (c : List (List ℕ)) (e : Event) (o : Option (Rule (List ℕ))) → slice_get S.rules e.rule ≡ o → Fits S.grid c e o → IsShort e
  event_short c e None is h = absurd h
  event_short c e (Some r) is h =
      let n = slice_get_within S.rules e.rule r is in
      let k = small.rules in
      let x = h.1.0.0 in
      let y = h.1.0.1 in
      let w = small.width in
      let t = small.height in
      (omega (arith, n, k), (omega (arith, x, w), omega (arith, y, t)), second_short c e.first r.right e.second h.2)

  run_short : (c : List (List ℕ)) (es : List Event) → IsRun S c es → All IsShort es
  run_short c [] run = All-nil IsShort
  run_short c (e ∷ es) run = All-cons IsShort e es (event_short c e (slice_get S.rules e.rule) refl run.0) (run_short (after S c e) es run.1)

is_small : (m : ManifestText) → IsWellFormed m → IsSmall m.system.surface
is_small m w =
    let g = m.system.surface.grid in
    let sites = w.sites in
    let few = w.few_sites in
    let rules = w.few_rules in
    let wide : g.width * 1 ≤ g.width * g.height = mul-le-mul_left g.width w.height in
    let high : 1 * g.height ≤ g.width * g.height = mul-le-mul_right g.height w.width in
    record { width = omega (arith, wide, sites, few); height = omega (arith, high, sites, few); rules = omega (arith, rules) }

pub events_short : (m : ManifestText) (es : List Event) → IsWellFormed m → IsRun m.system.surface m.system.start es → All IsShort es
events_short m es w run = run_short m.system.surface (is_small m w) m.system.start es run
