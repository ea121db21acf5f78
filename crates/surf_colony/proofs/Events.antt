-- What an enabled event of a colony is: one cell's read.
use Rattle.std.specs.Prelude.{slice_get}
use Rattle.std.proofs.Common.{◌≡◌, ℕ, List, set, Option, Some, None, refl, ap, ◌∙◌, subst}
use Rattle.surf_lattice.specs.declared.site.Site.{Site}
use Rattle.surf_lattice.specs.Grids.{Grid, IsInside, Adjacent, place}
use Rattle.surf_world.specs.declared.event.Event.{Event}
use Rattle.surf_world.specs.Systems.{Rule, System, Fits, FitsSecond, Enabled, after, with_rule, with_second}
use Rattle.surf_sync.specs.declared.code.Code.{Code}
use Rattle.surf_sync.specs.Codes.{Mark, sight, read, read_rule, HoldsReads, OpenBy}
use Rattle.surf_sync.specs.Codes.Mark.{Cell}
use Rattle.surf_colony.proofs.Plans.{Plan, protocol_of}

pub record Reading (A : Plan) (S : System Mark) (c : List Mark) (e : Event) : Type 0 where
  pub reader : Code
  pub mark : Mark
  pub value : ℕ
  pub partner : Site
  pub opened : OpenBy A.last reader.generation
  pub saw : sight (protocol_of A) reader mark ≡ Some value
  pub inside : IsInside S.surface.grid e.first
  pub stands : slice_get c (place S.surface.grid e.first) ≡ Some (Cell reader)
  pub beside : Adjacent S.surface.grid e.first partner
  pub marked : slice_get c (place S.surface.grid partner) ≡ Some mark
  pub leaves : after S.surface c e ≡ set (set c (place S.surface.grid e.first) (Cell (read (protocol_of A) reader value))) (place S.surface.grid partner) mark

fits_rule : {N : Type 0} (g : Grid) (c : List N) (e : Event) (o : Option (Rule N)) → Fits g c e o → (r : Rule N) × (o ≡ Some r) × Fits g c e (Some r)
fits_rule g c e None h = absurd h
fits_rule g c e (Some r) h = (r, refl, h)

fits_second : {N : Type 0} (g : Grid) (c : List N) (p : Site) (b : N) (o : Option Site) → FitsSecond g c p (Some b) o → (q : Site) × (o ≡ Some q) × Adjacent g p q × (slice_get c (place g q) ≡ Some b)
fits_second g c p b None h = absurd h
fits_second g c p b (Some q) h = (q, refl, h.0, h.1.1)

pub reading_of : (A : Plan) (S : System Mark) (c : List Mark) (e : Event) → HoldsReads (protocol_of A) S.surface.rules → Enabled S.surface c e → Reading A S c e
reading_of A S c e holds h =
    let w = fits_rule S.surface.grid c e (slice_get S.surface.rules e.rule) h in
    let o = holds.only e.rule w.0 w.1 in
    let is : w.0 ≡ read_rule (protocol_of A) o.0 o.1 o.2 = o.4 in
    let fits : Fits S.surface.grid c e (Some (read_rule (protocol_of A) o.0 o.1 o.2)) = subst (λ r. Fits S.surface.grid c e (Some r)) is w.2 in
    let p = fits_second S.surface.grid c e.first o.1 e.second fits.2 in
    record {
      reader = o.0;
      mark = o.1;
      value = o.2;
      partner = p.0;
      opened = o.5;
      saw = o.3;
      inside = fits.1.0;
      stands = fits.1.1;
      beside = p.2;
      marked = p.3;
      leaves = ap (with_rule S.surface.grid c e) (w.1 ∙ ap Some is) ∙ ap (λ q. with_second S.surface.grid (set c (place S.surface.grid e.first) (Cell (read (protocol_of A) o.0 o.2))) (Some o.1) q) p.1;
    }
