-- No event begins at a site outside.
use Rattle.std.specs.Prelude.{Contains}
use Rattle.std.specs.List.{sum_by}
use Rattle.std.proofs.Common.{ℕ, ◌≡◌, ◌<◌, List, length, ap, subst, nat_eq}
use Rattle.surf_lattice.specs.declared.site.Site.{Site}
use Rattle.surf_lattice.specs.Grids.{IsInside}
use Rattle.surf_world.specs.declared.event.Event.{Event}
use Rattle.surf_world.specs.Systems.{Surface}
use Rattle.surf_world.specs.Choices.{enabled_test, choices_at}
use Rattle.surf_world.specs.Picks.{rate_of, weight_of}
use Rattle.surf_world.proofs.Decisions.{enabled_to, number_to, number_from}
use Rattle.surf_world.proofs.Listed.{fitting, at_passes}
use Rattle.surf_world.proofs.Members.{nothing_in}
use Rattle.surf_world.proofs.Once.{at_first}
use Rattle.surf_world.proofs.Chosen.{pick_has, pick_below}

-- where an event begins, the site is inside
begins_inside : (S : Surface ℕ) (c : List ℕ) (p : Site) (e : Event) → Contains (choices_at nat_eq S c p) e → IsInside S.grid p
begins_inside S c p e has =
    let test = enabled_test nat_eq S c in
    let enabled = enabled_to nat_eq number_to number_from S c e (at_passes test S.grid (length S.rules) p e has) in
    let first = (fitting S c e enabled).first in
    subst (IsInside S.grid) (at_first test S.grid (length S.rules) p e has) first.0

pub weight_outside : (S : Surface ℕ) (c : List ℕ) (p : Site) → (IsInside S.grid p → ⊥) → weight_of S c p ≡ 0
weight_outside S c p out = ap (sum_by (rate_of S)) (nothing_in (choices_at nat_eq S c p) (λ e has. out (begins_inside S c p e has)))

-- a number below the weight chooses an event
pub weight_inside : (S : Surface ℕ) (c : List ℕ) (p : Site) (r : ℕ) → r < weight_of S c p → IsInside S.grid p
weight_inside S c p r lt =
    let m = pick_below (rate_of S) (choices_at nat_eq S c p) r lt in
    begins_inside S c p m.0 (pick_has (rate_of S) (choices_at nat_eq S c p) r m.0 m.1)
