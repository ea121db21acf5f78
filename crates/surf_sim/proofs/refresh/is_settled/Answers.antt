use Rattle.std.proofs.Common.{rules, ◌≡◌, Bool, true, false, not, Some, refl}
use Rattle.std.proofs.lemmas.Bool.{false≢true}
use Rattle.surf_world.proofs.Singles.{book_single}
use Rattle.surf_sim.proofs.refresh.is_settled.Goals as goal

not_true : (b : Bool) → not b ≡ true → b ≡ false
not_true false t = refl
not_true true t = absurd (false≢true t)

pub returns : goal.returns
returns g c = λ t.
    let apart : c.args.changed ≡ Some c.args.site → ⊥ = search rules in (
      c.at.result,
      c.at.ensures,
      book_single c.book.result.now c.args.world.now.surface.rules c.at.result c.is_paired.result c.book.ensures.rules c.is_paired.ensures (not_true c.is_paired.result t),
      apart,
    )
