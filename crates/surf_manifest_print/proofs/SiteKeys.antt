-- Keys of sites, compared by rows and then by columns.
use Rattle.std.proofs.Common.{ℕ, ◌≡◌, Bool, true, false, cond, ◌&&◌, ◌||◌, ◌==◌, refl, ◌∙◌, ap}
use Rattle.std.specs.declared.cmp.Ordering.{Ordering}
use Rattle.std.specs.declared.cmp.Ordering.TheVariants.{Less, Equal, Greater}
use Rattle.std.specs.Ordering.{nat_cmp, ordering_then, is_eq}
use Rattle.std.specs.Cmp.{unsigned_tied}
use Rattle.surf_manifest_print.specs.LegendReadings.{key_cmp}

then_equal : (o r : Ordering) → is_eq (ordering_then o r) ≡ (is_eq o && is_eq r)
then_equal Less r = refl
then_equal Equal r = refl
then_equal Greater r = refl

cond_or : (u v : Bool) → cond u true v ≡ (u || v)
cond_or true v = refl
cond_or false v = refl

pub with_key : (y x row column : ℕ) (rest : Bool) → cond (is_eq (key_cmp (y, x) (row, column))) true rest ≡ (((y == row) && (x == column)) || rest)
with_key y x row column rest =
    ap (λ u. cond u true rest) (then_equal (nat_cmp y row) (nat_cmp x column))
    ∙ (ap (λ u. cond (u && is_eq (nat_cmp x column)) true rest) (unsigned_tied y row)
    ∙ (ap (λ u. cond ((y == row) && u) true rest) (unsigned_tied x column) ∙ cond_or ((y == row) && (x == column)) rest))
