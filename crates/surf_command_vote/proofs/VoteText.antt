-- The text of a vote spells a universe.
use Rattle.std.proofs.Common.{ℕ, ◌≡◌, ◌≤◌, ◌==◌, ◌&&◌, Bool, true, false, not, List, Result, Ok, Err, is_ok, refl, sym, ◌∙◌, ap}
use Rattle.std.specs.Fmt.{digits}
use Rattle.std.proofs.lemmas.Bool.{and_parts, eqb-true, false≢true}
use Rattle.surf_demo.specs.Votes.{vote_text}
use Rattle.surf_demo.proofs.UpTo.{holds_at, holds_to}
use Rattle.surf_auto.specs.Lines.{is_table}
use Rattle.surf_auto.specs.Sync.{Universe}
use Rattle.surf_auto.specs.declared.error.SourceError.{SourceError}
use Rattle.surf_auto.specs.declared.error.SourceError.TheVariants as errors
use Rattle.surf_rle.specs.Rle.{Refuses, rle_of}
use Rattle.surf_lattice.specs.Grids.{Grid}
use Rattle.surf_auto.specs.Counts.{Counts}
use Rattle.surf_rle.specs.Sources.{Source, Plain, Eight}

-- a universe of n by n cells that see the neighbours of their grid
abbrev is_square : Result Source SourceError → ℕ → Bool
is_square (Ok (Plain U)) n = (U.grid.width == n) && (U.grid.height == n)
is_square (Ok (Eight rule grid cells)) n = false
is_square (Err e) n = false

abbrev is_spelled : ℕ → Bool
is_spelled n = not (is_table (vote_text n)) && is_square (rle_of 0 (vote_text n)) n

-- by computing each of them
computed : holds_to is_spelled 64 ≡ true
unfolding digits
computed = refl

-- what a text spells: a universe of n by n cells
pub record Spells (n : ℕ) (r : Result Source SourceError) : Type 0 where
  pub universe : Universe
  pub is : r ≡ Ok (Plain universe)
  pub width : universe.grid.width ≡ n
  pub height : universe.grid.height ≡ n

spells : (n : ℕ) (r : Result Source SourceError) → is_square r n ≡ true → Spells n r
spells n (Ok (Plain U)) h =
    let p = and_parts _ _ h in
    record { universe = U; is = refl; width = eqb-true _ _ p.0; height = eqb-true _ _ p.1 }
spells n (Ok (Eight rule grid cells)) h = absurd (false≢true h)
spells n (Err e) h = absurd (false≢true h)

table_no : (b : Bool) → not b ≡ true → b ≡ false
table_no false h = refl
table_no true h = absurd (false≢true h)

module _ (n : ℕ) (some : 1 ≤ n) (most : n ≤ 64) where
  pub vote_pattern : is_table (vote_text n) ≡ false
  vote_pattern = table_no _ (and_parts _ _ (holds_at is_spelled 64 n computed some most)).0

  pub vote_spells : Spells n (rle_of 0 (vote_text n))
  vote_spells = spells n (rle_of 0 (vote_text n)) (and_parts _ _ (holds_at is_spelled 64 n computed some most)).1

  never : (e : SourceError) → rle_of 0 (vote_text n) ≡ Err e → ⊥
  never e is = false≢true (sym (ap is_ok is) ∙ ap is_ok vote_spells.is)

  -- want of memory alone is told of it
  pub vote_refused : (e : SourceError) → Refuses (rle_of 0 (vote_text n)) e → e ≡ errors.NoMemory
  vote_refused (errors.BadHeader k) r = absurd (never (errors.BadHeader k) r)
  vote_refused (errors.RuleForm k) r = absurd (never (errors.RuleForm k) r)
  vote_refused (errors.TorusSize k) r = absurd (never (errors.TorusSize k) r)
  vote_refused errors.EmptyGrid r = absurd (never errors.EmptyGrid r)
  vote_refused (errors.GridTooLarge k) r = absurd (never (errors.GridTooLarge k) r)
  vote_refused (errors.BadItem k) r = absurd (never (errors.BadItem k) r)
  vote_refused (errors.OutOfBox k) r = absurd (never (errors.OutOfBox k) r)
  vote_refused (errors.BadTable k) r = absurd r
  vote_refused errors.Unclosed r = absurd (never errors.Unclosed r)
  vote_refused (errors.TooManyRules k) r = absurd r
  vote_refused errors.NoMemory r = refl

  -- and its cells see four neighbours
  pub vote_plain : (rule : Counts) (grid : Grid) (cells : List ℕ) → rle_of 0 (vote_text n) ≡ Ok (Eight rule grid cells) → ⊥
  vote_plain rule grid cells is = let e : Ok (Eight rule grid cells) ≡ Ok (Plain vote_spells.universe) = sym is ∙ vote_spells.is in cc
