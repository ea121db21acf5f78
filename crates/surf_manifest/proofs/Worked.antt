-- What some texts mean, by computing.
use Rattle.std.proofs.Common.{ℕ, ◌≡◌, List, [], ◌∷◌, ◌++◌, refl, codes, Ok, Err, None, Some, false, take}
use Rattle.surf_lattice.specs.declared.site.GridKind.TheVariants.{Square}
use Rattle.surf_manifest_lines.specs.declared.error.ManifestError.{ManifestError}
use Rattle.surf_manifest_lines.specs.declared.error.ManifestError.TheVariants as faults
use Rattle.surf_manifest_lines.specs.declared.error.Block.TheVariants as blocks
use Rattle.surf_text.specs.Bytes.{ended}
use Rattle.surf_manifest.specs.Grammar.{manifest_of}

-- a manifest with this rule line and these rows
abbrev with_lines : List ℕ → List (List ℕ) → List (List ℕ)
with_lines rule rows =
    codes "!START_TRANSITION_RULES" ∷ rule ∷ codes "!END_TRANSITION_RULES" ∷ codes "!START_INIT_STATE" ∷ (rows ++ (codes "!END_INIT_STATE" ∷ []))

abbrev with_rule : List ℕ → List (List ℕ)
with_rule rule = with_lines rule (codes "A B" ∷ [])

abbrev small : List (List ℕ)
small = with_rule (codes "(1) A + B -> C + D")

abbrev HasFault : List (List ℕ) → ManifestError → Type 0
HasFault ls f = manifest_of (ended ls) ≡ Err f

small_is : manifest_of (ended small) ≡ Ok (record {
  system = record {
    surface = record {
      grid = record { kind = Square; wrap = false; width = 2; height = 1 };
      rules = (record { rate = 1000000; left = codes "A"; right = Some (codes "B"); left_after = codes "C"; right_after = Some (codes "D") }) ∷ [];
    };
    start = codes "A" ∷ codes "B" ∷ [];
  };
  options = [];
  colormap = None;
})
small_is = refl

joined_rule : HasFault (with_rule (codes "A+B->C+D")) (faults.BadRule 2)
joined_rule = refl

rate_above : HasFault (with_rule (codes "(1000000.000001) A + B -> C + D")) (faults.BadRate 2)
rate_above = refl

seven_digits : HasFault (with_rule (codes "(1.0000000) A -> B")) (faults.BadRate 2)
seven_digits = refl

first_fault : HasFault (with_lines (codes "A -> B") (codes "A B" ∷ codes "A" ∷ []) ++ codes "!START_TRANSITION_RULES" ∷ []) (faults.Ragged 6)
first_fault = refl

twice : HasFault (small ++ codes "!START_TRANSITION_RULES" ∷ []) (faults.BlockTwice 7)
twice = refl

unclosed : HasFault (take 4 small) (faults.Unclosed 4)
unclosed = refl

empty : HasFault [] (faults.MissingBlock blocks.Rules)
empty = refl

-- a block that begins inside another, also one that was opened before
inside : HasFault (small ++ codes "!START_COLORMAP" ∷ codes "!START_INIT_STATE" ∷ []) (faults.BadLine 8)
inside = refl

-- a bad name goes before a wrong length
name_first : HasFault (with_lines (codes "A -> B") (codes "A B" ∷ codes "+" ∷ [])) (faults.BadLine 6)
name_first = refl
