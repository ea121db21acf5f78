-- The texts of names, as loops make them.
use Rattle.std.specs.Prelude.{ℕ, suc, List, map, None}
use Rattle.std.specs.List.{flat_map}
use Rattle.surf_sync.specs.declared.code.Code.{Code}
use Rattle.surf_sync.specs.Codes.Mark.{Frame, Cell}
use Rattle.surf_auto.specs.Locals.{LocalRule}
use Rattle.surf_sync.specs.Codes.{phase, protocol}
use Rattle.surf_sync.specs.Rules.{below, codes_of}
use Rattle.surf_sync.specs.Spelling.{spell}

-- the same code at another generation and colour
abbrev pub moved : ℕ → ℕ → Code → Code
moved generation colour c = record {
  current = c.current;
  generation = generation;
  colour = colour;
  previous = c.previous;
  reads = c.reads;
  acc = c.acc;
}

abbrev pub frame_texts : ℕ → List (List ℕ)
frame_texts colours = map (λ k. spell (Frame k)) (below colours)

abbrev pub block_texts : List Code → ℕ → ℕ → List (List ℕ)
block_texts codes generation colour = map (λ c. spell (Cell (moved generation colour c))) codes

abbrev pub generation_texts : List Code → ℕ → ℕ → List (List ℕ)
generation_texts codes generation colours = flat_map (block_texts codes generation) (below colours)

-- the codes of a generation, of generation and colour 0
abbrev pub codes_at : LocalRule → ℕ → List Code
codes_at R generation = codes_of (protocol R 0 None) (phase R generation) 0 0

-- the texts of the cells of all generations below n
abbrev pub all_texts : LocalRule → ℕ → List (List ℕ)
all_texts R n = flat_map (λ g. generation_texts (codes_at R g) g (suc R.degree)) (below n)
