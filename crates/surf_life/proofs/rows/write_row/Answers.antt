use Rattle.std.proofs.Common.{◌≡◌, ℕ, ◌+◌, ◌*◌, ◌<◌, ◌≤◌, List, length, slice_index, ◌∙◌, ap, subst, sym, arith}
use Rattle.std.specs.List.{between}
use Rattle.surf_life.specs.Rows.{square_of}
use Rattle.surf_life.proofs.Sums.{bounded, key_small, part_at, part_length, row_fits, row_written}
use Rattle.surf_life.proofs.rows.write_row.Goals as goal

-- the keys of a row, by its cells
keyed : (cells sums keys : List ℕ) (first width : ℕ) → first + width ≤ length cells →
    ((x : ℕ) → x < length (between first (first + width) cells) → slice_index keys x ≡ slice_index (between first (first + width) cells) x * 8 + (slice_index sums x + slice_index sums (x + 1) + slice_index sums (x + 2))) →
    (x : ℕ) → x < width → slice_index keys x ≡ slice_index cells (first + x) * 8 + (slice_index sums x + slice_index sums (x + 1) + slice_index sums (x + 2))
keyed cells sums keys first width fits all x h =
    let n = part_length cells first width fits in
    all x (omega (arith, n, h)) ∙ ap (λ v. v * 8 + (slice_index sums x + slice_index sums (x + 1) + slice_index sums (x + 2))) (part_at cells first width x h)

pub look_up-requires-clause-keys : goal.look_up-requires-clause-keys
look_up-requires-clause-keys c =
    let s = c.args.sides in
    let first : ℕ = c.args.y * s.width in
    let fits = row_fits s.width s.height c.args.y (length c.args.cells.now) c.requires.y c.requires.size in
    bounded c.find_keys.new.keys s.width 17 (c.find_keys.auto.keys ∙ c.requires.keys) (λ x h.
    key_small (square_of s.wrap s.width s.height) c.args.cells.now c.requires.two c.args.y c.sum_columns.new.sums c.sum_columns.ensures x (slice_index c.args.cells.now (first + x)) (slice_index c.find_keys.new.keys x) h (c.requires.two (first + x))
    (keyed c.args.cells.now c.sum_columns.new.sums c.find_keys.new.keys first s.width fits c.find_keys.ensures x h))

pub returns : goal.returns
returns c =
    let s = c.args.sides in
    let fits = row_fits s.width s.height c.args.y (length c.args.cells.now) c.requires.y c.requires.size in
    let many : length c.find_keys.new.keys ≡ s.width = c.find_keys.auto.keys ∙ c.requires.keys in
    λ C is above. row_written C (square_of s.wrap s.width s.height) c.args.cells.now c.args.table.now c.sum_columns.new.sums c.find_keys.new.keys c.args.next.now c.look_up.new.next c.args.y c.requires.two is c.requires.y c.sum_columns.ensures
    (keyed c.args.cells.now c.sum_columns.new.sums c.find_keys.new.keys (c.args.y * s.width) s.width fits c.find_keys.ensures)
    (λ x h. c.look_up.ensures.written x (subst (λ n. x < n) (sym many) h))
    c.look_up.ensures.kept above
