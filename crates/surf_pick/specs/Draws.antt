-- Draws below a number, from the words of a generator.
use Rattle.std.specs.Prelude.{ℕ, zero, suc, ◌+◌, ◌-◌, ◌*◌, ◌%◌, ◌^◌, nat_le, if◌then◌else◌}
use Rattle.rand_core.specs.Stream.{Stream, next_u64}
use Rattle.rand_core.specs.Steps.{stream_of, steps_u64_low}
use Rattle.rand_core.specs.Pcg32Seed.{pcg32_seed}
use Rattle.rand_pcg.specs.Lcg.{Lcg}
use Rattle.rand_pcg.specs.Pcg.{pcg64, pcg64_of_seed}

-- the generator of a seed
abbrev pub seeded : ℕ → Lcg
seeded seed = pcg64_of_seed (pcg32_seed 32 seed)

-- the words that a generator gives from now on
abbrev pub words_of : Lcg → Stream
words_of g = stream_of (steps_u64_low pcg64) g

-- a number below 2^128 of the next two words, and the words after them
abbrev pub next_wide : Stream → ℕ × Stream
next_wide s =
    let first = next_u64 s in
    let second = next_u64 first.1 in (first.0 * 2 ^ 64 + second.0, second.1)

-- of at most so many tries and one more, the first that counts or the last, and the words after it
unfoldable pub tried : ℕ → ℕ → Stream → ℕ × Stream
tried n zero s = next_wide s
tried n (suc k) s =
    let t = next_wide s in
    if nat_le t.0 (2 ^ 128 - 1 - 2 ^ 128 % n) then t else tried n k t.1

-- a draw below n, of at most sixteen tries
abbrev pub draw_below : ℕ → Stream → ℕ × Stream
draw_below n s = let t = tried n 15 s in (t.0 % n, t.1)
