-- The number of a rule in the list, and how many rules there are.
use Rattle.std.specs.Prelude.{ℕ, suc, ◌+◌, ◌*◌, ◌/◌, if◌then◌else◌, ◌==◌}
use Rattle.surf_auto.specs.Locals.{following, preceding, sum_below, place_count, code_count, reader_count, sight_count}
use Rattle.surf_sync.specs.declared.code.Code.{Code}
use Rattle.surf_sync.specs.Codes.{Protocol, Mark, phase}
use Rattle.surf_sync.specs.Codes.Mark.{Frame, Cell}
use Rattle.surf_sync.specs.Rules.{turns_of}

-- the number of a pair of reads and acc
abbrev pub place_number : Protocol → ℕ → Code → ℕ
place_number P f c = sum_below (P.rule.accs f) c.reads + c.acc

-- the states of the phase before f
abbrev pub previous_count : Protocol → ℕ → ℕ
previous_count P f = P.rule.states (preceding P.rule.phases f)

abbrev pub reader_number : Protocol → ℕ → Code → ℕ
reader_number P f c =
    (((c.current * turns_of P + c.generation / P.rule.phases) * suc P.rule.degree + c.colour)
    * previous_count P f + c.previous)
    * place_count P.rule f + place_number P f c

-- the number of a code among those of its phase, generation and colour
abbrev pub code_number : Protocol → ℕ → Code → ℕ
code_number P f c =
    (c.current * previous_count P f + c.previous) * place_count P.rule f + place_number P f c

-- the number of what a reader sees: the frame, a cell of its generation, or one of the next
abbrev pub sight_number : Protocol → ℕ → Code → Mark → ℕ
sight_number P f r (Frame k) = 0
sight_number P f r (Cell n) =
    if n.generation == r.generation
    then 1 + code_number P f n
    else 1 + code_count P.rule f + code_number P (following P.rule.phases f) n

abbrev pub phase_rules : Protocol → ℕ → ℕ
phase_rules P f = reader_count (turns_of P) P.rule f * sight_count P.rule f

abbrev pub rule_number : Protocol → Code → Mark → ℕ
rule_number P c m =
    sum_below (phase_rules P) (phase P.rule c.generation)
    + (reader_number P (phase P.rule c.generation) c
    * sight_count P.rule (phase P.rule c.generation)
    + sight_number P (phase P.rule c.generation) c m)
