-- The list of a colony's rules, in the order of their numbers.
use Rattle.std.specs.Prelude.{ℕ, suc, ◌+◌, ◌*◌, ◌/◌, List, ◌∷◌, ◌++◌, map, Option, Some, None}
use Rattle.std.specs.List.{range_with_len, flat_map}
use Rattle.surf_world.specs.Systems.{Rule}
use Rattle.surf_auto.specs.Locals.{following, preceding}
use Rattle.surf_sync.specs.declared.code.Code.{Code}
use Rattle.surf_sync.specs.Codes.{Protocol, Mark, beside, next_field, read_rule}
use Rattle.surf_sync.specs.Codes.Mark.{Frame, Cell}

abbrev pub below : ℕ → List ℕ
below n = range_with_len 0 n

-- how many generations of one phase readers have
abbrev pub turns_by : Option ℕ → ℕ → ℕ
turns_by None phases = 3
turns_by (Some last) phases = last / phases

abbrev pub turns_of : Protocol → ℕ
turns_of P = turns_by P.last P.rule.phases

pub record Place : Type 0 where
  pub reads : ℕ
  pub acc : ℕ

-- the values of reads and acc, in order
abbrev pub places_of : Protocol → ℕ → List Place
places_of P f =
    flat_map (λ r. map (λ a. record { reads = r; acc = a }) (below (P.rule.accs f r)))
    (below P.rule.degree)

abbrev pub code_of : ℕ → ℕ → ℕ → ℕ → Place → Code
code_of current field colour previous at = record {
  current = current;
  generation = field;
  colour = colour;
  previous = previous;
  reads = at.reads;
  acc = at.acc;
}

-- the codes of phase f with this generation and colour
abbrev pub codes_of : Protocol → ℕ → ℕ → ℕ → List Code
codes_of P f field colour =
    flat_map (λ current.
    flat_map (λ previous. map (code_of current field colour previous) (places_of P f))
    (below (P.rule.states (preceding P.rule.phases f)))) (below (P.rule.states f))

-- the readers of phase f
abbrev pub readers_of : Protocol → ℕ → List Code
readers_of P f =
    flat_map (λ current.
    flat_map (λ turn.
    flat_map (λ colour.
    flat_map (λ previous.
    map (code_of current (turn * P.rule.phases + f) colour previous) (places_of P f))
    (below (P.rule.states (preceding P.rule.phases f))))
    (below (suc P.rule.degree)))
    (below (turns_of P)))
    (below (P.rule.states f))

pub record Seen : Type 0 where
  pub mark : Mark
  pub value : ℕ

-- what a reader of phase f may find next to it, and the state that it sees there
abbrev pub sights_of : Protocol → ℕ → Code → List Seen
sights_of P f r =
    record { mark = Frame (beside P.rule.degree r.colour r.reads); value = P.edge }
    ∷ (map (λ c. record { mark = Cell c; value = c.current })
    (codes_of P f r.generation (beside P.rule.degree r.colour r.reads))
    ++ map (λ c. record { mark = Cell c; value = c.previous })
    (codes_of P (following P.rule.phases f) (next_field P r.generation)
    (beside P.rule.degree r.colour r.reads)))

unfoldable pub rules_of : Protocol → ℕ → Code → List (Rule Mark)
rules_of P f r = map (λ s. read_rule P r s.mark s.value) (sights_of P f r)

abbrev pub sync_rules : Protocol → List (Rule Mark)
sync_rules P = flat_map (λ f. flat_map (rules_of P f) (readers_of P f)) (below P.rule.phases)
