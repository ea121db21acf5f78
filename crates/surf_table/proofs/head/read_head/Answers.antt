use Rattle.surf_table.proofs.Facts.{few_weights, light_weights}
use Rattle.surf_table.proofs.head.read_head.Goals as goal

pub rule_count-rules-requires-clause-few : goal.rule_count-rules-requires-clause-few
rule_count-rules-requires-clause-few c =
    rw c.deref.ensures.value (few_weights c.in_ok-states.states c.read_degree.new.lines c.read_states.new.lines c.read_edge.new.lines c.read_weights.new.lines c.in_ok-weights.weights.items c.in_ok-states.ensures.ok c.in_ok-weights.ensures.ok)

pub rule_count-rules-requires-clause-light : goal.rule_count-rules-requires-clause-light
rule_count-rules-requires-clause-light c =
    rw c.deref.ensures.value (light_weights c.in_ok-states.states c.read_edge.new.lines c.in_ok-weights.weights.items c.read_weights.new.lines c.in_ok-weights.ensures.ok)
