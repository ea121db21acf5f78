use Rattle.std.proofs.Common.{rules, ◌≤◌, ap, List, ℕ}
use Rattle.surf_rules.specs.Names.{text_of}
use Rattle.surf_logic.specs.declared.turns.CircuitError.{CircuitError}
use Rattle.surf_logic.specs.Answers.{HasCircuitFault}
use Rattle.surf_logic.specs.Equations.{PartsOf}
use Rattle.surf_logic.specs.Order.{IsOrderOf}
use Rattle.surf_blif.specs.Answers.{HoldsError}
use Rattle.surf_blif.specs.Blifs.{IsRead, Refuses}
use Rattle.surf_blif.specs.Drafts.{numbered_by}
use Rattle.surf_blif.specs.Grammar.{model_lines}
use Rattle.surf_blif.proofs.Fits.{rows_are}
use Rattle.surf_blif.proofs.Whole.{read_is, refused_by, ok_more, err_more}
use Rattle.surf_blif.proofs.reader.read_blif.Goals as goal

pub circuit_of-requires-clause-rows : goal.circuit_of-requires-clause-rows
circuit_of-requires-clause-rows c =
    let d = c.in_ok-draft.draft in
    let few : d.cost ≤ 1000 = search rules in
    rows_are (text_of d.names) d.equations.items (model_lines c.args.bytes.now) (ap (λ (v : PartsOf (List ℕ)). v.equations) (c.in_ok-draft.ensures.read.parts few))

pub returns-clause-ok : goal.returns-clause-ok
returns-clause-ok c =
    let d = c.in_ok-draft.draft in
    let few : d.cost ≤ 1000 = search rules in
    let laws = c.naming_laws.ensures in
    ok_more (IsOrderOf (numbered_by d)) (IsRead c.args.bytes.now) c.circuit_of.result
    (λ x h. read_is c.args.bytes.now d x laws.sound laws.orders laws.order_cost laws.name_cost c.in_ok-draft.ensures.read few c.circuit_of.ensures.named h)
    c.circuit_of.ensures.order

pub returns-clause-refused : goal.returns-clause-refused
returns-clause-refused c =
    let d = c.in_ok-draft.draft in
    let few : d.cost ≤ 1000 = search rules in
    err_more (λ e. (error : CircuitError) × HasCircuitFault (numbered_by d) error × HoldsError error e) (Refuses c.args.bytes.now) c.circuit_of.result
    (λ e h. refused_by c.args.bytes.now d h.0 e c.naming_laws.ensures.faults c.in_ok-draft.ensures.read few c.circuit_of.ensures.named h.1 h.2)
    c.circuit_of.ensures.refused
