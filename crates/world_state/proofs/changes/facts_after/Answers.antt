use Rattle.std.proofs.Common.{◌∙◌, ap, ◌&&◌, not, length}
use Rattle.std.specs.List.{list_any}
use Rattle.tp_spec.specs.Items.{deletes, effects}
use Rattle.world_state.specs.Rows.{has_bit}
use Rattle.world_state.proofs.After.{facts_after}
use Rattle.world_state.proofs.changes.facts_after.Goals as goal

pub returns-clause-has : goal.returns-clause-has
returns-clause-has c = λ f.
    facts_after c.args.problem.now c.keeps_the_rules.ensures c.args.items.now c.args.state.now.words c.delete_facts.new.facts c.add_facts.new.facts
    c.requires.wide (c.delete_facts.ensures.wide ∙ ap length c.in_ok-facts.ensures)
    (λ g. c.delete_facts.ensures.has g
    ∙ ap (λ ws. has_bit ws g && not (list_any (λ i. list_any (deletes g) (effects c.args.problem.now i)) c.args.items.now)) c.in_ok-facts.ensures)
    c.add_facts.ensures f
