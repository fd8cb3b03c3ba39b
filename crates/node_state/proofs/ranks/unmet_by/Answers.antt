use Rattle.std.proofs.Common.{◌∙◌, sym, not, ◌&&◌, count_by}
use Rattle.std.specs.List.{list_all}
use Rattle.world_state.specs.View.{meaning}
use Rattle.node_state.specs.Readings.{progress_of}
use Rattle.node_state.specs.Ranks.{writes_facts, holds_by, is_of_fact}
use Rattle.node_state.proofs.Ranking.{rank-by-effects}
use Rattle.node_state.proofs.ranks.unmet_by.Goals as goal

pub returns-then-write_facts : goal.returns-then-write_facts
returns-then-write_facts c =
    c.unmet_after.ensures
    ∙ (λ k. count_by (λ g. not (holds_by c.args.problem.now (meaning c.args.reading.now.before) (c.deref-then-write_facts.ensures.value k) (c.requires k) g)) c.args.problem.now.goal)
    ∙ rank-by-effects c.args.problem.now (progress_of c.args.reading.now) c.args.item
    ((λ k. list_all (writes_facts c.args.problem.now) (sym c.deref.ensures.value k) && list_all is_of_fact (sym c.requires k)) ∙ sym c.if-write_facts.ensures)
