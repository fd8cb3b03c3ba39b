use Rattle.std.proofs.Common.{◌≡◌, ◌∙◌, ap, sym, subst, ◌&&◌, List}
use Rattle.std.specs.List.{list_all}
use Rattle.tp_spec.specs.declared.plan.Item.{Item}
use Rattle.tp_spec.specs.WellFormed.{Ground}
use Rattle.node_state.specs.Readings.{progress_of}
use Rattle.node_state.specs.Founds.{unmet_with}
use Rattle.node_state.specs.Ranks.{unmet_before}
use Rattle.node_state.specs.Footprints.{quiet_by}
use Rattle.node_state.proofs.Footing.{quiet-stay}
use Rattle.node_state.proofs.Ranking.{rank-untouched}
use Rattle.node_state.proofs.judge.Judge.leaves_goal.Goals as goal

pub returns : goal.returns
returns c = λ is.
    let p = c.self.inside.problem.now in
    subst (λ (p : Ground). unmet_before p (progress_of c.args.reading.now) ≡ unmet_with p (progress_of c.args.reading.now) c.args.item) c.self.view_is
    (rank-untouched p c.self.inside.free c.self.invariant.goal_free (progress_of c.args.reading.now) c.args.item
    (quiet-stay p c.self.inside.free c.self.inside.footprints c.self.invariant.footing (progress_of c.args.reading.now).group c.args.item
    (ap (λ (l : List Item). list_all (quiet_by c.self.inside.footprints) l && quiet_by c.self.inside.footprints c.args.item) (sym c.deref.ensures.value) ∙ sym c.are_quiet.ensures ∙ is)))
