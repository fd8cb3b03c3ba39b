use Rattle.std.proofs.Common.{◌≡◌, ◌∙◌, sym, ap, subst, not, true, false}
use Rattle.std.specs.List.{list_all}
use Rattle.tp_spec.specs.Interference.{interfere}
use Rattle.tp_spec.specs.Items.{own}
use Rattle.tp_spec.specs.WellFormed.{Ground}
use Rattle.tp_spec.specs.Words.{may_join}
use Rattle.node_state.specs.Readings.{progress_of}
use Rattle.node_state.proofs.Joining.{if-apart, next, not-next}
use Rattle.node_state.proofs.judge.Judge.may_join.Goals as goal

pub returns-then-not-is_next : goal.returns-then-not-is_next
returns-then-not-is_next c =
    subst (λ (p : Ground). false ≡ may_join p (progress_of c.args.reading.now) c.args.item) c.self.view_is
    (not-next c.self.inside.problem.now (progress_of c.args.reading.now) c.args.item (sym c.if-not-is_next.ensures))

pub returns : goal.returns
returns c =
    c.is_apart.ensures
    ∙ ap (list_all (λ j. not (interfere c.args.self.now j c.args.item))) c.deref.ensures.value
    ∙ if-apart c.args.self.now (progress_of c.args.reading.now) c.args.item
    (subst (λ (p : Ground). next p (progress_of c.args.reading.now) c.args.item ≡ true) c.self.view_is (sym c.if-not-is_next.ensures))
    (subst (λ (p : Ground). own p (progress_of c.args.reading.now).before c.args.item ≡ true) c.self.view_is (sym c.if-not-can.ensures))
