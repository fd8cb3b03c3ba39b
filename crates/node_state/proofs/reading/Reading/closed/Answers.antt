use Rattle.std.proofs.Common.{◌∙◌, sym, ap, subst, List, Option, length, ◌||◌}
use Rattle.std.specs.Prelude.{IfSome}
use Rattle.tp_spec.specs.declared.plan.Item.{Item}
use Rattle.tp_spec.specs.Items.{after}
use Rattle.tp_spec.specs.Lists.{is_empty}
use Rattle.world_state.specs.Rows.{is_in_row}
use Rattle.world_state.specs.View.{meaning, IsStateOf, StateView}
use Rattle.node_state.specs.Readings.{keep_all, progress_of}
use Rattle.node_state.proofs.Closing.{state-after, runs-of, past-parts, closes-is, closed-of}
use Rattle.node_state.proofs.reading.Reading.closed.Goals as goal

pub returns-then-not-may_close : goal.returns-then-not-may_close
returns-then-not-may_close c =
    let next = state-after c.args.problem.now (meaning c.args.self.now.before) c.args.self.now.group.items c.in_ok-after.field-0 c.in-Some.after c.in-Some.is (c.in_ok-after.ensures.is ∙ ap (after c.args.problem.now (meaning c.args.self.now.before)) c.deref.ensures.value) in
    let runs = runs-of c.args.problem.now c.args.self.now c.in_ok-running.running c.run_on.new.running c.deref-2.result.now c.deref-2.ensures.value c.in_ok-running.ensures c.run_on.ensures.runs in
    closes-is c.args.problem.now (progress_of c.args.self.now) (meaning c.in-Some.after) (is_in_row c.run_on.new.running) next.0 next.1 runs
    ∙ ap (λ (l : List Item). is_empty l || keep_all c.args.problem.now (is_in_row c.run_on.new.running) (meaning c.in-Some.after)) (sym c.deref-3.ensures.value)
    ∙ sym c.may_close.ensures ∙ c.if-not-may_close.true

pub returns : goal.returns
returns c =
    let next = state-after c.args.problem.now (meaning c.args.self.now.before) c.args.self.now.group.items c.in_ok-after.field-0 c.in-Some.after c.in-Some.is (c.in_ok-after.ensures.is ∙ ap (after c.args.problem.now (meaning c.args.self.now.before)) c.deref.ensures.value) in
    let runs = runs-of c.args.problem.now c.args.self.now c.in_ok-running.running c.run_on.new.running c.deref-2.result.now c.deref-2.ensures.value c.in_ok-running.ensures c.run_on.ensures.runs in
    closed-of c.args.problem.now (progress_of c.args.self.now) _ c.requires.reading.inside
    (closes-is c.args.problem.now (progress_of c.args.self.now) (meaning c.in-Some.after) (is_in_row c.run_on.new.running) next.0 next.1 runs
    ∙ ap (λ (l : List Item). is_empty l || keep_all c.args.problem.now (is_in_row c.run_on.new.running) (meaning c.in-Some.after)) (sym c.deref-3.ensures.value)
    ∙ sym c.may_close.ensures ∙ c.if-not-may_close.false)
    (past-parts c.args.problem.now (progress_of c.args.self.now) (meaning c.in-Some.after) (is_in_row c.run_on.new.running) c.new.result.items next.1 c.new.ensures.items runs)
    (subst (λ (o : Option StateView). IfSome o (IsStateOf c.args.problem.now)) c.in-Some.is c.in_ok-after.ensures.of_problem)
    (c.run_on.ensures.wide ∙ ap length c.in_ok-running.ensures ∙ c.requires.reading.wide)
    (c.settle.ensures)
