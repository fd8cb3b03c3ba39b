-- A problem may be shared by threads: the check does not find this through `Expr`, which leads back to itself.
use denote.Param.Send.{IsSync, sendable, view_sync, recorded_sync}
use Rattle.tp_spec.specs.contracts.problem.Problem.TheInside as Inside
use Rattle.std.proofs.Crossing.{crosses}
use Rattle.tp_spec.specs.contracts.problem.Problem as Problem
use Rattle.tp_spec.specs.contracts.problem.Action as Action
use Rattle.tp_spec.specs.contracts.problem.Cond as Cond
use Rattle.tp_spec.specs.contracts.problem.Effect as Effect
use Rattle.tp_spec.specs.contracts.expr.Expr as Expr
use Rattle.sqlite_items.proofs.boxed.Boxed.TheSendSync as boxed
use Rattle.tp_spec.proofs.expr.Expr.TheLaws.TheKnot as expr
use Rattle.tp_spec.proofs.list.List.TheSendSync as list
use Rattle.std.proofs.option.Option.TheSendSync as option
use Rattle.tp_spec.proofs.list.Name.TheSendSync as name
use Rattle.tp_spec.proofs.problem.Op.TheSendSync as op
use Rattle.tp_spec.proofs.problem.How.TheSendSync as how
use Rattle.tp_spec.proofs.problem.Kind.TheSendSync as kind
use Rattle.tp_spec.proofs.problem.TimedItem.TheSendSync as timed

pub expr_sync : IsSync (Expr.the_field).row
expr_sync = search (sendable, crosses, expr.crosses, boxed.the_sync, boxed.the_send) depth 12

pub cond_sync : IsSync (Cond.the_field).row
cond_sync = search (sendable, crosses, expr_sync, op.the_field_sync) depth 12

pub effect_sync : IsSync (Effect.the_field).row
effect_sync = search (sendable, crosses, expr_sync, how.the_field_sync) depth 12

pub action_sync : IsSync (Action.the_field).row
action_sync = search (sendable, crosses, cond_sync, effect_sync, list.the_sync, name.the_sync, kind.the_field_sync) depth 12

pub fields_sync : IsSync (Inside.the_field).row
fields_sync = search (sendable, crosses, cond_sync, action_sync, list.the_sync, name.the_sync, timed.the_field_sync, option.the_sync, option.the_field_sync) depth 12

pub problem_sync : IsSync Problem.the_row
problem_sync = view_sync (Inside.the_row) _ _ _ _ (recorded_sync _ _ _ (Inside.the_type).to_one fields_sync)

pub ruleset sends = (problem_sync)
