use Rattle.run_cli.specs.declared.words.WordFault.{WordFault}
use Rattle.run_cli.specs.declared.words.Order.{Order}
use Rattle.run_cli.specs.Statuses.{EndsLocal}
use Rattle.std.proofs.Common.{◌∙◌, ap, refl, map, Ok, string_bytes, subst, sym, Result}
use Rattle.run_cli.proofs.Stopping.{fault-local}
use Rattle.run_cli.proofs.Traced.{same-keeps}
use Rattle.run_cli.specs.Orders.{order_of, trace_of}
use Rattle.tp_world.specs.Views.{Outside}
use Rattle.run_cli.proofs.Ranges.{solve-range, simulate-range, validate-range, ground-range, replay-range}
use Rattle.run_cli.proofs.command.run_local.Goals as goal

pub leave_file-requires : goal.leave_file-requires
leave_file-requires g c = (solve-range (map string_bytes c.args.words.now) c.in-Ok-Solve.source _ _ (c.in-Ok-Solve.ensures ∙ ap Ok c.in-Ok-Solve.field-0-is)).1

pub simulate_kept-requires-clause-limits : goal.simulate_kept-requires-clause-limits
simulate_kept-requires-clause-limits g c =
    (simulate-range (map string_bytes c.args.words.now) c.in-Ok-Simulate.source c.in-Ok-Simulate.script c.in-Ok-Simulate.limits c.in-Ok-Simulate.trace (c.in-Ok-Simulate.ensures ∙ ap Ok c.in-Ok-Simulate.field-0-is)).0

pub simulate_kept-requires-clause-scaled : goal.simulate_kept-requires-clause-scaled
simulate_kept-requires-clause-scaled g c =
    (simulate-range (map string_bytes c.args.words.now) c.in-Ok-Simulate.source c.in-Ok-Simulate.script c.in-Ok-Simulate.limits c.in-Ok-Simulate.trace (c.in-Ok-Simulate.ensures ∙ ap Ok c.in-Ok-Simulate.field-0-is)).1

pub judge_files-requires : goal.judge_files-requires
judge_files-requires g c =
    validate-range (map string_bytes c.args.words.now) c.in-Ok-Validate.source c.in-Ok-Validate.plan c.in-Ok-Validate.limits (c.in-Ok-Validate.ensures ∙ ap Ok c.in-Ok-Validate.field-0-is)

pub replay_files-requires-clause-limited : goal.replay_files-requires-clause-limited
replay_files-requires-clause-limited g c =
    (replay-range (map string_bytes c.args.words.now) c.in-Ok-Replay.source c.in-Ok-Replay.trace c.in-Ok-Replay.limits (c.in-Ok-Replay.ensures ∙ ap Ok c.in-Ok-Replay.field-0-is)).0

pub replay_files-requires-clause-scaled : goal.replay_files-requires-clause-scaled
replay_files-requires-clause-scaled g c =
    (replay-range (map string_bytes c.args.words.now) c.in-Ok-Replay.source c.in-Ok-Replay.trace c.in-Ok-Replay.limits (c.in-Ok-Replay.ensures ∙ ap Ok c.in-Ok-Replay.field-0-is)).1

pub ground_files-requires : goal.ground_files-requires
ground_files-requires g c =
    ground-range (map string_bytes c.args.words.now) c.in-Ok-Ground.domain c.in-Ok-Ground.problem c.in-Ok-Ground.scale (c.in-Ok-Ground.ensures ∙ ap Ok c.in-Ok-Ground.field-0-is)

pub returns-in-Ok-Solve-clause-contents : goal.returns-in-Ok-Solve-clause-contents
returns-in-Ok-Solve-clause-contents g c =
    same-keeps (trace_of (order_of (map string_bytes c.args.words.now))) (g.F.Files.view c.args.files.now).contents (g.F.Files.view c.leave_file.new.files).contents c.leave_file.ensures.contents

pub returns-clause-ends : goal.returns-clause-ends
returns-clause-ends g c =
    let before : Outside = record { files = g.F.Files.view c.args.files.now; sink = g.O.Sink.view c.args.out.now } in
    let after : Outside = record { files = g.F.Files.view c.args.files.now; sink = g.O.Sink.view c.refuse_words.new.out } in
    fault-local c.in-Err.fault (order_of (map string_bytes c.args.words.now)) c.in-Err.ensures before after refl c.refuse_words.result.status c.refuse_words.result.history.items
    c.refuse_words.ensures.prints c.refuse_words.ensures.memory c.refuse_words.ensures.history

pub returns-in-Ok-Solve-clause-ends : goal.returns-in-Ok-Solve-clause-ends
returns-in-Ok-Solve-clause-ends g c =
    let before : Outside = record { files = g.F.Files.view c.args.files.now; sink = g.O.Sink.view c.args.out.now } in
    let after : Outside = record { files = g.F.Files.view c.leave_file.new.files; sink = g.O.Sink.view c.leave_file.new.out } in
    subst (λ (wanted : Result Order WordFault). EndsLocal wanted before after c.leave_file.result.status c.leave_file.result.history.items)
    (sym (c.in-Ok-Solve.ensures ∙ ap Ok c.in-Ok-Solve.field-0-is)) c.leave_file.ensures.ends
