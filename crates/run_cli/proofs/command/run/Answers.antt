use Rattle.std.proofs.Common.{◌∙◌, ap, sym, subst, refl, map, Result, Ok, string_bytes}
use Rattle.run_cli.proofs.Stopping.{fault-run, same-clock}
use Rattle.run_cli.specs.Orders.{order_of}
use Rattle.run_cli.specs.Runs.{EndingView}
use Rattle.run_cli.specs.Statuses.{EndsRun}
use Rattle.run_cli.specs.declared.words.Order.{Order}
use Rattle.run_cli.specs.declared.words.WordFault.{WordFault}
use Rattle.tp_world.specs.Views.{Outside, ClockView}
use Rattle.run_cli.proofs.Ranges.{solve-range, simulate-range, validate-range, ground-range, replay-range}
use Rattle.run_cli.proofs.command.run.Goals as goal

pub solve_kept-requires-clause-limits : goal.solve_kept-requires-clause-limits
solve_kept-requires-clause-limits g c = (solve-range (map string_bytes c.args.words.now) c.in-Ok-Solve.source c.in-Ok-Solve.limits c.in-Ok-Solve.trace (c.in-Ok-Solve.ensures ∙ ap Ok c.in-Ok-Solve.field-0-is)).0

pub solve_kept-requires-clause-scaled : goal.solve_kept-requires-clause-scaled
solve_kept-requires-clause-scaled g c = (solve-range (map string_bytes c.args.words.now) c.in-Ok-Solve.source c.in-Ok-Solve.limits c.in-Ok-Solve.trace (c.in-Ok-Solve.ensures ∙ ap Ok c.in-Ok-Solve.field-0-is)).1

pub simulate_kept-requires-clause-limits : goal.simulate_kept-requires-clause-limits
simulate_kept-requires-clause-limits g c =
    (simulate-range (map string_bytes c.args.words.now) c.in-Ok-Simulate.source c.in-Ok-Simulate.script c.in-Ok-Simulate.limits c.in-Ok-Simulate.trace (c.in-Ok-Simulate.ensures ∙ ap Ok c.in-Ok-Simulate.field-0-is)).0

pub simulate_kept-requires-clause-scaled : goal.simulate_kept-requires-clause-scaled
simulate_kept-requires-clause-scaled g c =
    (simulate-range (map string_bytes c.args.words.now) c.in-Ok-Simulate.source c.in-Ok-Simulate.script c.in-Ok-Simulate.limits c.in-Ok-Simulate.trace (c.in-Ok-Simulate.ensures ∙ ap Ok c.in-Ok-Simulate.field-0-is)).1

pub judge_files-requires : goal.judge_files-requires
judge_files-requires g c =
    validate-range (map string_bytes c.args.words.now) c.in-Ok-Validate.source c.in-Ok-Validate.plan c.in-Ok-Validate.limits (c.in-Ok-Validate.ensures ∙ ap Ok c.in-Ok-Validate.field-0-is)

pub replay_files-requires-clause-limited : goal.replay_files-requires-clause-limited
replay_files-requires-clause-limited g c =
    (replay-range (map string_bytes c.args.words.now) c.in-Ok-Replay.source c.in-Ok-Replay.trace c.in-Ok-Replay.limits (c.in-Ok-Replay.ensures ∙ ap Ok c.in-Ok-Replay.field-0-is)).0

pub replay_files-requires-clause-scaled : goal.replay_files-requires-clause-scaled
replay_files-requires-clause-scaled g c =
    (replay-range (map string_bytes c.args.words.now) c.in-Ok-Replay.source c.in-Ok-Replay.trace c.in-Ok-Replay.limits (c.in-Ok-Replay.ensures ∙ ap Ok c.in-Ok-Replay.field-0-is)).1

pub ground_files-requires : goal.ground_files-requires
ground_files-requires g c =
    ground-range (map string_bytes c.args.words.now) c.in-Ok-Ground.domain c.in-Ok-Ground.problem c.in-Ok-Ground.scale (c.in-Ok-Ground.ensures ∙ ap Ok c.in-Ok-Ground.field-0-is)

pub returns-in-Ok-Ground-clause-ends : goal.returns-in-Ok-Ground-clause-ends
returns-in-Ok-Ground-clause-ends g c =
    let before : Outside = record { files = g.F.Files.view c.args.files.now; sink = g.O.Sink.view c.args.out.now } in
    let after : Outside = record { files = g.F.Files.view c.ground_files.new.files; sink = g.O.Sink.view c.ground_files.new.out } in
    let view : g.row.C.Denot → ClockView = λ x. record { count = g.C.Clock.count x; last = g.C.Clock.last x; rate = g.C.Clock.rate x; given = g.C.Clock.given x; begun = g.C.Clock.begun x } in
    let ending : EndingView = record { status = c.ground_files.result.status; history = c.ground_files.result.history.items; began = view c.args.clock; ended = view c.ground_files.result.clock } in
    subst (λ (r : Result Order WordFault). EndsRun r before after ending) (sym (c.in-Ok-Ground.ensures ∙ ap Ok c.in-Ok-Ground.field-0-is)) (
      c.ground_files.ensures.ends,
      record {
        none = c.ground_files.ensures.history;
        same = same-clock g.C.Clock.count g.C.Clock.last g.C.Clock.rate g.C.Clock.given g.C.Clock.begun c.ground_files.result.clock c.args.clock c.ground_files.ensures.clock;
      },
    )

pub returns-in-Err-clause-ends : goal.returns-in-Err-clause-ends
returns-in-Err-clause-ends g c =
    let before : Outside = record { files = g.F.Files.view c.args.files.now; sink = g.O.Sink.view c.args.out.now } in
    let after : Outside = record { files = g.F.Files.view c.args.files.now; sink = g.O.Sink.view c.refuse_words.new.out } in
    let view : g.row.C.Denot → ClockView = λ x. record { count = g.C.Clock.count x; last = g.C.Clock.last x; rate = g.C.Clock.rate x; given = g.C.Clock.given x; begun = g.C.Clock.begun x } in
    let ending : EndingView = record { status = c.refuse_words.result.status; history = c.refuse_words.result.history.items; began = view c.args.clock; ended = view c.refuse_words.result.clock } in
    fault-run c.in-Err.fault (order_of (map string_bytes c.args.words.now)) c.in-Err.ensures before after refl ending c.refuse_words.ensures.prints c.refuse_words.ensures.memory (record {
      none = c.refuse_words.ensures.history;
      same = same-clock g.C.Clock.count g.C.Clock.last g.C.Clock.rate g.C.Clock.given g.C.Clock.begun c.refuse_words.result.clock c.args.clock c.refuse_words.ensures.clock;
    })
