use Rattle.std.proofs.Common.{inr, []}
use Rattle.run_cli.proofs.Stopping.{says-why, ground-put}
use Rattle.run_cli.proofs.grounding.ground_files.Goals as goal

pub returns-in-Ok-clause-ends : goal.returns-in-Ok-clause-ends
returns-in-Ok-clause-ends g c =
    ground-put c.args.source.now c.in-Ok.problem
    (record { files = g.F.Files.view c.args.files.now; sink = g.O.Sink.view c.args.out.now })
    (record { files = g.F.Files.view c.load_problem.new.files; sink = g.O.Sink.view c.print_problem.new.out })
    c.print_problem.result.status c.in-Ok.ensures.holds c.print_problem.ensures.prints

pub returns-in-Err-Said-clause-ends : goal.returns-in-Err-Said-clause-ends
returns-in-Err-Said-clause-ends g c =
    let why = rw c.in-Err-Said.field-0-is at c.in-Err-Said.ensures.stop in
    inr (says-why c.args.source.now []
    (record { files = g.F.Files.view c.args.files.now; sink = g.O.Sink.view c.args.out.now })
    (record { files = g.F.Files.view c.load_problem.new.files; sink = g.O.Sink.view c.say.new.out })
    c.in-Err-Said.answer.status c.in-Err-Said.answer.line.items c.say.result.status why c.say.ensures.prints)
