use Rattle.run_cli.proofs.Scripted.{says-unplayed}
use Rattle.run_cli.proofs.simulating.simulate_files.Goals as goal

pub returns-in-Err-Said-clause-ends : goal.returns-in-Err-Said-clause-ends
returns-in-Err-Said-clause-ends g c =
    let why = rw c.in-Err-Said.field-0-is at c.in-Err-Said.ensures.stop in
    let printed = rw c.in-Err-Said.field-0-is at c.say.ensures.prints in
    says-unplayed c.args.source.now c.args.script.now c.args.limits
    (record { files = g.F.Files.view c.args.files.now; sink = g.O.Sink.view c.args.out.now })
    (record { files = g.F.Files.view c.load_script.new.files; sink = g.O.Sink.view c.say.new.out })
    c.in-Err-Said.answer.status c.in-Err-Said.answer.line.items c.say.result.status c.say.result.history.items why printed c.say.ensures.history
