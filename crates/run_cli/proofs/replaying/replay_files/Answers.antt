use Rattle.run_cli.proofs.Stopping.{replay-put}
use Rattle.run_cli.proofs.replaying.replay_files.Goals as goal

pub returns-in-Ok-clause-ends : goal.returns-in-Ok-clause-ends
returns-in-Ok-clause-ends g c =
    replay-put c.args.limits.now c.args.source.now c.args.trace.now
    (record { files = g.F.Files.view c.args.files.now; sink = g.O.Sink.view c.args.out.now })
    (record { files = g.F.Files.view c.files_answer.new.files; sink = g.O.Sink.view c.say.new.out })
    c.in-Ok.answer.status c.in-Ok.answer.line.items c.say.result.status c.in-Ok.ensures.answer c.say.ensures.prints
