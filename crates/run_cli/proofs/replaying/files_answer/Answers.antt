use Rattle.run_cli.specs.Stopping.{file_of}
use Rattle.run_cli.specs.declared.loading.Role.TheVariants.{Trace}
use Rattle.run_cli.proofs.FewEvents.{answered}
use Rattle.run_cli.proofs.FirstLoads.{all-asked, on-err}
use Rattle.run_cli.proofs.replaying.files_answer.Goals as goal

pub returns-in-Ok-clause-memory : goal.returns-in-Ok-clause-memory
returns-in-Ok-clause-memory g c = on-err c.trace_answer.result (all-asked c.in-Ok.ensures.holds.loaded.asked)

pub returns-in-Ok-clause-answer : goal.returns-in-Ok-clause-answer
returns-in-Ok-clause-answer g c =
    answered c.args.limits.now c.args.source.now (file_of Trace c.args.trace.now) (g.F.Files.view c.args.files.now) (g.F.Files.view c.load_problem_and.new.files)
    c.in-Ok.problem c.in-Ok.bytes.items c.deref.result.now c.trace_answer.result c.in-Ok.ensures.holds c.deref.ensures.value c.trace_answer.ensures
