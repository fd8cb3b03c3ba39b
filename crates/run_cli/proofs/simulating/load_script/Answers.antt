use Rattle.std.proofs.Common.{subst, ℕ, List, Err}
use Rattle.script_text.specs.Scripts.{IsScript}
use Rattle.run_cli.proofs.Scripted.{script-stop}
use Rattle.run_cli.proofs.simulating.load_script.Goals as goal

pub returns-in-Err-clause-stop : goal.returns-in-Err-clause-stop
returns-in-Err-clause-stop g c =
    let read = subst (λ (xs : List ℕ). IsScript xs (Err c.in-Err.fault)) c.deref.ensures.value c.in-Err.ensures.read in
    script-stop c.args.source.now c.args.script.now (g.F.Files.view c.args.files.now) (g.F.Files.view c.load_problem_and.new.files) c.refusal.result
    c.in_ok-problem.ensures.holds (c.refusal.ensures c.in_ok-problem.text.items read)
