use Rattle.std.proofs.Common.{◌∷◌, []}
use Rattle.run_cli.specs.Stopping.{IsStop, file_of}
use Rattle.run_cli.specs.declared.loading.Role.TheVariants.{Domain, Problem}
use Rattle.run_cli.proofs.FirstLoads.{stop-sooner, stop-later, from-stop}
use Rattle.run_cli.proofs.loading.load_pair.Goals as goal

pub returns-in_err-first-clause-stop : goal.returns-in_err-first-clause-stop
returns-in_err-first-clause-stop g c =
    let before = g.F.Files.view c.args.files.now in
    let between = g.F.Files.view c.load.new.files in
    from-stop (IsStop (file_of Domain c.args.domain.now ∷ file_of Problem c.args.problem.now ∷ []) before between) c.from_residual.result c.in_err-first.field-0.0 c.from_residual.ensures
    (stop-sooner (file_of Problem c.args.problem.now ∷ []) (file_of Domain c.args.domain.now ∷ []) before between c.in_err-first.field-0.0 c.in_err-first.ensures.stop)

pub returns-in_err-second-clause-stop : goal.returns-in_err-second-clause-stop
returns-in_err-second-clause-stop g c =
    let before = g.F.Files.view c.args.files.now in
    let between = g.F.Files.view c.load.new.files in
    let after = g.F.Files.view c.load-2.new.files in
    from-stop (IsStop (file_of Domain c.args.domain.now ∷ file_of Problem c.args.problem.now ∷ []) before after) c.from_residual-in_err-second.result c.in_err-second.field-0.0 c.from_residual-in_err-second.ensures
    (stop-later (file_of Domain c.args.domain.now ∷ []) (c.in_ok-first.first.items ∷ []) before between after c.in_ok-first.ensures.loaded c.in_ok-first.ensures.contents
    (file_of Problem c.args.problem.now ∷ []) c.in_err-second.field-0.0 c.in_err-second.ensures.stop)
