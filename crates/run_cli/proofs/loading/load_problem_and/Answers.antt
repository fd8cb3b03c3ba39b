use Rattle.std.proofs.Common.{◌∷◌, []}
use Rattle.run_cli.specs.Stopping.{file_of}
use Rattle.run_cli.specs.Sources.{IsSourceStop, source_files, texts_of}
use Rattle.run_cli.proofs.FirstLoads.{both-loaded, stop-sooner, stop-later, from-stop}
use Rattle.run_cli.proofs.SourceReads.{holds-of, refused-of, stopped-of}
use Rattle.run_cli.proofs.loading.load_problem_and.Goals as goal

pub returns-in_err-texts-clause-stop : goal.returns-in_err-texts-clause-stop
returns-in_err-texts-clause-stop g c =
    let before = g.F.Files.view c.args.files.now in
    let between = g.F.Files.view c.load_source.new.files in
    let further = file_of c.args.role c.args.name.now ∷ [] in
    from-stop (IsSourceStop c.args.source.now further before between) c.from_residual.result c.in_err-texts.field-0.0 c.from_residual.ensures
    (stopped-of c.args.source.now further before between c.in_err-texts.field-0.0
    (stop-sooner further (source_files c.args.source.now) before between c.in_err-texts.field-0.0 c.in_err-texts.ensures.stop))

pub returns-in_err-bytes-clause-stop : goal.returns-in_err-bytes-clause-stop
returns-in_err-bytes-clause-stop g c =
    let before = g.F.Files.view c.args.files.now in
    let between = g.F.Files.view c.load_source.new.files in
    let after = g.F.Files.view c.load.new.files in
    let further = file_of c.args.role c.args.name.now ∷ [] in
    from-stop (IsSourceStop c.args.source.now further before after) c.from_residual-in_err-bytes.result c.in_err-bytes.field-0.0 c.from_residual-in_err-bytes.ensures
    (stopped-of c.args.source.now further before after c.in_err-bytes.field-0.0
    (stop-later (source_files c.args.source.now) (texts_of c.in_ok-texts.texts) before between after c.in_ok-texts.ensures.loaded c.in_ok-texts.ensures.contents
    further c.in_err-bytes.field-0.0 c.in_err-bytes.ensures.stop))

pub returns-in_err-problem-clause-stop : goal.returns-in_err-problem-clause-stop
returns-in_err-problem-clause-stop g c =
    let before = g.F.Files.view c.args.files.now in
    let between = g.F.Files.view c.load_source.new.files in
    let after = g.F.Files.view c.load.new.files in
    let further = file_of c.args.role c.args.name.now ∷ [] in
    let texts = texts_of c.in_ok-texts.texts in
    let rest = c.in_ok-bytes.bytes.items ∷ [] in
    let loaded = both-loaded (source_files c.args.source.now) texts before between after c.in_ok-texts.ensures.loaded c.in_ok-texts.ensures.contents further rest c.in_ok-bytes.ensures.loaded in
    from-stop (IsSourceStop c.args.source.now further before after) c.from_residual-in_err-problem.result c.in_err-problem.field-0.0 c.from_residual-in_err-problem.ensures
    (refused-of c.args.source.now further texts rest before after loaded c.in_err-problem.field-0.0 c.in_err-problem.ensures.stop)

pub returns-clause-holds : goal.returns-clause-holds
returns-clause-holds g c =
    let before = g.F.Files.view c.args.files.now in
    let between = g.F.Files.view c.load_source.new.files in
    let after = g.F.Files.view c.load.new.files in
    let further = file_of c.args.role c.args.name.now ∷ [] in
    let texts = texts_of c.in_ok-texts.texts in
    let rest = c.in_ok-bytes.bytes.items ∷ [] in
    let loaded = both-loaded (source_files c.args.source.now) texts before between after c.in_ok-texts.ensures.loaded c.in_ok-texts.ensures.contents further rest c.in_ok-bytes.ensures.loaded in
    holds-of c.args.source.now further texts rest before after loaded c.in_ok-problem.problem c.in_ok-problem.ensures.problem
