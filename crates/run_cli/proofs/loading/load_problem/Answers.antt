use Rattle.std.proofs.Common.{[]}
use Rattle.run_cli.specs.Sources.{IsSourceStop, source_files, texts_of}
use Rattle.run_cli.proofs.FirstLoads.{alone-loaded, stop-sooner, from-stop}
use Rattle.run_cli.proofs.SourceReads.{holds-if, refused-if, stopped-of}
use Rattle.run_cli.proofs.loading.load_problem.Goals as goal

pub returns-in_err-texts-clause-stop : goal.returns-in_err-texts-clause-stop
returns-in_err-texts-clause-stop g c =
    let before = g.F.Files.view c.args.files.now in
    let after = g.F.Files.view c.load_source.new.files in
    from-stop (IsSourceStop c.args.source.now [] before after) c.from_residual.result c.in_err-texts.field-0.0 c.from_residual.ensures
    (stopped-of c.args.source.now [] before after c.in_err-texts.field-0.0
    (stop-sooner [] (source_files c.args.source.now) before after c.in_err-texts.field-0.0 c.in_err-texts.ensures.stop))

pub returns-clause-holds : goal.returns-clause-holds
returns-clause-holds g c =
    let before = g.F.Files.view c.args.files.now in
    let after = g.F.Files.view c.load_source.new.files in
    let texts = texts_of c.in_ok-texts.texts in
    holds-if c.args.source.now [] texts [] before after (alone-loaded (source_files c.args.source.now) texts before after c.in_ok-texts.ensures.loaded) c.read_source.result c.read_source.ensures.problem

pub returns-clause-stop : goal.returns-clause-stop
returns-clause-stop g c =
    let before = g.F.Files.view c.args.files.now in
    let after = g.F.Files.view c.load_source.new.files in
    let texts = texts_of c.in_ok-texts.texts in
    refused-if c.args.source.now [] texts [] before after (alone-loaded (source_files c.args.source.now) texts before after c.in_ok-texts.ensures.loaded) c.read_source.result c.read_source.ensures.stop
