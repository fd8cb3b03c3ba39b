use Rattle.grounder.specs.Sources.{source_of}
use Rattle.grounder.specs.Kept.{is_kept}
use Rattle.grounder.proofs.Choices.{behind_none}
use Rattle.grounder.proofs.search.with_substitution.Goals as goal

pub returns : goal.returns
returns c =
    behind_none (is_kept (source_of c.args.start.now.source) c.args.schema.now) c.args.objects.now c.in_ok-passes.passes c.args.kept c.in_ok-more.more c.in_ok-passes.ensures c.in_ok-more.ensures
