use Rattle.std.proofs.Common.{sym, subst, []}
use Rattle.word_network.specs.Conditions.{AreLimits}
use Rattle.run_cli.proofs.Ranges.{limits-are}
use Rattle.run_cli.proofs.words.default_limits.Goals as goal

pub returns-clause-limited : goal.returns-clause-limited
returns-clause-limited c = subst AreLimits (sym c.limits_of.ensures) (limits-are [])
