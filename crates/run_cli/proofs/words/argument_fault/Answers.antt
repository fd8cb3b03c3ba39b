use Rattle.std.proofs.Common.{◌∙◌, map, sym, ap}
use Rattle.run_cli.specs.Arguments.{view_of}
use Rattle.run_cli.specs.Orders.{argument_faults, first_of}
use Rattle.run_cli.proofs.words.argument_fault.Goals as goal

pub returns-in-Given : goal.returns-in-Given
returns-in-Given c = c.given_fault.ensures ∙ sym (ap (λ p. first_of (argument_faults (map view_of c.args.before.now) (view_of p))) c.in-Given.is)

pub returns-in-Bare : goal.returns-in-Bare
returns-in-Bare c = c.bare_fault.ensures ∙ sym (ap (λ p. first_of (argument_faults (map view_of c.args.before.now) (view_of p))) c.in-Bare.is)
