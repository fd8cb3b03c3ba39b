use Rattle.std.proofs.Common.{sym, ap, ◌∙◌}
use Rattle.run_cli.specs.Options.{is_number}
use Rattle.run_cli.proofs.Numerals.{not_refused}
use Rattle.run_cli.proofs.options.number_in.Goals as goal

pub returns-in-Err-clause-number : goal.returns-in-Err-clause-number
returns-in-Err-clause-number c = absurd (not_refused c.args.text.now c.parse.result c.in-Err.field-0 c.parse.ensures.value.0 (sym (c.if-not-is_number.ensures ∙ ap is_number c.as_bytes.ensures.value)) c.in-Err.is)
