use Rattle.std.proofs.Common.{◌∙◌, [], sym}
use Rattle.run_cli.specs.declared.arguments.Argument.TheVariants.{File}
use Rattle.run_cli.proofs.FirstFaults.{found_here}
use Rattle.run_cli.proofs.words.words_fault.Goals as goal

pub returns-in-Some : goal.returns-in-Some
returns-in-Some c =
    found_here c.args.arguments.now c.split_at.result.0.now c.split_at.result.1.now c.loop-index.index (File (record { ref_ptr = (0, 0); now = [] })) c.in-Some.fault
    c.split_at.ensures.front c.split_at.ensures.back c.in-len1-up.len_at_least (sym c.argument_fault.ensures ∙ c.in-Some.is) c.loop-index.invariant
