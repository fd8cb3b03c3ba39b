use Rattle.std.proofs.Common.{rules}
use Rattle.tp_world.proofs.Entries.{content_of-entries}
use Rattle.tp_world.proofs.files.content_in.Goals as goal

pub returns-in_err-entry : goal.returns-in_err-entry
returns-in_err-entry c = rw (content_of-entries c.args.entries.now c.args.name.now) (search rules)

pub returns : goal.returns
returns c = rw (content_of-entries c.args.entries.now c.args.name.now) (search rules)
